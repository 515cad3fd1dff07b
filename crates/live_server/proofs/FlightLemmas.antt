-- How much is under way behind output, and behind a deadline.
use Rattle.std.proofs.Common.{◌≡◌, ℕ, ◌+◌, ◌-◌, ◌%◌, ◌^◌, ◌≤◌, Bool, true, false, cond, not, ltb, ◌==◌, ◌&&◌, ◌||◌, List, [], ◌∷◌, length, Option, None, Some, refl, sym, ap, subst, arith, length-take}
use Rattle.segment_codec.specs.ControlBits.{ack, fin}
use Rattle.sq_base.specs.SerialOrder.{dist}
use Rattle.tcb_machine.specs.BlockState.{Block, one_if, seg_wnd, segment_of, sends, snd_nxt, unsent}
use Rattle.tcb_machine.specs.Output.{is_sending, output, outputs_ack, outputs_deadline, outputs_fin, outputs_text, pieces, sendable, sends_pieces, sends_text, starts}
use Rattle.tcb_machine.specs.TcpStep.{with_window}
use Rattle.tcb_machine.proofs.ValidLemmas.{pieces-total, total}
use Rattle.live_server.specs.Congestion.{flight, seen}
use Rattle.live_server.specs.Promises.{OutputIsBounded, ShownIsKept}
use Rattle.live_server.proofs.PromiseLemmas.{shown_narrow}

-- from one block to another one, by which no more than n bytes were sent, and maybe our FIN
record Ran (n : ℕ) (b c : Block) : Type 0 where
  una : c.una ≡ b.una
  iss : c.iss ≡ b.iss
  least : b.sent ≤ c.sent
  most : c.sent ≤ b.sent + n
  fin : one_if b.fin_sent ≤ one_if c.fin_sent

-- so much further on, so much more is under way at most
further : (una m k : ℕ) → dist una ((m + k) % 2 ^ 32) ≤ dist una (m % 2 ^ 32) + k
further una m k = omega arith

ran_flight : (n : ℕ) (b c : Block) → Ran n b c → flight c + one_if b.fin_sent ≤ flight b + n + one_if c.fin_sent
unfolding snd_nxt
ran_flight n b c r =
    let before : ℕ = b.iss + 1 + b.sent + one_if b.fin_sent in
    let more : ℕ = (c.sent - b.sent) + (one_if c.fin_sent - one_if b.fin_sent) in
    let same : before + more ≡ c.iss + 1 + c.sent + one_if c.fin_sent = omega (arith, r.iss, r.least, r.fin) in
    let moved : dist c.una ((c.iss + 1 + c.sent + one_if c.fin_sent) % 2 ^ 32) ≤ dist b.una (before % 2 ^ 32) + more =
    subst (λ (k : ℕ). dist c.una (k % 2 ^ 32) ≤ dist b.una (before % 2 ^ 32) + more) same
    (subst (λ (u : ℕ). dist u ((before + more) % 2 ^ 32) ≤ dist b.una (before % 2 ^ 32) + more) (sym r.una) (further b.una before more)) in
    omega (arith, moved, r.least, r.most, r.fin)

ran_chosen : (n : ℕ) (t : Bool) (a b c : Block) → Ran n a b → Ran n a c → Ran n a (cond t b c)
ran_chosen n true a b c p q = p
ran_chosen n false a b c p q = q

-- the text
pieces_ran : (n : ℕ) (ps : List (List ℕ)) (a b : Block) → b.una ≡ a.una → b.iss ≡ a.iss → a.sent ≤ b.sent → b.sent + total ps ≤ a.sent + n → b.fin_sent ≡ a.fin_sent → Ran n a (sends_pieces ps b)
unfolding sends_text total
pieces_ran n [] a b una iss least most fin = record { una = una; iss = iss; least = least; most = omega (arith, most); fin = omega (arith, ap one_if fin) }
pieces_ran n (t ∷ []) a b una iss least most fin = record { una = una; iss = iss; least = omega (arith, least); most = omega (arith, most); fin = omega (arith, ap one_if fin) }
pieces_ran n (t ∷ u ∷ ts) a b una iss least most fin = pieces_ran n (u ∷ ts) a (sends_text ack t b) una iss (omega (arith, least)) (omega (arith, most)) fin

text_ran : (b : Block) → Ran (b.wnd - flight b) b (outputs_text b)
unfolding outputs_text sendable
text_ran b =
    let all = pieces-total (length (sendable b)) b.agreed.mss (sendable b) in
    let few = length-take (b.wnd - dist b.una (snd_nxt b)) (unsent b) in
    pieces_ran (b.wnd - flight b) (pieces (length (sendable b)) b.agreed.mss (sendable b)) b b refl refl (omega arith) (omega (arith, all, few)) refl

-- our FIN
fin_ran : (n : ℕ) (a b : Block) → Ran n a b → Ran n a (outputs_fin b)
unfolding outputs_fin
fin_ran n a b r =
    let f : Block = record (sends (segment_of (fin + ack) (snd_nxt b) [] b) b) { fin_sent = true } in
    ran_chosen n (b.fin_wanted && (not b.fin_sent && (length (unsent b) == 0))) a f b
    (record { una = r.una; iss = r.iss; least = r.least; most = r.most; fin = most_one a.fin_sent }) r
  where
    most_one : (t : Bool) → one_if t ≤ 1
    most_one true = omega arith
    most_one false = omega arith

-- nothing else counts
ack_ran : (n count : ℕ) (a b : Block) → Ran n a b → Ran n a (outputs_ack count b)
unfolding outputs_ack
ack_ran n count a b r =
    let c : Block = sends (segment_of ack (snd_nxt b) [] b) b in
    quiet _ (ran_chosen n (b.ack_due && (length b.replies == count)) a c b (record { una = r.una; iss = r.iss; least = r.least; most = r.most; fin = r.fin }) r)
  where
    quiet : (c : Block) → Ran n a c → Ran n a (record c { ack_due = false })
    quiet c k = record { una = k.una; iss = k.iss; least = k.least; most = k.most; fin = k.fin }

starts_ran : (n : ℕ) (o : Option ℕ) (a b : Block) → Ran n a b → Ran n a (starts o b)
starts_ran n None a b r = record { una = r.una; iss = r.iss; least = r.least; most = r.most; fin = r.fin }
starts_ran n (Some at) a b r = r

deadline_ran : (n : ℕ) (a b : Block) → Ran n a b → Ran n a (outputs_deadline b)
unfolding outputs_deadline
deadline_ran n a b r =
    ran_chosen n (not (b.una == snd_nxt b) || ltb 0 (length (unsent b))) a (starts b.retransmit_at b) (record b { retransmit_at = None })
    (starts_ran n b.retransmit_at a b r) (record { una = r.una; iss = r.iss; least = r.least; most = r.most; fin = r.fin })

output_ran : (b : Block) → Ran (b.wnd - flight b) b (output b)
unfolding output
output_ran b =
    let n : ℕ = b.wnd - flight b in
    let b1 = outputs_text b in
    let b2 = outputs_fin b1 in
    let still : Ran n b b = record { una = refl; iss = refl; least = omega arith; most = omega arith; fin = omega arith } in
    ran_chosen n (is_sending b.state) b (outputs_deadline (outputs_ack (length b.replies) b2)) (outputs_ack (length b.replies) b)
    (deadline_ran n b (outputs_ack (length b.replies) b2) (ack_ran n (length b.replies) b b2 (fin_ran n b b1 (text_ran b)))) (ack_ran n (length b.replies) b b still)

pub output_bounded : OutputIsBounded
output_bounded b = let all = ran_flight (b.wnd - flight b) b (output b) (output_ran b) in omega (arith, all)

-- where the window was shown
pub shown_kept : ShownIsKept
unfolding seg_wnd snd_nxt
shown_kept s b x plain =
    let c : Block = with_window (seen s b x) b in
    let few = (shown_narrow s b x plain).0 in
    let all = ran_flight (c.wnd - flight c) c (output c) (output_ran c) in
    omega (arith, all, few)
