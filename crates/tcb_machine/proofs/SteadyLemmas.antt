-- An arriving segment sets the clock, and raises neither the count of bytes taken nor that of bytes offered.
use Rattle.std.proofs.Common.{◌≡◌, ℕ, ◌+◌, ◌-◌, ◌≤◌, List, Option, None, Some, Bool, true, false, cond, not, ◌==◌, ◌&&◌, ◌||◌, length, drop, min, refl, ap, ◌∙◌, subst, arith, length-drop}
use Rattle.segment_codec.specs.declared.packet.Seg.{Seg}
use Rattle.byte_queues.specs.ReceiveQueue.{Recv, next_of, placed, with_end, is_ended}
use Rattle.sq_base.specs.SerialOrder.{dist}
use Rattle.tcb_machine.specs.BlockState.{Block, rst_of, to_listen, has, in_flight, rcv_nxt, sends_ack, sends}
use Rattle.segment_codec.specs.ControlBits.{ack, fin, rst, syn}
use Rattle.tcb_machine.specs.TcpStep.{sends_syn_ack, waits, ahead, Verdict, over, go, on, and_then, opened, listen, is_acceptable, is_time_wait, refused, check_sequence, check_reset, syn_again, check_syn, ack_kind, is_before, with_window, takes_window, takes_ack, in_time_wait, after_ack, is_fin_acked, acknowledged, established, ack_in, check_ack, consumes, closes, is_end_kept, keeps_end, takes_fin, takes_text, check_text, repeated, first_checks, arrives, in_state, tcp_segment, said}
use Rattle.tcb_machine.specs.declared.kinds.State.{State}
use Rattle.tcb_machine.specs.declared.kinds.State.TheVariants.{Listen, SynReceived, Established, FinWait1, FinWait2, CloseWait, Closing, LastAck, TimeWait}
use Rattle.tcb_machine.specs.declared.kinds.AckKind.{AckKind}
use Rattle.tcb_machine.specs.declared.kinds.AckKind.TheVariants.{Fresh, Equal, Old, Beyond}
use Rattle.tcb_machine.specs.declared.kinds.Next.{Next}
use Rattle.tcb_machine.specs.declared.kinds.Next.TheVariants.{Over, Go}
use Rattle.tcb_machine.proofs.QueueLemmas.{placed_taken}

pub record Steady (b c : Block) : Type 0 where
  pub clock : c.clock ≡ b.clock
  pub taken : c.recv.taken ≤ b.recv.taken
  pub offered : c.acked + length c.out ≤ b.acked + length b.out
  pub bound : c.sent ≤ c.acked + length c.out

abbrev pub block_in : Verdict → Block
block_in (over b) = b
block_in (go b) = b
block_in (on b) = b

pub record Says (b : Block) (v : Verdict) : Type 0 where
  pub steady : Steady b (block_in v)

is-over : (b c : Block) → Steady b c → Says b (over c)
is-over b c h = record { steady = h }

is-go : (b c : Block) → Steady b c → Says b (go c)
is-go b c h = record { steady = h }

is-on : (b c : Block) → Steady b c → Says b (on c)
is-on b c h = record { steady = h }

says-cond : (t : Bool) (b : Block) (v w : Verdict) → Says b v → Says b w → Says b (cond t v w)
says-cond true b v w p q = p
says-cond false b v w p q = q

steady-cond : (t : Bool) (b x y : Block) → Steady b x → Steady b y → Steady b (cond t x y)
steady-cond true b x y p q = p
steady-cond false b x y p q = q

says-then : (b : Block) (v : Verdict) (f : Block → Verdict) → Says b v → ((c : Block) → Steady b c → Says b (f c)) → Says b (and_then v f)
says-then b (over c) f h g = h
says-then b (go c) f h g = h
says-then b (on c) f h g = g c h.steady

listened : (b c : Block) → Steady b c → Steady b (to_listen c)
unfolding to_listen
listened b c h = let k = h.clock in record { clock = k; taken = omega arith; offered = omega arith; bound = omega arith }

sent-ack : (b c : Block) → Steady b c → Steady b (sends_ack c)
sent-ack b c h = record { clock = h.clock; taken = h.taken; offered = h.offered; bound = h.bound }

open-steady : (s : Seg) (iss : ℕ) (b c : Block) → Steady b c → Steady b (opened s iss c)
unfolding opened
open-steady s iss b c h = record { clock = h.clock; taken = omega arith; offered = h.offered; bound = h.bound }

listen-steady : (s : Seg) (iss : ℕ) (b c : Block) → Steady b c → Says b (listen s iss c)
unfolding listen
listen-steady s iss b c h =
    let o = open-steady s iss b c h in
    let reset : Steady b (sends (rst_of s c) c) = record { clock = h.clock; taken = h.taken; offered = h.offered; bound = h.bound } in
    let answer : Steady b (sends_syn_ack (opened s iss c)) = record { clock = o.clock; taken = o.taken; offered = o.offered; bound = o.bound } in
    says-cond (has s.flags rst) b (over c) _ (is-over b c h)
    (says-cond (has s.flags ack) b (over (sends (rst_of s c) c)) _ (is-over b (sends (rst_of s c) c) reset)
    (says-cond (has s.flags syn) b (over (sends_syn_ack (opened s iss c))) (over c) (is-over b (sends_syn_ack (opened s iss c)) answer) (is-over b c h)))

refuse-steady : (s : Seg) (b c : Block) → Steady b c → Says b (refused s c)
unfolding refused
refuse-steady s b c h =
    let waits_steady : Steady b (waits (sends_ack c)) = record { clock = h.clock; taken = h.taken; offered = h.offered; bound = h.bound } in
    says-cond (has s.flags rst) b (over c) _ (is-over b c h)
    (says-cond (is_time_wait c.state && has s.flags fin) b (over (waits (sends_ack c))) (over (sends_ack c)) (is-over b (waits (sends_ack c)) waits_steady) (is-over b (sends_ack c) (sent-ack b c h)))

sequence-steady : (s : Seg) (text : List ℕ) (b c : Block) → Steady b c → Says b (check_sequence s text c)
unfolding check_sequence
sequence-steady s text b c h = says-cond (is_acceptable s text c) b (on c) (refused s c) (is-on b c h) (refuse-steady s b c h)

reset-steady : (s : Seg) (b c : Block) → Steady b c → Says b (check_reset s c)
unfolding check_reset
reset-steady s b c h =
    says-cond (not (has s.flags rst)) b (on c) _ (is-on b c h)
    (says-cond (s.seq == rcv_nxt c) b (over (to_listen c)) (over (sends_ack c)) (is-over b (to_listen c) (listened b c h)) (is-over b (sends_ack c) (sent-ack b c h)))

again-steady : (st : State) (b c : Block) → Steady b c → Says b (syn_again st c)
again-steady SynReceived b c h = record { steady = listened b c h }
again-steady Listen b c h = record { steady = sent-ack b c h }
again-steady Established b c h = record { steady = sent-ack b c h }
again-steady FinWait1 b c h = record { steady = sent-ack b c h }
again-steady FinWait2 b c h = record { steady = sent-ack b c h }
again-steady CloseWait b c h = record { steady = sent-ack b c h }
again-steady Closing b c h = record { steady = sent-ack b c h }
again-steady LastAck b c h = record { steady = sent-ack b c h }
again-steady TimeWait b c h = record { steady = sent-ack b c h }

syn-steady : (s : Seg) (b c : Block) → Steady b c → Says b (check_syn s c)
unfolding check_syn
syn-steady s b c h = says-cond (has s.flags syn) b (syn_again c.state c) (on c) (again-steady c.state b c h) (is-on b c h)

window-steady : (s : Seg) (b c : Block) → Steady b c → Steady b (takes_window s c)
unfolding takes_window
window-steady s b c h = steady-cond (is_before c.wl1 s.seq || ((c.wl1 == s.seq) && not (is_before s.ack c.wl2))) b (with_window s c) c (record { clock = h.clock; taken = h.taken; offered = h.offered; bound = h.bound }) h

ack-steady : (s : Seg) (b c : Block) → Steady b c → Steady b (takes_ack s c)
unfolding takes_ack
ack-steady s b c h =
    let n = min (in_flight c) (dist c.una s.ack) in
    let l = length-drop n c.out in
    let o = h.offered in
    let w = h.bound in
    record { clock = h.clock; taken = h.taken; offered = omega (arith, l, o, w); bound = omega (arith, l, w) }

wait-steady : (b c : Block) → Steady b c → Steady b (in_time_wait c)
unfolding in_time_wait
wait-steady b c h = record { clock = h.clock; taken = h.taken; offered = h.offered; bound = h.bound }

in-state-steady : (st : State) (b c : Block) → Steady b c → Steady b (record c { state = st })
in-state-steady st b c h = record { clock = h.clock; taken = h.taken; offered = h.offered; bound = h.bound }

after-steady : (st : State) (t : Bool) (b c : Block) → Steady b c → Says b (after_ack st t c)
after-steady Established t b c h = is-on b c h
after-steady FinWait1 true b c h = record { steady = in-state-steady FinWait2 b c h }
after-steady FinWait1 false b c h = is-on b c h
after-steady FinWait2 t b c h = is-on b c h
after-steady CloseWait t b c h = is-go b c h
after-steady Closing true b c h = record { steady = wait-steady b c h }
after-steady Closing false b c h = is-go b c h
after-steady LastAck true b c h = record { steady = listened b c h }
after-steady LastAck false b c h = is-go b c h
after-steady Listen t b c h = is-over b c h
after-steady SynReceived t b c h = is-over b c h
after-steady TimeWait t b c h = is-over b c h

acknowledged-steady : (k : AckKind) (s : Seg) (b c : Block) → Steady b c → Says b (acknowledged k s c)
unfolding acknowledged
acknowledged-steady Fresh s b c h = let d = takes_window s (takes_ack s c) in after-steady d.state (is_fin_acked d) b d (window-steady s b (takes_ack s c) (ack-steady s b c h))
acknowledged-steady Equal s b c h = let d = takes_window s c in after-steady d.state (is_fin_acked d) b d (window-steady s b c h)
acknowledged-steady Old s b c h = after-steady c.state (is_fin_acked c) b c h
acknowledged-steady Beyond s b c h = record { steady = sent-ack b c h }

established-steady : (k : AckKind) (s : Seg) (b c : Block) → Steady b c → Says b (established k s c)
established-steady Fresh s b c h = acknowledged-steady Fresh s b (record (with_window s c) { state = Established }) (record { clock = h.clock; taken = h.taken; offered = h.offered; bound = h.bound })
established-steady Equal s b c h = record { steady = record { clock = h.clock; taken = h.taken; offered = h.offered; bound = h.bound } }
established-steady Old s b c h = record { steady = record { clock = h.clock; taken = h.taken; offered = h.offered; bound = h.bound } }
established-steady Beyond s b c h = record { steady = record { clock = h.clock; taken = h.taken; offered = h.offered; bound = h.bound } }

ack-in-steady : (st : State) (k : AckKind) (s : Seg) (b c : Block) → Steady b c → Says b (ack_in st k s c)
ack-in-steady Listen k s b c h = is-over b c h
ack-in-steady SynReceived k s b c h = established-steady k s b c h
ack-in-steady Established k s b c h = acknowledged-steady k s b c h
ack-in-steady FinWait1 k s b c h = acknowledged-steady k s b c h
ack-in-steady FinWait2 k s b c h = acknowledged-steady k s b c h
ack-in-steady CloseWait k s b c h = acknowledged-steady k s b c h
ack-in-steady Closing k s b c h = acknowledged-steady k s b c h
ack-in-steady LastAck k s b c h = acknowledged-steady k s b c h
ack-in-steady TimeWait k s b c h = is-over b c h

check-ack-steady : (s : Seg) (b c : Block) → Steady b c → Says b (check_ack s c)
unfolding check_ack
check-ack-steady s b c h = says-cond (has s.flags ack) b (ack_in c.state (ack_kind s.ack c) s c) (over c) (ack-in-steady c.state (ack_kind s.ack c) s b c h) (is-over b c h)

due-steady : (b c : Block) → Steady b c → Steady b (record c { ack_due = true })
due-steady b c h = record { clock = h.clock; taken = h.taken; offered = h.offered; bound = h.bound }

consumes-steady : (st : State) (b c : Block) → Steady b c → Steady b (consumes st c)
consumes-steady Listen b c h = h
consumes-steady SynReceived b c h = h
consumes-steady Established b c h = in-state-steady CloseWait b c h
consumes-steady FinWait1 b c h = in-state-steady Closing b c h
consumes-steady FinWait2 b c h = wait-steady b c h
consumes-steady CloseWait b c h = h
consumes-steady Closing b c h = h
consumes-steady LastAck b c h = h
consumes-steady TimeWait b c h = h

closes-steady : (b c : Block) → Steady b c → Says b (closes c)
unfolding closes
closes-steady b c h = says-cond (is_ended c.recv) b (go (consumes c.state (record c { ack_due = true }))) (go c) (record { steady = consumes-steady c.state b (record c { ack_due = true }) (due-steady b c h) }) (is-go b c h)

pub end-taken : (f : ℕ) (q : Recv) → (keeps_end f q).taken ≡ q.taken
unfolding keeps_end with_end
end-taken f q = chosen (is_end_kept f q)
  where
    chosen : (t : Bool) → (cond t (record q { stream_end = Some f }) q).taken ≡ q.taken
    chosen true = refl
    chosen false = refl

fin-steady : (s : Seg) (f : ℕ) (b c : Block) → Steady b c → Steady b (takes_fin s f c)
unfolding takes_fin
fin-steady s f b c h =
    let e = end-taken f c.recv in
    let t = h.taken in
    steady-cond (has s.flags fin) b (record c { recv = keeps_end f c.recv; ack_due = true }) c (record { clock = h.clock; taken = omega (arith, e, t); offered = h.offered; bound = h.bound }) h

text-steady : (at : ℕ) (fresh : List ℕ) (o : Option Recv) (s : Seg) (f : ℕ) (b c : Block) → placed at fresh c.recv ≡ o → Steady b c → Steady b (takes_text o s f c)
text-steady at fresh None s f b c e h = due-steady b c h
text-steady at fresh (Some q) s f b c e h =
    let same = placed_taken at fresh c.recv q e in
    let t = h.taken in
    fin-steady s f b (record c { recv = q; ack_due = true }) (record { clock = h.clock; taken = omega (arith, same, t); offered = h.offered; bound = h.bound })

check-text-steady : (s : Seg) (text : List ℕ) (b c : Block) → Steady b c → Says b (check_text s text c)
unfolding check_text
check-text-steady s text b c h =
    let at = next_of c.recv + ahead s c in
    let f = at + length text - repeated s c in
    let fresh = drop (repeated s c) text in
    let kept = takes_text (placed at fresh c.recv) s f c in
    says-cond (length text == 0) b (closes (takes_fin s f c)) (closes kept) (closes-steady b (takes_fin s f c) (fin-steady s f b c h))
    (closes-steady b kept (text-steady at fresh (placed at fresh c.recv) s f b c refl h))

arrives-steady : (s : Seg) (text : List ℕ) (b c : Block) → Steady b c → Says b (arrives s text c)
unfolding arrives first_checks
arrives-steady s text b c h =
    let v1 = check_sequence s text c in
    let v2 = and_then v1 (check_reset s) in
    let v3 = and_then v2 (check_syn s) in
    let v4 = and_then v3 (check_ack s) in
    says-then b v4 (check_text s text)
    (says-then b v3 (check_ack s)
    (says-then b v2 (check_syn s)
    (says-then b v1 (check_reset s) (sequence-steady s text b c h) (reset-steady s b))
    (syn-steady s b))
    (check-ack-steady s b))
    (check-text-steady s text b)

in-steady : (st : State) (s : Seg) (iss : ℕ) (text : List ℕ) (b c : Block) → Steady b c → Says b (in_state st s iss text c)
in-steady Listen s iss text b c h = listen-steady s iss b c h
in-steady SynReceived s iss text b c h = arrives-steady s text b c h
in-steady Established s iss text b c h = arrives-steady s text b c h
in-steady FinWait1 s iss text b c h = arrives-steady s text b c h
in-steady FinWait2 s iss text b c h = arrives-steady s text b c h
in-steady CloseWait s iss text b c h = arrives-steady s text b c h
in-steady Closing s iss text b c h = arrives-steady s text b c h
in-steady LastAck s iss text b c h = arrives-steady s text b c h
in-steady TimeWait s iss text b c h = arrives-steady s text b c h

pub segment-steady : (now iss : ℕ) (s : Seg) (text : List ℕ) (b : Block) → b.sent ≤ b.acked + length b.out → Says (record b { clock = now }) (tcp_segment now iss s text b)
unfolding tcp_segment
segment-steady now iss s text b h =
    in-steady b.state s iss text (record b { clock = now }) (record b { clock = now }) (record { clock = refl; taken = omega arith; offered = omega arith; bound = h })

said-block : (n : Next) (y : Block) → block_in (said n y) ≡ y
said-block Over y = refl
said-block Go y = refl

-- what an answer says of the block that it leaves, from the block before
pub steady-said : (now iss : ℕ) (s : Seg) (text : List ℕ) (n : Next) (a b y : Block) → a ≡ b → a.sent ≤ a.acked + length a.out → tcp_segment now iss s text a ≡ said n y → Steady (record b { clock = now }) y
steady-said now iss s text n a b y same sent h =
    subst (λ (x : Block). Steady (record x { clock = now }) y) same
    (subst (λ (x : Block). Steady (record a { clock = now }) x) (ap block_in h ∙ said-block n y) (segment-steady now iss s text a sent).steady)
