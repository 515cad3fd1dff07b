-- What the output rule and the timers leave as it was.
use Rattle.std.proofs.Common.{◌≡◌, ℕ, ◌+◌, ◌≤◌, List, [], ◌∷◌, Option, None, Some, Bool, true, false, cond, not, ltb, ◌==◌, ◌&&◌, ◌||◌, length, take, min, max, refl, sym, ap, subst, arith}
use Rattle.byte_queues.specs.ReceiveQueue.{Recv, next_of}
use Rattle.segment_codec.specs.declared.packet.Reply.{Reply}
use Rattle.tcb_machine.specs.BlockState.{Block, offered, to_listen, sends, segment_of, in_flight, snd_nxt, snd_end, unsent}
use Rattle.tcb_machine.specs.Output.{sends_text, sends_pieces, pieces, sendable, outputs_text, outputs_fin, outputs_ack, outputs_deadline, starts, is_sending, output}
use Rattle.tcb_machine.specs.Timers.{Firing, time_wait, retransmission, gives_up, firings, sends_again, retransmits, fires, fires_all, tcp_time}
use Rattle.tcb_machine.specs.declared.kinds.State.{State}
use Rattle.tcb_machine.specs.declared.kinds.State.TheVariants.{Listen, SynReceived, Established, FinWait1, FinWait2, CloseWait, Closing, LastAck, TimeWait}

pub record Same (b c : Block) : Type 0 where
  pub state : c.state ≡ b.state
  pub clock : c.clock ≡ b.clock
  pub recv : c.recv ≡ b.recv
  pub acked : c.acked ≡ b.acked
  pub out : c.out ≡ b.out

chosen : (t : Bool) (a b c : Block) → Same a b → Same a c → Same a (cond t b c)
chosen true a b c p q = p
chosen false a b c p q = q

sent-same : (r : Reply) (a b : Block) → Same a b → Same a (sends r b)
sent-same r a b h = record { state = h.state; clock = h.clock; recv = h.recv; acked = h.acked; out = h.out }

text-sent : (flags : ℕ) (text : List ℕ) (a b : Block) → Same a b → Same a (sends_text flags text b)
unfolding sends_text
text-sent flags text a b h = record { state = h.state; clock = h.clock; recv = h.recv; acked = h.acked; out = h.out }

pieces-same : (ps : List (List ℕ)) (a b : Block) → Same a b → Same a (sends_pieces ps b)
pieces-same [] a b h = h
pieces-same (t ∷ []) a b h = text-sent 24 t a b h
pieces-same (t ∷ u ∷ ts) a b h = pieces-same (u ∷ ts) a (sends_text 16 t b) (text-sent 16 t a b h)

text-same : (a b : Block) → Same a b → Same a (outputs_text b)
unfolding outputs_text
text-same a b h = pieces-same (pieces (length (sendable b)) b.agreed.mss (sendable b)) a b h

fin-same : (a b : Block) → Same a b → Same a (outputs_fin b)
unfolding outputs_fin
fin-same a b h =
    let fin = record (sends (segment_of 17 (snd_nxt b) [] b) b) { fin_sent = true } in
    chosen (b.fin_wanted && (not b.fin_sent && (length (unsent b) == 0))) a fin b (record { state = h.state; clock = h.clock; recv = h.recv; acked = h.acked; out = h.out }) h

ack-same : (n : ℕ) (a b : Block) → Same a b → Same a (outputs_ack n b)
unfolding outputs_ack
ack-same n a b h =
    let ack = sends (segment_of 16 (snd_nxt b) [] b) b in
    quiet _ (chosen (b.ack_due && (length b.replies == n)) a ack b (sent-same (segment_of 16 (snd_nxt b) [] b) a b h) h)
  where
    quiet : (c : Block) → Same a c → Same a (record c { ack_due = false })
    quiet c k = record { state = k.state; clock = k.clock; recv = k.recv; acked = k.acked; out = k.out }

starts-same : (o : Option ℕ) (a b : Block) → Same a b → Same a (starts o b)
starts-same None a b h = record { state = h.state; clock = h.clock; recv = h.recv; acked = h.acked; out = h.out }
starts-same (Some at) a b h = h

deadline-same : (a b : Block) → Same a b → Same a (outputs_deadline b)
unfolding outputs_deadline
deadline-same a b h =
    chosen (not (b.una == snd_nxt b) || ltb 0 (length (unsent b))) a (starts b.retransmit_at b) (record b { retransmit_at = None })
    (starts-same b.retransmit_at a b h) (record { state = h.state; clock = h.clock; recv = h.recv; acked = h.acked; out = h.out })

-- text, FIN and acknowledgement
pub rest-same : (n : ℕ) (b : Block) → Same b (outputs_ack n (outputs_fin (outputs_text b)))
rest-same n b = ack-same n b (outputs_fin (outputs_text b)) (fin-same b (outputs_text b) (text-same b b (record { state = refl; clock = refl; recv = refl; acked = refl; out = refl })))

pub output-same : (b : Block) → Same b (output b)
unfolding output
output-same b =
    let own : Same b b = record { state = refl; clock = refl; recv = refl; acked = refl; out = refl } in
    let n = length b.replies in
    let b1 = outputs_text b in
    let b2 = outputs_fin b1 in
    let b3 = outputs_ack n b2 in
    chosen (is_sending b.state) b (outputs_deadline b3) (outputs_ack n b) (deadline-same b b3 (ack-same n b b2 (fin-same b b1 (text-same b b own)))) (ack-same n b b own)

pub output-offered : (b : Block) → offered (output b) ≡ offered b
unfolding offered
output-offered b = let k = output-same b in let a = k.acked in let o = ap length k.out in omega (arith, a, o)

-- the timers

pub record Less (b c : Block) : Type 0 where
  pub taken : c.recv.taken ≤ b.recv.taken
  pub next : next_of c.recv ≤ next_of b.recv
  pub offered : c.acked + length c.out ≤ b.acked + length b.out

three : (t u : Bool) (q r : Reply) (flags : ℕ) (text : List ℕ) (b : Block) → Same b (cond t (sends q b) (cond u (sends r b) (sends_text flags text b)))
unfolding sends_text
three true u q r flags text b = record { state = refl; clock = refl; recv = refl; acked = refl; out = refl }
three false true q r flags text b = record { state = refl; clock = refl; recv = refl; acked = refl; out = refl }
three false false q r flags text b = record { state = refl; clock = refl; recv = refl; acked = refl; out = refl }

again-same : (b : Block) → Same b (sends_again b)
unfolding sends_again
again-same b =
    three (ltb 0 (in_flight b)) (b.fin_sent && not (b.una == snd_nxt b))
    (segment_of 24 b.una (take (min b.agreed.mss (min (in_flight b) (max 1 b.wnd))) b.out) b)
    (segment_of 17 (snd_end b) [] b) 24 (take 1 (unsent b)) b

pub resent-same : (st : State) (b : Block) → Same b (retransmits st b)
resent-same Listen b = again-same b
resent-same SynReceived b = record { state = refl; clock = refl; recv = refl; acked = refl; out = refl }
resent-same Established b = again-same b
resent-same FinWait1 b = again-same b
resent-same FinWait2 b = again-same b
resent-same CloseWait b = again-same b
resent-same Closing b = again-same b
resent-same LastAck b = again-same b
resent-same TimeWait b = again-same b

fires-less : (f : Firing) (b : Block) → Less b (fires f b)
unfolding fires to_listen next_of
fires-less (time_wait at) b = record { taken = omega arith; next = omega arith; offered = omega arith }
fires-less (gives_up at) b = record { taken = omega arith; next = omega arith; offered = omega arith }
fires-less (retransmission at) b =
    let k = resent-same b.state (record b { clock = at }) in
    let r = ap (λ (q : Recv). q.taken) k.recv in
    let a = k.acked in
    let o = ap length k.out in
    let n = ap next_of k.recv in
    record { taken = omega (arith, r); next = omega (arith, n); offered = omega (arith, a, o) }

all-less : (fs : List Firing) (a b : Block) → Less a b → Less a (fires_all fs b)
all-less [] a b h = h
all-less (f ∷ fs) a b h =
    let k = fires-less f b in
    let t1 = k.taken in
    let n1 = k.next in
    let n2 = h.next in
    let o1 = k.offered in
    let t2 = h.taken in
    let o2 = h.offered in
    all-less fs a (fires f b) (record { taken = omega (arith, t1, t2); next = omega (arith, n1, n2); offered = omega (arith, o1, o2) })

pub time-less : (to : ℕ) (b : Block) → Less b (tcp_time to b)
unfolding tcp_time
time-less to b =
    let k = all-less (firings to b) b b (record { taken = omega arith; next = omega arith; offered = omega arith }) in
    record { taken = k.taken; next = k.next; offered = k.offered }

pub time-offered : (to : ℕ) (b : Block) → offered (tcp_time to b) ≤ offered b
unfolding offered
time-offered to b = (time-less to b).offered

-- where the clock is set at last
pub time-kept : (to : ℕ) (b y : Block) → record y { clock = to } ≡ tcp_time to b → Less b y
time-kept to b y e =
    let k = time-less to b in
    let less : Less b (record y { clock = to }) = subst (λ (x : Block). Less b x) (sym e) k in
    record { taken = less.taken; next = less.next; offered = less.offered }
