-- A block that forgets the text behind a gap.
use Rattle.std.proofs.Common.{◌≡◌, ℕ, ◌+◌, ◌%◌, ◌^◌, ◌≤◌, ◌<◌, length, sym, ap, subst, arith, length-take}
use Rattle.byte_queues.specs.ReceiveQueue.{Recv, front, next_of, without_ahead}
use Rattle.byte_queues.proofs.AheadLemmas.{next-ahead, window-ahead, held-ahead, less-ahead}
use Rattle.tcb_machine.specs.BlockState.{Block, held_in, offered, one_if, rcv_nxt, rcv_wnd, snd_nxt, to_listen}
use Rattle.tcb_machine.specs.Forgetting.{forgetting}
use Rattle.tcb_machine.specs.Numbering.{IsNumbered}
use Rattle.tcb_machine.specs.Room.{StreamsBelow}
use Rattle.tcb_machine.specs.States.{is_consumed}
use Rattle.tcb_machine.specs.TcpStep.{is_fin_acked}
use Rattle.tcb_machine.specs.Validity.{IsReceiving, IsValid}

-- the queue

pub next_forgotten : (q : Recv) → next_of (without_ahead q) ≡ next_of q
next_forgotten q = next-ahead q

pub ahead_below : (q : Recv) → q.taken + length q.got ≤ q.edge → (without_ahead q).taken + length (without_ahead q).got ≤ (without_ahead q).edge
unfolding without_ahead
ahead_below q h = let l = length-take (front q.got) q.got in omega (arith, l, h)

-- what is read off the block

pub forgetting-number : (b : Block) → rcv_nxt (forgetting b) ≡ rcv_nxt b
unfolding rcv_nxt forgetting
forgetting-number b = ap (λ (n : ℕ). (b.irs + 1 + n + one_if (is_consumed b.state)) % 2 ^ 32) (next-ahead b.recv)

pub forgetting-window : (b : Block) → rcv_wnd (forgetting b) ≡ rcv_wnd b
unfolding rcv_wnd forgetting
forgetting-window b = window-ahead b.recv

pub forgetting-order : (b : Block) → held_in (forgetting b) ≡ front b.recv.got + length b.out
unfolding forgetting
forgetting-order b = ap (λ (n : ℕ). n + length b.out) (held-ahead b.recv)

pub forgetting-less : (b : Block) → held_in (forgetting b) ≤ held_in b
unfolding forgetting
forgetting-less b = let e = less-ahead b.recv in omega (arith, e)

-- what holds of it

receiving : (want : ℕ) (q : Recv) → IsReceiving want q → IsReceiving want (without_ahead q)
unfolding without_ahead
receiving want q h = record { asked = h.asked; cap = h.cap; space = h.space; below = ahead_below q h.below; read = let e = next-ahead q in let r = h.read in omega (arith, e, r) }

forgetting-new : (b : Block) → b ≡ to_listen b → forgetting b ≡ to_listen (forgetting b)
unfolding to_listen forgetting without_ahead
forgetting-new b e = ap forgetting e

pub forgetting-valid : (b : Block) → IsValid b → IsValid (forgetting b)
unfolding forgetting
forgetting-valid b v = record { recv = receiving b.want b.recv v.recv; send = v.send; mss = v.mss; timed = v.timed; ours = v.ours; new = λ e. forgetting-new b (v.new e) }

pub forgetting-numbers : (b : Block) → IsNumbered b → IsNumbered (forgetting b)
unfolding forgetting is_fin_acked snd_nxt
forgetting-numbers b n = record { una = n.una; before = n.before; iss = n.iss; wanted = n.wanted; last = n.last; held = n.held }

pub forgetting-room : (most : ℕ) (b : Block) → StreamsBelow most b → StreamsBelow most (forgetting b)
unfolding forgetting offered
forgetting-room most b h = (subst (λ (n : ℕ). n < most) (sym (next-ahead b.recv)) h.0, h.1)
