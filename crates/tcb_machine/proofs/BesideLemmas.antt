-- A block that a server beside it sets or sends from.
use Rattle.std.proofs.Common.{◌≡◌, ℕ, ◌+◌, ◌-◌, ◌%◌, ◌^◌, ◌<◌, ◌≤◌, [], Option, None, Some, Bool, true, false, cond, take, drop, inl, refl, sym, ◌∙◌, arith, length-take}
use Rattle.std.specs.Prelude.{All}
use Rattle.std.proofs.lemmas.Bool.{true≢false}
use Rattle.std.proofs.lemmas.Option.{none-some}
use Rattle.segment_codec.specs.ControlBits.{ack, psh, rst}
use Rattle.segment_codec.specs.PlainSegments.{plain}
use Rattle.segment_codec.specs.declared.packet.Reply.{Reply}
use Rattle.tcb_machine.specs.Beside.{IsKept, aborting, is_reset_sent, moved_to, probing, resending, retiming, showing}
use Rattle.tcb_machine.specs.BlockState.{Block, IsOurs, offered, segment_of, sends, snd_nxt, to_listen}
use Rattle.tcb_machine.specs.Numbering.{IsNumbered}
use Rattle.tcb_machine.specs.Room.{StreamsBelow}
use Rattle.tcb_machine.specs.States.{is_listen}
use Rattle.tcb_machine.specs.TcpStep.{is_fin_acked}
use Rattle.tcb_machine.specs.Validity.{IsTimed, IsValid}
use Rattle.tcb_machine.specs.declared.kinds.State.{State}
use Rattle.byte_queues.specs.ReceiveQueue.{next_of}
use Rattle.tcb_machine.proofs.NumberLemmas.{listen-num, numbered}
use Rattle.tcb_machine.proofs.ValidLemmas.{listened, ours-more, segment-ours}

-- deadlines

moved-none : (at : ℕ) (o : Option ℕ) → o ≡ None → moved_to at o ≡ None
moved-none at o e = elim o as (λ p. p ≡ None → moved_to at p ≡ None) [ None ↦ λ f. refl | Some n ↦ λ f. absurd (none-some n (sym f)) ] e

retimed-timed : (st : State) (w r : Option ℕ) (at : ℕ) → IsTimed st w r → IsTimed st w (moved_to at r)
retimed-timed st w r at t = record { elsewhere = t.elsewhere; there = λ e. moved-none at r (t.there e) }

pub retiming-keeps : (rto : ℕ) (b : Block) → is_listen b.state ≡ false → IsKept b (retiming rto b)
unfolding retiming is_fin_acked snd_nxt offered
retiming-keeps rto b o = record {
  valid = λ v. record { recv = v.recv; send = v.send; mss = v.mss; timed = retimed-timed b.state b.time_wait_at b.retransmit_at (b.clock + rto) v.timed; ours = v.ours; new = λ e. absurd (true≢false (sym e ∙ o)) };
  numbers = λ n. record { una = n.una; before = n.before; iss = n.iss; wanted = n.wanted; last = n.last; held = n.held };
  room = λ limit h. h;
}

pub showing-keeps : (window : ℕ) (b : Block) → is_listen b.state ≡ false → IsKept b (showing window b)
unfolding showing is_fin_acked snd_nxt offered
showing-keeps window b o = record {
  valid = λ v. record { recv = v.recv; send = v.send; mss = v.mss; timed = v.timed; ours = v.ours; new = λ e. absurd (true≢false (sym e ∙ o)) };
  numbers = λ n. record { una = n.una; before = n.before; iss = n.iss; wanted = n.wanted; last = n.last; held = n.held };
  room = λ limit h. h;
}

-- one segment more

sent-numbers : (r : Reply) (b : Block) → IsNumbered b → IsNumbered (sends r b)
unfolding is_fin_acked snd_nxt
sent-numbers r b n = record { una = n.una; before = n.before; iss = n.iss; wanted = n.wanted; last = n.last; held = n.held }

sent-valid : (r : Reply) (b : Block) → is_listen b.state ≡ false → IsOurs r → IsValid b → IsValid (sends r b)
sent-valid r b o i v = record { recv = v.recv; send = v.send; mss = v.mss; timed = v.timed; ours = ours-more b.replies r v.ours i; new = λ e. absurd (true≢false (sym e ∙ o)) }

sent-room : (r : Reply) (b : Block) (limit : ℕ) → StreamsBelow limit b → StreamsBelow limit (sends r b)
unfolding offered
sent-room r b limit h = h

pub resending-keeps : (from n : ℕ) (b : Block) → is_listen b.state ≡ false → n ≤ b.agreed.mss → IsKept b (resending from n b)
unfolding resending
resending-keeps from n b o h =
    let text = take n (drop from b.out) in
    let r = segment_of (psh + ack) ((b.una + from) % 2 ^ 32) text b in
    let l = length-take n (drop from b.out) in
    record {
      valid = λ v. let m = v.mss in sent-valid r b o (segment-ours (psh + ack) ((b.una + from) % 2 ^ 32) text b (omega arith) (omega (arith, l, h, m))) v;
      numbers = sent-numbers r b;
      room = sent-room r b;
    }

pub probing-keeps : (b : Block) → is_listen b.state ≡ false → IsKept b (probing b)
unfolding probing
probing-keeps b o =
    let seq = (snd_nxt b + (2 ^ 32 - 1)) % 2 ^ 32 in
    let r = segment_of ack seq [] b in
    record { valid = sent-valid r b o (segment-ours ack seq [] b (omega arith) (omega arith)); numbers = sent-numbers r b; room = sent-room r b }

-- an abort

reset-ours : (b : Block) → IsOurs (plain b.clock rst (snd_nxt b) 0 0 [])
reset-ours b = record { text = omega arith; flags = omega arith; options = inl refl }

listened-valid : (c b : Block) → c.want ≡ b.want → IsValid b → All IsOurs c.replies → IsValid (to_listen c)
listened-valid c b e v o = let a = v.recv.asked in listened c (omega (arith, e, a)) o

listened-room : (c : Block) (limit : ℕ) → 0 < limit → StreamsBelow limit (to_listen c)
unfolding to_listen next_of offered
listened-room c limit h = (omega (arith, h), omega (arith, h))

listened-keeps : (b c : Block) → c.want ≡ b.want → (IsValid b → All IsOurs c.replies) → IsKept b (to_listen c)
listened-keeps b c e o = record {
  valid = λ v. listened-valid c b e v (o v);
  numbers = λ n. numbered (to_listen c) (listen-num c);
  room = λ limit h. let hn = h.0 in listened-room c limit (omega (arith, hn));
}

kept-either : (t : Bool) (b : Block) → IsKept b (to_listen (cond t (sends (plain b.clock rst (snd_nxt b) 0 0 []) b) b))
kept-either true b = listened-keeps b (sends (plain b.clock rst (snd_nxt b) 0 0 []) b) refl (λ v. ours-more b.replies (plain b.clock rst (snd_nxt b) 0 0 []) v.ours (reset-ours b))
kept-either false b = listened-keeps b b refl (λ v. v.ours)

pub aborting-keeps : (b : Block) → IsKept b (aborting b)
unfolding aborting
aborting-keeps b = kept-either (is_reset_sent b.state) b
