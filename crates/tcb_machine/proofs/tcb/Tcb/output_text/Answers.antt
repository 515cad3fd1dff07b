use Rattle.std.proofs.Common.{rules, ◌≡◌, ℕ, ◌+◌, ◌-◌, ◌≤◌, length, take, min, arith, refl, ap, ◌∙◌}
use Rattle.sq_base.specs.SerialOrder.{dist}
use Rattle.tcb_machine.specs.BlockState.{Block, unsent, snd_nxt}
use Rattle.segment_codec.specs.ControlBits.{ack, psh}
use Rattle.tcb_machine.specs.Output.{sends_text, pieces, sends_pieces}
use Rattle.tcb_machine.proofs.PieceLemmas.{text-first, left-more, left-last, left-kept, unsent-length}
use Rattle.tcb_machine.proofs.tcb.Tcb.output_text.Goals as goal

pub loop-left-init : goal.loop-left-init
loop-left-init c =
    let b = c.args.self.now in
    let size : c.from-most.result ≡ b.agreed.mss = c.from-most.ensures ∙ ap (λ (x : Block). x.agreed.mss) c.self.view_is in
    let usable : c.saturating_sub-usable.result ≡ b.wnd - dist b.una (snd_nxt b) = search (rules, c.self.view_is) in
    let left : c.min-left.result ≡ min c.saturating_sub-usable.result (length (unsent b)) = search rules in
    let mss : c.self.inside.agreed.mss ≡ b.agreed.mss = ap (λ (x : Block). x.agreed.mss) c.self.view_is in
    let acked : c.self.inside.acked ≡ b.acked = ap (λ (x : Block). x.acked) c.self.view_is in
    let sent : c.self.inside.sent ≡ b.sent = ap (λ (x : Block). x.sent) c.self.view_is in
    let out : length c.self.inside.send ≡ length b.out = ap (λ (x : Block). length x.out) c.self.view_is in
    let held : c.min-left.result ≤ 65535 = omega (arith, left, unsent-length b, out, c.self.invariant.held) in
    record {
      opened = c.requires.open;
      size = size;
      some = omega (arith, size, mss, c.self.invariant.mss);
      small = omega (arith, size, mss, c.self.invariant.most);
      within = omega (arith, left);
      ordered = omega (arith, acked, sent, c.self.invariant.sent_acked);
      state = refl;
      clock = refl;
      recv = refl;
      acked = refl;
      out = refl;
      held = held;
      rest = ap (λ (m : ℕ). sends_pieces (pieces c.min-left.result m (take c.min-left.result (unsent b))) b) size
          ∙ text-first c.saturating_sub-usable.result c.min-left.result b usable left;
    }

pub loop-left-preserved : goal.loop-left-preserved
loop-left-preserved c =
    let e : c.send_text.new.self ≡ sends_text ack (take c.from-most.result (unsent c.loop-left.self)) c.loop-left.self = search rules in
    left-more c.loop-left.left c.from-most.result c.loop-left.self c.args.self.now c.send_text.new.self c.loop-left.invariant (omega (arith, c.loop-left-test.true)) e

pub returns-in_ok-send_text-2 : goal.returns-in_ok-send_text-2
returns-in_ok-send_text-2 c =
    let e : c.send_text-then-left-gt0.new.self ≡ sends_text (psh + ack) (take c.loop-left.left (unsent c.loop-left.self)) c.loop-left.self = search rules in
    let k = left-kept c.loop-left.left c.from-most.result (psh + ack) (take c.loop-left.left (unsent c.loop-left.self)) c.loop-left.self c.args.self.now c.send_text-then-left-gt0.new.self c.loop-left.invariant e in
    record {
      is = left-last c.loop-left.left c.from-most.result c.loop-left.self c.args.self.now c.send_text-then-left-gt0.new.self c.loop-left.invariant (omega (arith, c.if-left-gt0.true)) (omega (arith, c.loop-left-test.false)) e;
      state = k.state;
      clock = k.clock;
      recv = k.recv;
      acked = k.acked;
      out = k.out;
    }
