use Rattle.std.proofs.Common.{◌≡◌, ◌<◌, subst, sym, ◌∙◌, refl, rules}
use Rattle.std.specs.Option.{ForSome}
use Rattle.tcb_machine.specs.BlockState.{Block}
use Rattle.tcb_machine.specs.Timers.{fired}
use Rattle.tcb_machine.proofs.TimeLemmas.{Turn, turn, time-rest}
use Rattle.tcb_machine.proofs.tcb.Tcb.retransmissions_up_to.Goals as goal

pub loop-at-smaller : goal.loop-at-smaller
loop-at-smaller c =
    let b = c.loop-at.self in
    let inv = c.loop-at.invariant in
    let due = c.in-Some.ensures.due in
    let e : c.fire.new.self ≡ fired c.in-Some.at b = c.in_ok-fire.ensures in
    (subst (λ (x : Block). Turn c.args.to b x) (sym e) (turn c.args.to c.in-Some.at b inv.none due.0 due.1 inv.clock c.in-Some.ensures.tries)).smaller

pub loop-at-preserved : goal.loop-at-preserved
loop-at-preserved c =
    let b = c.loop-at.self in
    let inv = c.loop-at.invariant in
    let due = c.in-Some.ensures.due in
    let e : c.fire.new.self ≡ fired c.in-Some.at b = c.in_ok-fire.ensures in
    let t = subst (λ (x : Block). Turn c.args.to b x) (sym e) (turn c.args.to c.in-Some.at b inv.none due.0 due.1 inv.clock c.in-Some.ensures.tries) in
    record { clock = t.clock; none = t.none; same = sym t.same ∙ inv.same }

pub returns : goal.returns
returns c =
    let b = c.loop-at.self in
    let inv = c.loop-at.invariant in
    let late : ForSome b.retransmit_at (λ at. c.args.to < at) = search (rules, c.in_default.ensures.idle) in
    sym (time-rest c.args.to b.retransmit_at b inv.none refl late) ∙ inv.same
