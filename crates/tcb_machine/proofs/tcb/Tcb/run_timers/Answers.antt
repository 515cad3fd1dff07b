use Rattle.std.proofs.Common.{◌≡◌, Some, sym, ap, ◌∙◌, arith}
use Rattle.tcb_machine.specs.BlockState.{Block, to_listen}
use Rattle.tcb_machine.proofs.TimeLemmas.{time_ends, time_waits}
use Rattle.tcb_machine.proofs.tcb.Tcb.run_timers.Goals as goal

pub returns-then-at-to : goal.returns-then-at-to
returns-then-at-to c =
    let b = c.args.self.now in
    let to = c.args.to in
    let some : b.time_wait_at ≡ Some c.in-Some.at = ap (λ (x : Block). x.time_wait_at) (sym c.self.view_is) ∙ c.in-Some.is in
    let e : c.go_to_listen.new.self ≡ to_listen b = c.go_to_listen.ensures in
    ap (λ (x : Block). record x { clock = to }) e ∙ sym (time_ends to c.in-Some.at b some (omega (arith, c.if-at-to.true)) c.requires.clock)

pub returns-else-at-to : goal.returns-else-at-to
returns-else-at-to c =
    let b = c.args.self.now in
    let some : b.time_wait_at ≡ Some c.in-Some.at = ap (λ (x : Block). x.time_wait_at) (sym c.self.view_is) ∙ c.in-Some.is in
    sym (time_waits c.args.to c.in-Some.at b some (omega (arith, c.if-at-to.false)))
