use Rattle.std.proofs.Common.{ap, sym, ◌∙◌}
use Rattle.std.specs.Prelude.{option_copied}
use Rattle.stream_plan.proofs.SortSteps.{last_none, last_some}
use Rattle.stream_plan.proofs.planned.last_time.Goals as goal

pub returns-in-Some : goal.returns-in-Some
returns-in-Some c = sym (last_some c.args.datagrams.now c.in-Some.datagram.now (sym c.last.ensures.value ∙ ap option_copied c.in-Some.is))

pub returns-in-None : goal.returns-in-None
returns-in-None c = sym (last_none c.args.datagrams.now (sym c.last.ensures.value ∙ ap option_copied c.in-None.is))
