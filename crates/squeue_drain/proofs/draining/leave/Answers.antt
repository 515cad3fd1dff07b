use Rattle.std.proofs.Common.{ap, ◌∙◌}
use Rattle.perimeter_core.specs.Perimeter.{State, polls}
use Rattle.squeue_drain.proofs.Deciding.{same_state}
use Rattle.squeue_drain.proofs.draining.leave.Goals as goal

pub returns-clause-polling : goal.returns-clause-polling
returns-clause-polling g c = λ es h. c.is_polling-polling.ensures es h ∙ ap (polls es) (c.polling.ensures ∙ ap (λ (s : State). s.polling) (same_state g.R.Resident.limits c.args.turn.squeue c.args.sq.now c.args.turn.found c.requires.squeue))
