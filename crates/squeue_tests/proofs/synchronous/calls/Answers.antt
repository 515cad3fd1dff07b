use Rattle.std.proofs.Common.{ap, ◌∙◌, subst}
use Rattle.turn_gate.specs.Passes.{number, seen}
use Rattle.turn_gate.specs.declared.pass.Pass.{Pass}
use Rattle.perimeter_core.specs.Perimeter.{Idle}
use Rattle.perimeter_core.specs.History.{run}
use Rattle.squeue_state.specs.Naming.{setting_of}
use Rattle.squeue_tests.proofs.synchronous.calls.Goals as goal

pub call-called-requires : goal.call-called-requires
call-called-requires g c = (c.args.squeue.now, (record { stands_at = c.requires.stands; no_act = c.requires.no_act; thread = c.requires.thread; exists = c.requires.exists }))

pub synch_exit-requires : goal.synch_exit-requires
synch_exit-requires g c = (c.call-called.ensures.called c.args.squeue.now (record { stands_at = c.requires.stands; no_act = c.requires.no_act; thread = c.requires.thread; exists = c.requires.exists })).stands_at

pub returns-clause-pass : goal.returns-clause-pass
returns-clause-pass g c = (c.synch_exit.ensures.goes_on.is_pass, c.synch_exit.ensures.goes_on.same_number ∙ ap (λ (p : Pass _). number p) c.call-called.ensures.pass)

pub returns-clause-idle : goal.returns-clause-idle
returns-clause-idle g c = subst (λ (p : Pass _). Idle (run (setting_of g.R.Resident.limits c.args.squeue.now.given) (seen c.synch_exit.result)) (number p)) c.call-called.ensures.pass c.synch_exit.ensures.idle
