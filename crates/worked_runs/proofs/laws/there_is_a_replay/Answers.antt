use Rattle.std.specs.Prelude.{Some}
use Rattle.std.proofs.Common.{refl}
use Rattle.worked_runs.specs.FiveSegments.{err, source}
use Rattle.worked_runs.specs.TracedCall.{out, served, wanted, words}
use Rattle.worked_runs.proofs.TracedRun.{asked_is, has_replayed, replays}
use Rattle.worked_runs.proofs.laws.there_is_a_replay.Goals as goal

pub returns-clause-replays : goal.returns-clause-replays
returns-clause-replays c = replays (c.a_traced_run_replays.ensures words wanted source out err (Some served) asked_is refl c.there_is_a_traced_run.ensures.ran)

pub returns-clause-replayed : goal.returns-clause-replayed
returns-clause-replayed c = has_replayed (returns-clause-replays c)
