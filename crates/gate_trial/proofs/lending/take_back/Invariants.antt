use Rattle.std.proofs.Common.{◌≡◌, ◌≤◌, ◌+◌}
use Rattle.std.specs.Prelude.{All, vec_len, vec_capacity}
use Rattle.turn_gate.specs.Gates.{gate_id, passes_of}
use Rattle.gate_trial.specs.Counted.{AreFrom, CountDown}
use Rattle.gate_trial.specs.Jobs.{IsReady}
use Rattle.gate_trial.proofs.lending.take_back.Given as goal

abbrev pub invariant-loop-job : goal.invariant-loop-job
invariant-loop-job g l = AreFrom g.T.Storied.number (gate_id l.gate) 0 l.all.items × All (IsReady g.T.Storied.number (gate_id l.gate)) l.jobs.items × CountDown (passes_of l.gate) l.jobs.items
    × (vec_len l.jobs + vec_len l.all ≡ passes_of l.gate) × (passes_of l.gate ≤ vec_capacity l.all)

abbrev pub decreases-loop-job : goal.decreases-loop-job
decreases-loop-job g l = vec_len l.jobs
