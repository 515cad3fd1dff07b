use Rattle.std.proofs.Common.{◌≡◌, ◌+◌, ◌-◌, ◌<◌, ◌^◌}
use Rattle.std.specs.Prelude.{IsSome}
use Rattle.turn_gate.specs.Passes.{number, seen}
use Rattle.perimeter_core.specs.Legal.{asks_by}
use Rattle.placed_parts.specs.Placing.{limits_of, origin_of}
use Rattle.squeue_state.specs.Naming.{setting_of}
use Rattle.squeue_arrivals.specs.Keyed.{work_of}
use Rattle.squeue_arrivals.specs.Watching.{HasLooked, MayLook}
use Rattle.squeue_arrivals.proofs.watching.look_all.Given as goal

abbrev pub invariant-loop-n : goal.invariant-loop-n
invariant-loop-n g l =
    record {
      may : MayLook limits_of l.sq (2 ^ 32 - l.n) l.pass;
      same : number l.pass ≡ number l.fn.pass;
      asks : asks_by (number l.fn.pass) (seen l.pass) ≡ asks_by (number l.fn.pass) (seen l.fn.pass) + l.n;
      some : 0 < l.n → IsSome l.last;
      looked : HasLooked g.X.KeySteps.begins g.X.KeySteps.step (work_of (origin_of l.sq.given.first)) (g.V.Watches.says l.watcher) (setting_of limits_of l.sq.given) (seen l.pass) l.last;
    }
