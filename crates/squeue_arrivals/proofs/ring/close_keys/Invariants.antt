use Rattle.std.proofs.Common.{◌≡◌, ◌≤◌, ◌+◌, ◌^◌, ℕ, List}
use Rattle.turn_gate.specs.Passes.{number}
use Rattle.placed_parts.specs.Placing.{limits_of, origin_of}
use Rattle.stream_stays.specs.Places.{life_of}
use Rattle.squeue_arrivals.specs.Keyed.{Tells}
use Rattle.squeue_arrivals.specs.Keeping.{HasKeys, IsSettled}
use Rattle.squeue_arrivals.proofs.Closing.{IsClosing}
use Rattle.squeue_arrivals.proofs.ring.close_keys.Given as goal

-- the places of the keys before this one are closed
abbrev pub invariant-loop-i : goal.invariant-loop-i
invariant-loop-i g l =
    record {
      settled : IsSettled (Tells g.X.KeySteps.step) limits_of l.line.squeue.now (origin_of l.line.squeue.now.given.first) l.pass l.stays;
      same_pass : number l.pass ≡ number l.fn.pass;
      asks : 2 ^ 49 ≤ (life_of l.stays).asks + l.i;
      each : (all : List (ℕ × g.row.X-Item.Denot)) → HasKeys (Tells g.X.KeySteps.step) limits_of l.line.squeue.now (origin_of l.line.squeue.now.given.first) all l.fn.pass l.fn.stays l.keys
          → IsClosing limits_of l.line.squeue.now all l.i l.pass l.stays l.keys;
    }
