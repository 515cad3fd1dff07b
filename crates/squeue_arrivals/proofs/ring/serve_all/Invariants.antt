use Rattle.std.proofs.Common.{◌≡◌, ◌≤◌, ◌+◌, ◌*◌, ◌^◌, ◌++◌, ℕ, List, length}
use Rattle.turn_gate.specs.Passes.{number}
use Rattle.placed_parts.specs.Placing.{limits_of, origin_of}
use Rattle.stream_stays.specs.Places.{life_of}
use Rattle.squeue_arrivals.specs.Keyed.{Tells}
use Rattle.squeue_arrivals.specs.Keeping.{HasAll}
use Rattle.squeue_arrivals.specs.Placed.{SameRing}
use Rattle.squeue_arrivals.proofs.ring.serve_all.Given as goal

-- these items came to their keys
abbrev pub invariant-items : goal.invariant-items
invariant-items g l =
    record {
      all : List (ℕ × g.row.X-Item.Denot);
      has : HasAll (Tells g.X.KeySteps.step) limits_of l.line.squeue.now (origin_of l.line.squeue.now.given.first) all l.pass l.stays l.keys;
      same_pass : number l.pass ≡ number l.fn.pass;
      ring : SameRing l.fn.keys l.keys;
      asks : 2 ^ 52 ≤ (life_of l.stays).asks + 6 * length all;
      counted : l.left + length all ≡ 2 ^ 49;
      gave : g.A.Arrivals.given l.source ≡ g.A.Arrivals.given l.fn.source ++ all;
      same : g.A.Arrivals.origin l.source ≡ g.A.Arrivals.origin l.fn.source;
    }
