use Rattle.std.proofs.Common.{◌≡◌, ℕ, drop, length}
use Rattle.std.specs.Prelude.{Contains}
use Rattle.placed_parts.specs.Placing.{origin_of}
use Rattle.stream_stays.specs.Places.{life_of, touched_of}
use Rattle.stream_stays.specs.Settling.{Collected, KeepsParts, MaySettle, SamePlaces}
use Rattle.stream_stays.proofs.settling.settle_touched.Given as goal

abbrev pub invariant-loop-k : goal.invariant-loop-k
invariant-loop-k g l =
    record {
      counted : l.count ≡ length (touched_of l.fn.stays);
      keeps : KeepsParts l.fn.resident l.resident;
      same : SamePlaces l.fn.stays l.stays;
      rest : (life_of l.stays ≡ life_of l.fn.stays) × (touched_of l.stays ≡ touched_of l.fn.stays);
      may : (c : ℕ) → Contains (touched_of l.fn.stays) c → MaySettle g.X.Steps.begins l.resident l.stays c;
      collected :
          (to : g.row.V.Denot) → Collected g.X.Steps.begins g.X.Steps.step g.V.Collects.takes (origin_of l.fn.resident) l.fn.stays (drop l.k (touched_of l.fn.stays)) l.collector to
          → Collected g.X.Steps.begins g.X.Steps.step g.V.Collects.takes (origin_of l.fn.resident) l.fn.stays (touched_of l.fn.stays) l.fn.collector to;
    }
