use Rattle.std.proofs.Common.{◌≡◌, length}
use Rattle.shard_rings.proofs.tests.write_all.Given as goal

abbrev pub invariant-lanes : goal.invariant-lanes
invariant-lanes g l =
    record {
      ready : g.L.Lanes.ready l.lanes;
      origin : g.L.Lanes.origin l.lanes ≡ g.L.Lanes.origin l.initial.lanes;
      number : l.writer.number ≡ l.initial.writer.number;
      lanes : length (g.L.Lanes.sent l.lanes) ≡ length (g.L.Lanes.sent l.initial.lanes);
    }
