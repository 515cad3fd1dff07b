use Rattle.std.proofs.Common.{◌≤◌, vec_capacity}
use Rattle.endless_counters.specs.Serving.{AreNew}
use Rattle.endless_counters.proofs.serving.new_sources.Given as goal

abbrev pub invariant-loop-ring : goal.invariant-loop-ring
invariant-loop-ring g l =
    record {
      new : AreNew l.ring l.fn.size.stint.rounds l.sources.items;
      room : l.fn.size.rings ≤ vec_capacity l.sources;
    }
