use Rattle.std.proofs.Common.{◌≡◌, ◌+◌, ◌++◌, length}
use Rattle.rtrb.specs.Ring.{known_items, sent}
use Rattle.squeue_streams.specs.Taking.{HasTakenMore, input_of, items_of}
use Rattle.squeue_streams.proofs.streams.Streams.take_rest.Given as goal

abbrev pub invariant-loop-k : goal.invariant-loop-k
invariant-loop-k g l =
    record {
      left : l._k + length (known_items (input_of l.stream)) ≡ l.left;
      all : items_of l.stream ++ known_items (input_of l.stream) ≡ sent l.fn.producer;
      taken : HasTakenMore g.X.Steps.begins g.X.Steps.step (g.X.Steps.origin l.self.steps) l.fn.stream l.stream;
    }
