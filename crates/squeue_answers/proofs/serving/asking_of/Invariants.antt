use Rattle.std.proofs.Common.{◌≡◌, ◌+◌, ◌≤◌, ◌++◌, List, length, map, vec_capacity}
use Rattle.std.specs.Prelude.{reverse}
use Rattle.squeue_answers.specs.Asking.{new_asking}
use Rattle.squeue_answers.proofs.serving.asking_of.Given as goal

-- the first of them ask
abbrev pub invariant-sources : goal.invariant-sources
invariant-sources g l = record {
  gone : List (g.row.A.Denot × g.row.K.Denot);
  all : l.fn.sources.items ≡ gone ++ reverse l.sources.items;
  asked : l.asking.items ≡ map (λ s. new_asking s.0 s.1) gone;
  room : length l.asking.items + length l.sources.items ≤ vec_capacity l.asking;
}

abbrev pub decreases-sources : goal.decreases-sources
decreases-sources g l = length l.sources.items
