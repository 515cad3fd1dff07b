use Rattle.std.proofs.Common.{◌≤◌, vec_capacity}
use Rattle.std.specs.Prelude.{All}
use Rattle.squeue_streams.specs.Taking.{state_of}
use Rattle.squeue_arrivals.specs.Seating.{AreNewPairs}
use Rattle.squeue_arrivals.proofs.seating.new_pairs.Given as goal

-- the rings of those before are made
abbrev pub invariant-loop-c : goal.invariant-loop-c
invariant-loop-c g l =
    record {
      pairs : AreNewPairs l._c l.producers.items l.parts.items;
      begun : All (λ s. g.X.KeySteps.begins l.steps (state_of s)) l.parts.items;
      push_room : l.count ≤ vec_capacity l.producers;
      pop_room : l.count ≤ vec_capacity l.parts;
    }
