-- The element is a turn of the pass that holds the gate.
use Rattle.std.specs.Prelude.{[], ◌∷◌}
use Rattle.turn_gate.specs.Helds.{held_number}
use Rattle.squeue_bench.proofs.tally.Tally.take_turn.Given as goal

abbrev pub ghosts-release : goal.ghosts-release
ghosts-release a = record { elements = record { by = held_number a.held } ∷ [] }
