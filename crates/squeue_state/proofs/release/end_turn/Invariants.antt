-- The element that is added.
use Rattle.std.specs.Prelude.{[], ◌∷◌}
use Rattle.turn_gate.specs.Helds.{held_number}
use Rattle.histories.specs.Elements.{element_of}
use Rattle.squeue_state.proofs.release.end_turn.Given as goal

abbrev pub ghosts-end_by : goal.ghosts-end_by
ghosts-end_by g a = record { elements = element_of (held_number a.held) a.kind a._es.now g.N.Notes.note ∷ [] }
