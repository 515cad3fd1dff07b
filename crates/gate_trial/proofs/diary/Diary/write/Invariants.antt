-- The element is the line that was written.
use Rattle.std.specs.Prelude.{[], ◌∷◌}
use Rattle.turn_gate.specs.Helds.{held_number}
use Rattle.gate_trial.specs.Diary.{line}
use Rattle.gate_trial.proofs.diary.Diary.write.Given as goal

abbrev pub ghosts-release : goal.ghosts-release
ghosts-release a = record { elements = line (held_number a.held) a.mark ∷ [] }
