-- What a tally stands for.
use Rattle.std.specs.Prelude.{◌≡◌, ℕ, List, length}
use Rattle.squeue_bench.specs.declared.tally.Turn.{Turn}
use Rattle.squeue_bench.specs.declared.tally.Tally.{Tally}

-- the number of the pass that took the turn
abbrev pub taker : Turn → ℕ
taker t = t.by

-- the tally has counted the turns of the history
abbrev pub IsTally : Tally → List Turn → Type 0
IsTally t story = t.turns ≡ length story
