-- What is in the cells of a row, by squeue.
use Rattle.std.specs.Prelude.{ℕ, List, [], slice_index_or}

-- what is at a number; where there is nothing, nothing
abbrev pub cell : {T : Type 0} → List (List T) → ℕ → List T
cell row q = slice_index_or row q []
