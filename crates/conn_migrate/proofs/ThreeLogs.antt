-- Three logs to which nothing was done.
use Rattle.std.proofs.Common.{◌≡◌, ◌∙◌, ℕ, Bool, false, is_some, List, [], ◌∷◌}
use Rattle.std.specs.Prelude.{slice_index_or}
use Rattle.perimeter_core.specs.Blocks.{Blocks, none_done}
use Rattle.perimeter_core.proofs.ActLists.{is_fresh}

-- the flag of the last connection
pub here_at_two : (starts : List Bool) (here : Bool) (stands : Blocks → Type 0) → ((blocks : Blocks) (c : ℕ) → stands blocks → slice_index_or starts c false ≡ is_some (blocks c)) → stands (none_done (here ∷ here ∷ here ∷ [])) → slice_index_or starts 2 false ≡ here
here_at_two starts here stands told is = told (none_done (here ∷ here ∷ here ∷ [])) 2 is ∙ is_fresh here
