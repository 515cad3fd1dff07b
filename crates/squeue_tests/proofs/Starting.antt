-- A new squeue and its passes.
use Rattle.std.proofs.Common.{◌≡◌, ℕ, suc, Bool, false, List, [], ◌∷◌, length, slice_index_or, is_some, refl, ap, ◌∙◌, arith}
use Rattle.perimeter_core.specs.History.{Limits}
use Rattle.perimeter_core.specs.Blocks.{Blocks, none_done}
use Rattle.perimeter_core.proofs.ActLists.{is_fresh}
use Rattle.squeue_state.specs.Naming.{Given, setting_of}
use Rattle.squeue_state.specs.Clauses.{IsMade}
use Rattle.squeue_tests.specs.Rows.{IsNew, plain_limits}

-- flags that are the same at each place
same_flags : (xs ys : List Bool) → length xs ≡ length ys → ((c : ℕ) → slice_index_or xs c false ≡ slice_index_or ys c false) → xs ≡ ys
same_flags [] [] n h = refl
same_flags [] (y ∷ ys) n h = absurd (omega (arith, n))
same_flags (x ∷ xs) [] n h = absurd (omega (arith, n))
same_flags (x ∷ xs) (y ∷ ys) n h =
    let first : x ≡ y = h 0 in
    let rest : xs ≡ ys = same_flags xs ys (omega (arith, n)) (λ c. h (suc c)) in
    rw (first, rest) refl

-- the flags of a squeue whose resident is as new are those that the resident was made with
pub starts_are : (xs ys : List Bool) → length xs ≡ length ys → ((c : ℕ) → slice_index_or xs c false ≡ is_some (none_done ys c)) → xs ≡ ys
starts_are xs ys n h = same_flags xs ys n (λ c. h c ∙ is_fresh (slice_index_or ys c false))

-- The setting of a new squeue whose resident is as new
pub setting_made : {R : Type 0} {room : ℕ} (stands : R → Blocks → Type 0) (limits : R → Limits) (size : R → ℕ) (number rings feeds : ℕ) (quotas : List (ℕ × ℕ)) (traced : Bool) (first : R) (g : Given R) (ys : List Bool)
    → IsMade stands size number rings quotas traced room first g → IsNew stands limits size ys feeds first
    → setting_of limits g ≡ record { rings = rings; quotas = quotas; starts = ys; limits = plain_limits (length ys) feeds }
setting_made stands limits size number rings feeds quotas traced first g ys m new =
    let here : g.starts ≡ ys = starts_are g.starts ys (m.its_conns ∙ new.1) (λ c. m.its_blocks (none_done ys) c new.0) in
    let allowed : limits g.first ≡ plain_limits (length ys) feeds = ap limits m.its_first ∙ new.2 in
    rw (m.its_rings, m.its_quotas, here, allowed) refl
