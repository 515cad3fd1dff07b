-- What a use does to the rows.
use Rattle.std.proofs.Common.{◌≡◌, Bool, cond, true, false, true≢false, refl, ap, List, [], ◌∷◌, ◌++◌, Some, None, ◌||◌}
use Rattle.std.specs.Prelude.{find}
use Rattle.std.specs.Str.{bytes_eq}
use Rattle.clap.specs.Words.{Row}
use Rattle.clap.specs.Walk.{Text, at_row, has_row}

-- a fresh id is added at the end
pub fresh : (id : Text) (change : Row → List Row) (missing rows : List Row) → has_row id rows ≡ false → at_row id change missing rows ≡ rows ++ missing
fresh id change missing [] e = refl
fresh id change missing (r ∷ rs) e = go (bytes_eq r.id id) e (fresh id change missing rs)
  where
    go : (b : Bool) → (b || has_row id rs) ≡ false → (has_row id rs ≡ false → at_row id change missing rs ≡ rs ++ missing) → cond b (change r ++ rs) (r ∷ at_row id change missing rs) ≡ r ∷ (rs ++ missing)
    go true f step = absurd (true≢false f)
    go false f step = ap (λ xs. r ∷ xs) (step f)

-- an id's row is not moved by a row at the end
pub find_first : (p : Row → Bool) (rows : List Row) (r : Row) → p r ≡ false → find p (rows ++ r ∷ []) ≡ find p rows
find_first p [] r e = rw e refl
find_first p (x ∷ xs) r e = go (p x) (find_first p xs r e)
  where
    go : (b : Bool) → find p (xs ++ r ∷ []) ≡ find p xs → cond b (Some x) (find p (xs ++ r ∷ [])) ≡ cond b (Some x) (find p xs)
    go true f = refl
    go false f = f

pub find_last : (p : Row → Bool) (rows : List Row) (r : Row) → p r ≡ true → find p rows ≡ None → find p (rows ++ r ∷ []) ≡ Some r
find_last p [] r e none = rw e refl
find_last p (x ∷ xs) r e none = go (p x) none (find_last p xs r e)
  where
    some_none : {X : Type 0} (y : X) → Some y ≡ None → ⊥
    some_none y f = true≢false (ap (λ o. Rattle.std.specs.Option.is_some o) f)

    go : (b : Bool) → cond b (Some x) (find p xs) ≡ None → (find p xs ≡ None → find p (xs ++ r ∷ []) ≡ Some r) → cond b (Some x) (find p (xs ++ r ∷ [])) ≡ Some r
    go true f step = absurd (some_none x f)
    go false f step = step f
