-- Asks in a list that grows at its end.
use Rattle.std.proofs.Common.{◌≡◌, ℕ, ◌+◌, ◌<◌, Bool, true, false, ◌==◌, ◌||◌, List, [], ◌∷◌, ◌++◌, length, get_or, take, refl, ap, ◌∙◌}
use Rattle.std.proofs.lemmas.List.{take_more}
use Rattle.perimeter_core.specs.declared.entries.Entry.{Entry}
use Rattle.perimeter_core.specs.declared.entries.Entry.TheVariants.{Feed, Ask}
use Rattle.perimeter_core.specs.Perimeter.{is_ask, has_ask, ends_with_ask}

or_assoc : (a b c : Bool) → (a || (b || c)) ≡ ((a || b) || c)
or_assoc true b c = refl
or_assoc false b c = refl

or_false : (a : Bool) → (a || false) ≡ a
or_false true = refl
or_false false = refl

pub has_push : (p : ℕ) (xs : List Entry) (e : Entry) → has_ask p (xs ++ e ∷ []) ≡ (has_ask p xs || is_ask p e)
has_push p [] (Feed c n) = refl
has_push p [] (Ask q) = or_false (q == p)
has_push p (Feed c n ∷ xs) e = has_push p xs e
has_push p (Ask q ∷ xs) e = ap (λ b. (q == p) || b) (has_push p xs e) ∙ or_assoc (q == p) (has_ask p xs) (is_ask p e)

pub ends_push : (p : ℕ) (xs : List Entry) (e : Entry) → ends_with_ask p (xs ++ e ∷ []) ≡ is_ask p e
ends_push p [] (Feed c n) = refl
ends_push p [] (Ask q) = refl
ends_push p (Feed c n ∷ xs) e = ends_push p xs e
ends_push p (Ask q ∷ []) (Feed c n) = refl
ends_push p (Ask q ∷ []) (Ask r) = refl
ends_push p (Ask q ∷ x ∷ xs) e = ends_push p (x ∷ xs) e

pub has_more : (p : ℕ) (es : List Entry) (i : ℕ) (d : Entry) → i < length es → has_ask p (take (i + 1) es) ≡ (has_ask p (take i es) || is_ask p (get_or es i d))
has_more p es i d h = ap (has_ask p) (take_more es i d h) ∙ has_push p (take i es) (get_or es i d)

pub ends_more : (p : ℕ) (es : List Entry) (i : ℕ) (d : Entry) → i < length es → ends_with_ask p (take (i + 1) es) ≡ is_ask p (get_or es i d)
ends_more p es i d h = ap (ends_with_ask p) (take_more es i d h) ∙ ends_push p (take i es) (get_or es i d)
