-- The two parts of a text, as std gives them and as the definition says them.
use Rattle.std.proofs.Common.{◌≡◌, ◌∙◌, ℕ, ◌+◌, ◌<◌, Bool, cond, true, false, refl, sym, ap, ap₂, [], ◌∷◌, length, Option, Some, None, ◌||◌, not, eqb, arith, Bor}
use Rattle.std.specs.Prelude.{option_map, MatchOption}
use Rattle.std.specs.List.{list_any, position_or_len, before_first, after_first}
use Rattle.std.proofs.lemmas.Str.Pattern.{IsSplitOnceResult, split_once_first}
use Rattle.shell.specs.Table.{Text}
use Rattle.shell.specs.Parts.{split_at}

any_none : (p : ℕ → Bool) (xs : Text) → position_or_len p xs ≡ length xs → list_any p xs ≡ false
any_none p [] h = refl
any_none p (x ∷ xs) h = go (p x) h (any_none p xs)
  where
    go : (b : Bool) → cond (not b) (1 + position_or_len p xs) 0 ≡ length (x ∷ xs) → (position_or_len p xs ≡ length xs → list_any p xs ≡ false) → (b || list_any p xs) ≡ false
    go true h more = absurd (omega (arith, h))
    go false h more = more (omega (arith, h))

any_some : (p : ℕ → Bool) (xs : Text) → position_or_len p xs < length xs → list_any p xs ≡ true
any_some p [] h = absurd (omega (arith, h))
any_some p (x ∷ xs) h = go (p x) h (any_some p xs)
  where
    go : (b : Bool) → cond (not b) (1 + position_or_len p xs) 0 < length (x ∷ xs) → (position_or_len p xs < length xs → list_any p xs ≡ true) → (b || list_any p xs) ≡ true
    go true h more = refl
    go false h more = more (omega (arith, h))

abbrev pub parts_of : Option (Bor Text × Bor Text) → Option (Text × Text)
parts_of = option_map (λ parts. (parts.0.now, parts.1.now))

pub split_is : (c : ℕ) (bs : Text) (r : Option (Bor Text × Bor Text)) → IsSplitOnceResult c bs r → c < 128 → parts_of r ≡ split_at c bs
split_is c bs r h small = go r (split_once_first c bs r h small)
  where
    found : ℕ → Bool
    found b = eqb b c

    go : (r : Option (Bor Text × Bor Text))
        → MatchOption r (position_or_len (λ b. eqb b c) bs ≡ length bs) (λ x. (position_or_len (λ b. eqb b c) bs < length bs) × (x.0.now ≡ before_first (λ b. eqb b c) bs) × (x.1.now ≡ after_first (λ b. eqb b c) bs))
        → parts_of r ≡ split_at c bs
    go None m = sym (ap (λ b. cond b (Some (before_first (λ b. eqb b c) bs, after_first (λ b. eqb b c) bs)) None) (any_none (λ b. eqb b c) bs m))
    go (Some x) m =
        ap₂ (λ (a b : Text). Some (a, b)) m.1 m.2
        ∙ sym (ap (λ b. cond b (Some (before_first (λ b. eqb b c) bs, after_first (λ b. eqb b c) bs)) None) (any_some (λ b. eqb b c) bs m.0))
