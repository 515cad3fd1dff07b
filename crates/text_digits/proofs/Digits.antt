-- Digits of a few bytes at a time.
use Rattle.std.proofs.Common.{true, false, ◌≡◌, ℕ, ◌≤◌, List, [], ◌∷◌, ◌++◌, length, take, drop, append-nil, refl, sym, ap, ◌∙◌, arith, ◌/◌, ◌%◌}
use Rattle.std.proofs.lemmas.List.{drop_all}
use Rattle.hex.specs.Hex.{encode_lower, encode_with, lower_digits}
use Rattle.std.specs.Prelude.{slice_index}
use Rattle.text_digits.specs.Told.{Told, more}
use Rattle.text_digits.proofs.Joins.{more_more, more_none}

joined : (t a b : List ℕ) → encode_with t (a ++ b) ≡ encode_with t a ++ encode_with t b
unfolding encode_with
joined t [] b = refl
joined t (x ∷ a) b = ap (λ l. slice_index t (x / 16) ∷ slice_index t (x % 16) ∷ l) (joined t a b)

no_digits : encode_lower [] ≡ []
unfolding encode_with
no_digits = refl

-- every byte's digits are made
pub all_made : (n : ℕ) (out bytes : List ℕ) (at : ℕ) → length bytes ≤ at → take n out ++ encode_lower (drop at bytes) ≡ encode_lower bytes → take n out ≡ encode_lower bytes
unfolding encode_with
all_made n out bytes at all so_far = sym (append-nil (take n out)) ∙ ap (λ l. take n out ++ encode_lower l) (sym (drop_all at bytes all)) ∙ so_far

-- what is told, with what is to be told
pub part_more : (was new whole : Told) (part behind rest : List ℕ) → more was (encode_lower rest) ≡ whole → rest ≡ part ++ behind → new ≡ more was (encode_lower part)
    → more new (encode_lower behind) ≡ whole
part_more was new whole part behind rest so_far e n =
    ap (λ t. more t (encode_lower behind)) n ∙ more_more was (encode_lower part) (encode_lower behind)
    ∙ ap (more was) (sym (joined lower_digits part behind)) ∙ ap (λ l. more was (encode_lower l)) (sym e) ∙ so_far

pub all_told : (t whole : Told) (rest : List ℕ) → length rest ≡ 0 → more t (encode_lower rest) ≡ whole → t ≡ whole
all_told t whole [] none h = sym (more_none t) ∙ sym (ap (more t) no_digits) ∙ h
all_told t whole (x ∷ rest) none h = absurd (let no : ⊥ = omega (arith, none) in no)

pub no_error : false ≡ true → ⊥
no_error e = let no : ⊥ = cc in no
