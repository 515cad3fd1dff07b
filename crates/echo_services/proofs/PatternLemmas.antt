-- The pattern's lists: their length, and how they join.
use Rattle.std.proofs.Common.{◌≡◌, ℕ, ◌+◌, List, [], ◌∷◌, ◌++◌, length, refl, sym, ap, ◌∙◌, arith, length-append}
use Rattle.std.specs.Prelude.{suc, zero}
use Rattle.echo_services.specs.Chargen.{pattern, pattern_from}

pub pattern_length : (i n : ℕ) → length (pattern_from i n) ≡ n
pattern_length i zero = refl
pattern_length i (suc n) = ap suc (pattern_length (i + 1) n)

pub given_length : (out : List ℕ) (i n : ℕ) → length (out ++ pattern_from i n) ≡ length out + n
given_length out i n = let e = pattern_length i n in let f = length-append out (pattern_from i n) in omega (arith, e, f)

pub pattern_joins : (i n m : ℕ) → pattern_from i n ++ pattern_from (i + n) m ≡ pattern_from i (n + m)
pattern_joins i zero m =
    let e : i + 0 ≡ i = omega arith in
    let f : m ≡ 0 + m = omega arith in
    ap (λ (k : ℕ). pattern_from k m) e ∙ ap (pattern_from i) f
pattern_joins i (suc n) m =
    let e : i + suc n ≡ i + 1 + n = omega arith in
    let f : suc n + m ≡ suc (n + m) = omega arith in
    ap (λ (k : ℕ). pattern i ∷ (pattern_from (i + 1) n ++ pattern_from k m)) e ∙ (ap (λ (xs : List ℕ). pattern i ∷ xs) (pattern_joins (i + 1) n m) ∙ ap (pattern_from i) (sym f))

-- those from the first on
pub pattern_begins : (n m : ℕ) → pattern_from 0 n ++ pattern_from n m ≡ pattern_from 0 (n + m)
pattern_begins n m = let e : n ≡ 0 + n = omega arith in ap (λ (k : ℕ). pattern_from 0 n ++ pattern_from k m) e ∙ pattern_joins 0 n m

pub pattern_more : (i n : ℕ) → pattern_from i n ++ pattern (i + n) ∷ [] ≡ pattern_from i (n + 1)
pattern_more i n = pattern_joins i n 1

-- one byte more behind those that are there
pub pattern_goes_on : (i n byte : ℕ) (old new : List ℕ) → old ≡ pattern_from i n → byte ≡ pattern (i + n) → new ≡ old ++ byte ∷ [] → new ≡ pattern_from i (n + 1)
pattern_goes_on i n byte old new e f g = g ∙ (ap (λ (xs : List ℕ). xs ++ byte ∷ []) e ∙ (ap (λ (x : ℕ). pattern_from i n ++ x ∷ []) f ∙ pattern_more i n))
