-- The walk over the options, one at a time.
use Rattle.std.proofs.Common.{◌≡◌, ℕ, zero, suc, ◌+◌, ◌-◌, ◌<◌, ◌≤◌, List, [], ◌∷◌, length, drop, take, None, Some, refl, sym, ap, ◌∙◌, arith, cond, length-drop, true, false, subst}
use Rattle.std.specs.Prelude.{find}
use Rattle.std.proofs.lemmas.List.{drop-drop}
use Rattle.std.proofs.lemmas.Bool.Decides.{nat_tests}
use Rattle.segment_codec.specs.Options.{option_size, is_end, options_behind, options_in, is_option, first_option}

-- an option that begins here has a byte, and is whole
pub option_size_within : (xs : List ℕ) → is_end xs ≡ false → (0 < option_size xs) × (option_size xs ≤ length xs)
option_size_within xs e = grind (arith, nat_tests)

-- the bytes of an option can be dropped
options_behind-drop : (n : ℕ) (xs : List ℕ) → n ≤ length xs → options_behind n xs ≡ options_in (drop n xs)
unfolding options_in
options_behind-drop zero xs h = refl
options_behind-drop (suc n) [] h = refl
options_behind-drop (suc n) (x ∷ xs) h = options_behind-drop n xs (omega arith)

options_in-step : (xs : List ℕ) → options_in xs ≡ cond (is_end xs) [] (take (option_size xs) xs ∷ options_behind (option_size xs - 1) (drop 1 xs))
unfolding options_in
options_in-step [] = refl
options_in-step (x ∷ xs) = refl

options_in-next : (xs : List ℕ) → is_end xs ≡ false → options_in xs ≡ take (option_size xs) xs ∷ options_in (drop (option_size xs) xs)
options_in-next xs e =
    let within = option_size_within xs e in
    let n : 1 + (option_size xs - 1) ≡ option_size xs = omega (arith, within.0) in
    let rest : options_behind (option_size xs - 1) (drop 1 xs) ≡ options_in (drop (option_size xs) xs) =
    options_behind-drop (option_size xs - 1) (drop 1 xs) (omega (arith, length-drop 1 xs, within.1))
    ∙ ap options_in (drop-drop (option_size xs - 1) 1 xs ∙ ap (λ (k : ℕ). drop k xs) n) in
    options_in-step xs ∙ ((rw e refl) ∙ ap (λ (os : List (List ℕ)). take (option_size xs) xs ∷ os) rest)

options_in-end : (xs : List ℕ) → is_end xs ≡ true → options_in xs ≡ []
options_in-end xs e = options_in-step xs ∙ (rw e refl)

-- the options have ended
pub first_option_end : (kind size : ℕ) (xs : List ℕ) → is_end xs ≡ true → first_option kind size xs ≡ None
first_option_end kind size xs e = ap (find (is_option kind size)) (options_in-end xs e)

-- it is this one
pub first_option_here : (kind size : ℕ) (xs option : List ℕ) → is_end xs ≡ false → option ≡ take (option_size xs) xs → is_option kind size option ≡ true → first_option kind size xs ≡ Some option
first_option_here kind size xs option e same here =
    let taken : is_option kind size (take (option_size xs) xs) ≡ true = subst (λ (o : List ℕ). is_option kind size o ≡ true) same here in
    ap (find (is_option kind size)) (options_in-next xs e) ∙ ((rw taken refl) ∙ ap (λ (o : List ℕ). Some o) (sym same))

-- it is not this one
pub first_option_next : (kind size : ℕ) (xs option : List ℕ) → is_end xs ≡ false → option ≡ take (option_size xs) xs → is_option kind size option ≡ false → first_option kind size xs ≡ first_option kind size (drop (option_size xs) xs)
first_option_next kind size xs option e same here =
    let taken : is_option kind size (take (option_size xs) xs) ≡ false = subst (λ (o : List ℕ). is_option kind size o ≡ false) same here in
    ap (find (is_option kind size)) (options_in-next xs e) ∙ (rw taken refl)
