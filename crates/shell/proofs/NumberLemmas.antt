-- Numbers of words, as std's calls give them and as the words' definition says them.
use Rattle.std.proofs.Common.{◌≡◌, ◌∙◌, ℕ, ◌<◌, ◌^◌, Bool, cond, true, false, refl, sym, ap, ap₂, subst, [], ◌∷◌, length, drop, Some, None, ◌&&◌, eqb, leb, arith}
use Rattle.std.proofs.lemmas.Bool.{and_parts}
use Rattle.std.specs.Prelude.{nat_lt}
use Rattle.std.specs.List.{list_all}
use Rattle.std.specs.Char.{is_ascii_digit, digit_value}
use Rattle.std.specs.Str.Parse.{AllDigits, IsNumeral, digits_value, without_leading_plus}
use Rattle.std.proofs.lemmas.Bool.Decides.{nat_tests}
use Rattle.shell.specs.Numbers.{is_number, is_numeral, number_between, numeral}
use Rattle.shell.specs.Table.{Text}

digit_below : (c : ℕ) → is_ascii_digit c ≡ true → digit_value c < 10
digit_below c e = grind (arith, nat_tests)

digit_no_plus : (c : ℕ) → is_ascii_digit c ≡ true → (c ≡ 43 → ⊥)
digit_no_plus c e h = grind (arith, nat_tests)

digits_below : (xs : Text) → list_all is_ascii_digit xs ≡ true → AllDigits 10 xs
digits_below [] e = tt
digits_below (x ∷ xs) e = (digit_below x ((and_parts (is_ascii_digit x) (list_all is_ascii_digit xs) e).0), digits_below xs ((and_parts (is_ascii_digit x) (list_all is_ascii_digit xs) e).1))

no_plus : (xs : Text) → list_all is_ascii_digit xs ≡ true → without_leading_plus xs ≡ xs
no_plus [] e = refl
no_plus (x ∷ xs) e = go (eqb x 43) refl
  where
    go : (b : Bool) → eqb x 43 ≡ b → drop (cond b 1 0) (x ∷ xs) ≡ x ∷ xs
    go true f = absurd (digit_no_plus x ((and_parts (is_ascii_digit x) (list_all is_ascii_digit xs) e).0) (grind (arith, nat_tests)))
    go false f = refl

module _ (text : Text) (is : is_numeral text ≡ true) where
  digits : list_all is_ascii_digit text ≡ true
  digits = (and_parts (leb 1 (length text)) (list_all is_ascii_digit text) is).1

  some : 0 < length text
  some = let long = (and_parts (leb 1 (length text)) (list_all is_ascii_digit text) is).0 in grind (arith, nat_tests)

  read_as : (b : Bool) → nat_lt (digits_value 10 text) (2 ^ 32) ≡ b → numeral text ≡ cond b (Some (digits_value 10 text)) None
  read_as b e = ap₂ (λ (x y : Bool). cond (x && y) (Some (digits_value 10 text)) None) is e

  -- a number that fits is read, and another one isn't
  pub numeral_fits : (n : ℕ) → IsNumeral 10 (without_leading_plus text) × (digits_value 10 (without_leading_plus text) < 2 ^ 32) → n ≡ digits_value 10 (without_leading_plus text) → Some n ≡ numeral text
  numeral_fits n fits value =
      let small : digits_value 10 text < 2 ^ 32 = subst (λ (t : Text). digits_value 10 t < 2 ^ 32) (no_plus text digits) fits.1 in
      let below : nat_lt (digits_value 10 text) (2 ^ 32) ≡ true = grind (arith, nat_tests) in
      ap (λ k. Some k) (value ∙ ap (digits_value 10) (no_plus text digits)) ∙ sym (read_as true below)

  pub numeral_unfit : (IsNumeral 10 (without_leading_plus text) × (digits_value 10 (without_leading_plus text) < 2 ^ 32) → ⊥) → None ≡ numeral text
  numeral_unfit unfit =
      let great : digits_value 10 text < 2 ^ 32 → ⊥ = λ small. unfit (subst (λ (t : Text). IsNumeral 10 t × (digits_value 10 t < 2 ^ 32)) (sym (no_plus text digits)) ((some, digits_below text digits), small)) in
      let out : nat_lt (digits_value 10 text) (2 ^ 32) ≡ false = grind (arith, nat_tests) in
      sym (read_as false out)

-- a number that doesn't fit its type is out of range
pub too_great : (text : Text) (least most : ℕ) → most < 2 ^ 32 → is_number text ≡ true → (IsNumeral 10 (without_leading_plus text) × (digits_value 10 (without_leading_plus text) < 2 ^ 32) → ⊥) → None ≡ number_between least most text
too_great text least most fits number unfit =
    let long : leb 1 (length text) ≡ true = (and_parts (leb 1 (length text)) (leb (length text) 10 && list_all is_ascii_digit text) number).0 in
    let rest : (leb (length text) 10 && list_all is_ascii_digit text) ≡ true = (and_parts (leb 1 (length text)) (leb (length text) 10 && list_all is_ascii_digit text) number).1 in
    let digits : list_all is_ascii_digit text ≡ true = (and_parts (leb (length text) 10) (list_all is_ascii_digit text) rest).1 in
    let some : 0 < length text = grind (arith, nat_tests) in
    let numeral : IsNumeral 10 text = (some, digits_below text digits) in
    let great : digits_value 10 text < 2 ^ 32 → ⊥ = λ small. unfit (subst (λ (t : Text). IsNumeral 10 t × (digits_value 10 t < 2 ^ 32)) (sym (no_plus text digits)) (numeral, small)) in
    let out : leb (digits_value 10 text) most ≡ false = grind (arith, nat_tests) in
    sym (ap₂ (λ (a b : Bool). cond (a && (leb least (digits_value 10 text) && b)) (Some (digits_value 10 text)) None) number out
    ∙ go (leb least (digits_value 10 text)))
  where
    go : (b : Bool) → cond (true && (b && false)) (Some (digits_value 10 text)) None ≡ None
    go true = refl
    go false = refl
