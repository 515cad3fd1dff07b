-- What is written determines what it was written of: the fields of a line, and a number by its digits.
use Rattle.std.proofs.Common.{◌≡◌, ◌≢◌, ℕ, ◌^◌, ◌<◌, ◌==◌, ◌&&◌, ◌||◌, not, Bool, true, false, List, [], ◌∷◌, ◌++◌, decimal, refl, ap, sym, ◌∙◌, append_assoc, arith}
use Rattle.std.specs.Char.{is_ascii_digit}
use Rattle.std.specs.Str.{all_ascii_digits}
use Rattle.std.proofs.lemmas.Bool.Decides.{nat_tests}
use Rattle.std.proofs.lemmas.Fmt.{digits_decimal}
use Rattle.report_lines.specs.ReportText.{line, line_end}
use Rattle.trace_lines.proofs.Numbers.{own}

-- no byte of the text passes the test
abbrev pub IsClear : (ℕ → Bool) → List ℕ → Type 0
IsClear stops [] = Unit {0}
IsClear stops (b ∷ bs) = (stops b ≡ false) × IsClear stops bs

-- the text begins with a byte that does
abbrev pub Stops : (ℕ → Bool) → List ℕ → Type 0
Stops stops [] = ⊥
Stops stops (b ∷ bs) = stops b ≡ true

pub apart : {P : Type 0} (stops : ℕ → Bool) (a b : ℕ) → a ≡ b → stops a ≡ true → stops b ≡ false → P
apart stops a b e one other = let unlike : true ≡ false = sym one ∙ (ap stops e ∙ other) in cc unlike

-- two texts that go on behind clear fronts have the same fronts
pub front_same : (stops : ℕ → Bool) (f g x y : List ℕ) → IsClear stops f → IsClear stops g → Stops stops x → Stops stops y → f ++ x ≡ g ++ y → (f ≡ g) × (x ≡ y)
front_same stops [] [] x y clear_f clear_g stop_x stop_y e = (refl, e)
front_same stops [] (b ∷ g) [] y clear_f clear_g stop_x stop_y e = absurd stop_x
front_same stops [] (b ∷ g) (a ∷ x) y clear_f clear_g stop_x stop_y e = apart stops a b (cc e) stop_x clear_g.0
front_same stops (a ∷ f) [] x [] clear_f clear_g stop_x stop_y e = absurd stop_y
front_same stops (a ∷ f) [] x (b ∷ y) clear_f clear_g stop_x stop_y e = apart stops b a (cc e) stop_y clear_f.0
front_same stops (a ∷ f) (b ∷ g) x y clear_f clear_g stop_x stop_y e =
    let one : a ≡ b = cc e in
    let others : f ++ x ≡ g ++ y = cc e in
    let r = front_same stops f g x y clear_f.1 clear_g.1 stop_x stop_y others in
    let whole : a ∷ f ≡ b ∷ g = cc (one, r.0) in
    (whole, r.1)

pub clear-append : (stops : ℕ → Bool) (f g : List ℕ) → IsClear stops f → IsClear stops g → IsClear stops (f ++ g)
clear-append stops [] g clear_f clear_g = clear_g
clear-append stops (b ∷ f) g clear_f clear_g = (clear_f.0, clear-append stops f g clear_f.1 clear_g)

-- ---- fields

abbrev pub ends_field : ℕ → Bool
ends_field b = (b == 32) || (b == 10)

abbrev pub AreFields : List (List ℕ) → Type 0
AreFields [] = Unit {0}
AreFields (f ∷ fs) = IsClear ends_field f × AreFields fs

end_stops : (fs : List (List ℕ)) (x : List ℕ) → Stops ends_field (line_end fs ++ x)
end_stops [] x = refl
end_stops (f ∷ fs) x = refl

ends_same : (fs gs : List (List ℕ)) (x y : List ℕ) → AreFields fs → AreFields gs → line_end fs ++ x ≡ line_end gs ++ y → (fs ≡ gs) × (x ≡ y)
ends_same [] [] x y are_fs are_gs e = (refl, cc e)
ends_same [] (g ∷ gs) x y are_fs are_gs e = apart (λ b. b == 10) 10 32 (cc e) refl refl
ends_same (f ∷ fs) [] x y are_fs are_gs e = apart (λ b. b == 32) 32 10 (cc e) refl refl
ends_same (f ∷ fs) (g ∷ gs) x y are_fs are_gs e =
    let others : (f ++ line_end fs) ++ x ≡ (g ++ line_end gs) ++ y = cc e in
    let r = front_same ends_field f g (line_end fs ++ x) (line_end gs ++ y) are_fs.0 are_gs.0 (end_stops fs x) (end_stops gs y) (sym (append_assoc f (line_end fs) x) ∙ (others ∙ append_assoc g (line_end gs) y)) in
    let s = ends_same fs gs x y are_fs.1 are_gs.1 r.1 in
    let whole : f ∷ fs ≡ g ∷ gs = cc (r.0, s.0) in
    (whole, s.1)

-- the fields of a line that has some, and what stands behind it
pub one_line : (fs gs : List (List ℕ)) (x y : List ℕ) → fs ≢ [] → gs ≢ [] → AreFields fs → AreFields gs → line fs ++ x ≡ line gs ++ y → (fs ≡ gs) × (x ≡ y)
one_line [] gs x y some_f some_g are_fs are_gs e = absurd (some_f refl)
one_line (f ∷ fs) [] x y some_f some_g are_fs are_gs e = absurd (some_g refl)
one_line (f ∷ fs) (g ∷ gs) x y some_f some_g are_fs are_gs e =
    let r = front_same ends_field f g (line_end fs ++ x) (line_end gs ++ y) are_fs.0 are_gs.0 (end_stops fs x) (end_stops gs y) (sym (append_assoc f (line_end fs) x) ∙ (e ∙ append_assoc g (line_end gs) y)) in
    let s = ends_same fs gs x y are_fs.1 are_gs.1 r.1 in
    let whole : f ∷ fs ≡ g ∷ gs = cc (r.0, s.0) in
    (whole, s.1)

-- a word is a field
abbrev pub is_word : List ℕ → Bool
is_word [] = true
is_word (b ∷ bs) = not (ends_field b) && is_word bs

pub word_field : (f : List ℕ) → is_word f ≡ true → IsClear ends_field f
word_field [] e = tt
word_field (b ∷ bs) e = by (ends_field b) refl e (word_field bs)
  where
    by : (t : Bool) → ends_field b ≡ t → (not t && is_word bs) ≡ true → (is_word bs ≡ true → IsClear ends_field bs) → IsClear ends_field (b ∷ bs)
    by true is e others = cc e
    by false is e others = (is, others e)

-- ---- numbers

abbrev pub no_digit : ℕ → Bool
no_digit b = not (is_ascii_digit b)

digits_clear : (ds : List ℕ) → all_ascii_digits ds ≡ true → IsClear no_digit ds × IsClear ends_field ds
digits_clear [] e = (tt, tt)
digits_clear (d ∷ ds) e = by (is_ascii_digit d) refl e (digits_clear ds)
  where
    by : (t : Bool) → is_ascii_digit d ≡ t → (t && all_ascii_digits ds) ≡ true → (all_ascii_digits ds ≡ true → IsClear no_digit ds × IsClear ends_field ds) → IsClear no_digit (d ∷ ds) × IsClear ends_field (d ∷ ds)
    by false is e others = cc e
    by true is e others =
        let r = others e in
        let no : not (is_ascii_digit d) ≡ false = ap not is in
        let field : ends_field d ≡ false = grind (arith, nat_tests) in
        ((no, r.0), (field, r.1))

pub decimal_clear : (n : ℕ) → n < 2 ^ 64 → IsClear no_digit (decimal n)
decimal_clear n small = (digits_clear (decimal n) (digits_decimal own n small)).0

pub decimal_field : (n : ℕ) → n < 2 ^ 64 → IsClear ends_field (decimal n)
decimal_field n small = (digits_clear (decimal n) (digits_decimal own n small)).1
