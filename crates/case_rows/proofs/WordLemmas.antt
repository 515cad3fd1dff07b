-- The numbers that words write, and the lines that tell of marks.
use Rattle.std.proofs.Common.{◌≡◌, ℕ, ◌+◌, ◌^◌, ◌<◌, ◌≤◌, ◌==◌, ◌||◌, not, Bool, cond, true, false, Some, None, Result, Ok, Err, List, [], ◌∷◌, map, drop, refl, ap, sym, ◌∙◌, arith, subst}
use Rattle.std.specs.Prelude.{OnOk, codes, unwrap_or}
use Rattle.std.specs.List.{count_by, list_all, list_any, position_or_len, sum_by}
use Rattle.std.specs.Result.{OkIff, result_ok}
use Rattle.std.specs.Str.{all_ascii_digits, bytes_eq}
use Rattle.std.specs.Str.Lines.{lines}
use Rattle.std.specs.Str.Parse.{IsNumeral, ParsesUnsigned, digits_value, without_leading_plus}
use Rattle.std.proofs.lemmas.Bool.{and_from, and_parts, cond-false, cond-true, false_from_ne_true, lt-ltb, ltb-true}
use Rattle.std.proofs.lemmas.List.{drop-map}
use Rattle.std.proofs.lemmas.List.Folds.{fold-map}
use Rattle.std.proofs.lemmas.Str.Parse.{IsNumeralModel, numerals_by_value, tells_all_ascii_digits}
use Rattle.case_rows.specs.Rows.{Line}
use Rattle.case_rows.specs.Wanted.{HasMarks, marks_in, marks_told, tells_marks, told_in}
use Rattle.case_rows.specs.declared.fault.RowFault.{RowFault}
use Rattle.case_rows.specs.Words.{flags_in, letters, number_in, number_of}

own : IsNumeralModel (λ ds. all_ascii_digits ds ≡ true) (digits_value 10)
own = numerals_by_value _ tells_all_ascii_digits

-- what `parse` gives
pub number_read : {E : Type 0} (k : ℕ) (word : List ℕ) (r : Result ℕ E) → ParsesUnsigned k 10 word r → result_ok r ≡ number_in k word
number_read {E} k word r h = go r h
  where
    ds : List ℕ
    ds = without_leading_plus word

    go : (r : Result ℕ E) → OkIff r (IsNumeral 10 ds × (digits_value 10 ds < 2 ^ k)) (digits_value 10 ds) → result_ok r ≡ number_of k ds
    go (Ok x) h =
        ap Some h.1 ∙ sym (cond-true _ (Some (digits_value 10 ds)) None (and_from _ _ (lt-ltb _ _ h.0.0.0) (and_from _ _ (own.from ds h.0.0.1) (lt-ltb _ _ h.0.1))))
    go (Err e) h =
        sym (cond-false _ (Some (digits_value 10 ds)) None (false_from_ne_true _ (λ t.
        let p = and_parts _ _ t in
        let q = and_parts _ _ p.1 in
        h ((ltb-true _ _ p.0, own.to ds q.0), ltb-true _ _ q.1))))

pub position-map : {X Y : Type 0} (p : Y → Bool) (f : X → Y) (xs : List X) → position_or_len p (map f xs) ≡ position_or_len (λ x. p (f x)) xs
position-map p f [] = refl
position-map p f (x ∷ xs) = ap (λ (n : ℕ). cond (not (p (f x))) (1 + n) 0) (position-map p f xs)

-- of lines that are borrowed
pub told_map : (ls : List Line) → sum_by (λ l. unwrap_or (marks_told l.now) 0) ls ≡ told_in (map (λ l. l.now) ls)
told_map ls = sym (fold-map (λ (n : ℕ) (l : List ℕ). n + unwrap_or (marks_told l) 0) (λ (l : Line). l.now) 0 ls)

pub marks_map : (ls : List Line) → count_by (λ l. not (tells_marks l.now || bytes_eq l.now (codes "done"))) (drop (position_or_len (λ l. tells_marks l.now) ls) ls) ≡ marks_in (map (λ l. l.now) ls)
marks_map ls =
    let is_mark : List ℕ → Bool = λ l. not (tells_marks l || bytes_eq l (codes "done")) in
    let from = position_or_len (λ (l : Line). tells_marks l.now) ls in
    sym (ap (λ (n : ℕ). count_by is_mark (drop n (map (λ l. l.now) ls))) (position-map (λ (l : List ℕ). tells_marks l) (λ (l : Line). l.now) ls)
    ∙ (ap (count_by is_mark) (drop-map (λ (l : Line). l.now) from ls)
    ∙ fold-map (λ (n : ℕ) (l : List ℕ). n + cond (is_mark l) 1 0) (λ (l : Line). l.now) 0 (drop from ls)))

-- the bits of the letters that a word has
abbrev bit_in : List ℕ → ℕ × ℕ → ℕ
bit_in w l = cond (list_any (λ c. c == l.1) w) l.0 0

pub bits_sum : (w : List ℕ) (a b c d e f : ℕ) → a ≡ bit_in w (1, 70) → b ≡ bit_in w (2, 83) → c ≡ bit_in w (4, 82) → d ≡ bit_in w (8, 80) → e ≡ bit_in w (16, 65) → f ≡ bit_in w (32, 85)
    → a + b + c + d + e + f ≡ sum_by (bit_in w) letters
bits_sum w a b c d e f ha hb hc hd he hf = omega (arith, ha, hb, hc, hd, he, hf)

pub flags_read : (w : List ℕ) (n : ℕ) → bytes_eq w (codes "-") ≡ false → list_all (λ c. list_any (λ l. l.1 == c) letters) w ≡ true → n ≡ sum_by (bit_in w) letters → Some n ≡ flags_in w
flags_read w n other all is =
    ap Some is ∙ (sym (cond-true _ (Some (sum_by (bit_in w) letters)) None all)
    ∙ sym (cond-false _ (Some 0) (cond (list_all (λ c. list_any (λ l. l.1 == c) letters) w) (Some (sum_by (bit_in w) letters)) None) other))

pub marks_ok : (r : Result (Unit {0}) RowFault) (least most : ℕ) (all : List (List ℕ)) (out : List ℕ) → all ≡ lines out → OnOk r (told_in all ≡ marks_in all) → OnOk r ((least ≤ marks_in all) × (marks_in all ≤ most)) → OnOk r (HasMarks least most out)
marks_ok (Ok x) least most all out same told limits =
    let h = subst (λ (ls : List (List ℕ)). (told_in ls ≡ marks_in ls) × ((least ≤ marks_in ls) × (marks_in ls ≤ most))) same (told, limits) in
    record { told = h.0; no_fewer = h.1.0; no_more = h.1.1 }
marks_ok (Err e) least most all out same told limits = tt
