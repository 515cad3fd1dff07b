-- The text that tells a server's counts: lines behind lines, and it is short.
use Rattle.std.proofs.Common.{◌≡◌, ℕ, zero, suc, ◌+◌, ◌/◌, ◌%◌, ◌≤◌, ◌==◌, Bool, true, false, cond, List, [], ◌∷◌, ◌++◌, length, codes, refl, sym, ap, ◌∙◌, append_assoc, append-nil, arith}
use Rattle.std.specs.Fmt.{decimal, digit_glyph, digits, digits_onto}
use Rattle.std.proofs.lemmas.List.{length-append}
use Rattle.udp_codec.specs.Limits.{most_text}
use Rattle.live_server.specs.CountsText.{count_line, counts_text, named_counts, state_counts}
use Rattle.live_server.specs.declared.counts.Counts.{Counts}

onto_short : (k base : ℕ) (upper : Bool) (n : ℕ) (acc : List ℕ) → length (digits_onto k base upper n acc) ≤ k + length acc
onto_short zero base upper n acc = omega arith
onto_short (suc k) base upper n acc = by (n / base == 0) (onto_short k base upper (n / base) next)
  where
    next : List ℕ
    next = digit_glyph upper (n % base) ∷ acc

    by : (b : Bool) → length (digits_onto k base upper (n / base) next) ≤ k + length next → length (cond b next (digits_onto k base upper (n / base) next)) ≤ suc k + length acc
    by true h = omega arith
    by false h = omega (arith, h)

-- of no number more than 64 digits are written
decimal_short : (n : ℕ) → length (decimal n) ≤ 64
unfolding digits
decimal_short n = omega (arith, onto_short 64 10 false n [])

line_short : (c : List ℕ × ℕ) → length (count_line c) ≤ 66 + length c.0
unfolding count_line
line_short c = omega (arith, length-append c.0 (codes " " ++ (decimal c.1 ++ codes "\n")), length-append (decimal c.1) (codes "\n"), decimal_short c.1)

-- so long the lines are at most
abbrev most_of : List (List ℕ × ℕ) → ℕ
most_of [] = 0
most_of (c ∷ cs) = 66 + length c.0 + most_of cs

counts_short : (cs : List (List ℕ × ℕ)) → length (counts_text cs) ≤ most_of cs
counts_short [] = omega arith
counts_short (c ∷ cs) =
    let h : length (count_line c ++ counts_text cs) ≤ 66 + length c.0 + most_of cs = omega (arith, length-append (count_line c) (counts_text cs), line_short c, counts_short cs) in h

pub told_short : (a b c : ℕ) (d : Bool) (n : Counts) → length (counts_text (state_counts a b c d ++ named_counts n)) ≤ most_text
told_short a b c d n =
    let h : length (counts_text (state_counts a b c d ++ named_counts n)) ≤ 1797 = counts_short (state_counts a b c d ++ named_counts n) in
    omega (arith, h)

joined : (xs ys : List (List ℕ × ℕ)) → counts_text (xs ++ ys) ≡ counts_text xs ++ counts_text ys
joined [] ys = refl
joined (x ∷ xs) ys = ap (λ l. count_line x ++ l) (joined xs ys) ∙ sym (append_assoc (count_line x) (counts_text xs) (counts_text ys))

-- lines behind lines
pub then_told : (t u : List ℕ) (xs ys : List (List ℕ × ℕ)) → t ≡ counts_text xs → u ≡ t ++ counts_text ys → u ≡ counts_text (xs ++ ys)
then_told t u xs ys before is = is ∙ ap (λ l. l ++ counts_text ys) before ∙ sym (joined xs ys)

pub three_told : (t0 t1 t2 t3 a b d : List ℕ) → t1 ≡ t0 ++ a → t2 ≡ t1 ++ b → t3 ≡ t2 ++ d → t3 ≡ t0 ++ (a ++ (b ++ (d ++ [])))
three_told t0 t1 t2 t3 a b d one two three =
    three ∙ ap (λ l. l ++ d) (two ∙ ap (λ l. l ++ b) one) ∙ append_assoc (t0 ++ a) b d ∙ append_assoc t0 a (b ++ d) ∙ ap (λ l. t0 ++ (a ++ (b ++ l))) (sym (append-nil d))

pub four_told : (t0 t1 t2 t3 t4 a b d e : List ℕ) → t1 ≡ t0 ++ a → t2 ≡ t1 ++ b → t3 ≡ t2 ++ d → t4 ≡ t3 ++ e → t4 ≡ t0 ++ (a ++ (b ++ (d ++ (e ++ []))))
four_told t0 t1 t2 t3 t4 a b d e one two three four =
    four ∙ ap (λ l. l ++ e) (three_told t0 t1 t2 t3 a b d one two three) ∙ regrouped
  where
    regrouped : (t0 ++ (a ++ (b ++ (d ++ [])))) ++ e ≡ t0 ++ (a ++ (b ++ (d ++ (e ++ []))))
    regrouped = simp (append_assoc, append-nil)
