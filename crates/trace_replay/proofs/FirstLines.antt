-- Where the first line of a text stands that begins with a word.
use Rattle.std.proofs.Common.{◌≡◌, ℕ, ◌≤◌, ◌==◌, inl, inr, Bool, true, false, if◌then◌else◌, List, [], ◌∷◌, ◌++◌, length, refl, ap, sym, ◌∙◌, subst, arith, eq-eqb}
use Rattle.std.proofs.lemmas.Bool.Decides.{nat_tests}
use Rattle.trace_replay.specs.Lines.{EndsLine, HasFirstLine}

-- whether a line may begin behind the text, where one may before it or not
abbrev pub ends : Bool → List ℕ → Bool
ends s [] = s
ends s (x ∷ xs) = ends (x == 10) xs

-- whether the text is whole lines, none of which begins with the byte
abbrev pub avoids : ℕ → Bool → List ℕ → Bool
avoids b s [] = s
avoids b s (x ∷ xs) = if s then (if x == b then false else avoids b (x == 10) xs) else avoids b (x == 10) xs

on_test : (s t a b : Bool) → (a ≡ true → b ≡ true) → (if s then (if t then false else a) else a) ≡ true → (if s then (if t then false else b) else b) ≡ true
on_test true true a b f h = h
on_test true false a b f h = f h
on_test false t a b f h = f h

rest_avoids : (s t a : Bool) → (if s then (if t then false else a) else a) ≡ true → a ≡ true
rest_avoids true true a h = absurd (let no : ⊥ = cc h in no)
rest_avoids true false a h = h
rest_avoids false t a h = h

pub avoids_both : (b : ℕ) (s : Bool) (xs ys : List ℕ) → avoids b s xs ≡ true → avoids b true ys ≡ true → avoids b s (xs ++ ys) ≡ true
avoids_both b s [] ys h k = subst (λ (s : Bool). avoids b s ys ≡ true) (sym h) k
avoids_both b s (x ∷ xs) ys h k = on_test s (x == b) (avoids b (x == 10) xs) (avoids b (x == 10) (xs ++ ys)) (λ g. avoids_both b (x == 10) xs ys g k) h

-- a line that begins with the byte stands behind such a text
skip : (b : ℕ) (s : Bool) (xs front more rest : List ℕ) → avoids b s xs ≡ true → ends s front ≡ true → front ++ (b ∷ more) ≡ xs ++ rest → length xs ≤ length front
skip b s [] front more rest h k e = omega arith
skip b s (x ∷ xs) [] more rest h k e =
    let same : b ≡ x = cc e in
    let test : (x == b) ≡ true = eq-eqb x b (sym same) in
    let bad : false ≡ true = sym (λ i. if k i then (if test i then false else avoids b (x == 10) xs) else avoids b (x == 10) xs) ∙ h in
    absurd (let no : ⊥ = cc bad in no)
skip b s (x ∷ xs) (y ∷ front) more rest h k e =
    let same : y ≡ x = cc e in
    let others : front ++ (b ∷ more) ≡ xs ++ rest = cc e in
    let less = skip b (x == 10) xs front more rest (rest_avoids s (x == b) (avoids b (x == 10) xs) h) (subst (λ (z : ℕ). ends (z == 10) front ≡ true) same k) others in
    omega (arith, less)

last_line : (b : ℕ) (s : Bool) (xs : List ℕ) → avoids b s xs ≡ true → EndsLine xs
last_line b s [] h = inl refl
last_line b s (x ∷ xs) h =
    elim (last_line b (x == 10) xs (rest_avoids s (x == b) (avoids b (x == 10) xs) h)) [
      | inl none ↦
          let end : (x == 10) ≡ true = subst (λ (l : List ℕ). avoids b (x == 10) l ≡ true) none (rest_avoids s (x == b) (avoids b (x == 10) xs) h) in
          let ten : x ≡ 10 = grind (arith, nat_tests, end) in
          inr ([], λ i. ten i ∷ none i)
      | inr some ↦ inr (x ∷ some.0, ap (λ (l : List ℕ). x ∷ l) some.1)
    ]

pub whole_lines : (b : ℕ) (xs : List ℕ) → avoids b true xs ≡ true → EndsLine xs
whole_lines b xs h = last_line b true xs h

ends_last : (s : Bool) (front : List ℕ) → ends s (front ++ 10 ∷ []) ≡ true
ends_last s [] = refl
ends_last s (x ∷ front) = ends_last (x == 10) front

ends_of : (front : List ℕ) → EndsLine front → ends true front ≡ true
ends_of front (inl none) = ap (ends true) none
ends_of front (inr some) = ap (ends true) some.1 ∙ ends_last true some.0

-- the first line behind whole lines that begin otherwise
pub first_line : (b : ℕ) (word before rest : List ℕ) → avoids b true before ≡ true → HasFirstLine (b ∷ word) (before ++ ((b ∷ word) ++ rest)) before
first_line b word before rest h = record {
  there = record { after = rest; joined = refl; begins = whole_lines b before h };
  first = λ front line. skip b true before front (word ++ line.after) ((b ∷ word) ++ rest) h (ends_of front line.begins) (sym line.joined);
}

pub same_front : {A : Type 0} (xs ys us vs : List A) → length xs ≡ length ys → xs ++ us ≡ ys ++ vs → (xs ≡ ys) × (us ≡ vs)
same_front [] [] us vs n e = (refl, e)
same_front [] (y ∷ ys) us vs n e = absurd (let no : ⊥ = omega (arith, n) in no)
same_front (x ∷ xs) [] us vs n e = absurd (let no : ⊥ = omega (arith, n) in no)
same_front (x ∷ xs) (y ∷ ys) us vs n e =
    let first : x ≡ y = cc e in
    let others : xs ++ us ≡ ys ++ vs = cc e in
    let r = same_front xs ys us vs (omega (arith, n)) others in
    (λ i. first i ∷ r.0 i, r.1)

-- there is one first line
pub first_once : (word text a b : List ℕ) → HasFirstLine word text a → HasFirstLine word text b → a ≡ b
first_once word text a b h k =
    let less = h.first b k.there in
    let more = k.first a h.there in
    let r = same_front a b (word ++ h.there.after) (word ++ k.there.after) (omega (arith, less, more)) (sym h.there.joined ∙ k.there.joined) in
    r.0
