-- Texts of lines and words: a text fixes its words.
use Rattle.std.proofs.Common.{◌≡◌, ℕ, ◌^◌, ◌<◌, ◌==◌, Bool, true, false, if◌then◌else◌, List, [], ◌∷◌, ◌++◌, refl, ap, sym, ◌∙◌, subst, arith, append_assoc}
use Rattle.std.specs.Fmt.{decimal}
use Rattle.std.specs.List.{flat_map}
use Rattle.std.specs.Str.Parse.{digits_value}
use Rattle.std.proofs.lemmas.Fmt.{decimal_is_IsNumeral}
use Rattle.report_lines.specs.ReportText.{line, line_end}

-- all elements of a list are of a kind; the list goes on with none of it
abbrev pub all_of : {A : Type 0} → (A → Bool) → List A → Bool
all_of P [] = true
all_of P (x ∷ xs) = if P x then all_of P xs else false

abbrev pub Stops : {A : Type 0} → (A → Bool) → List A → Type 0
Stops P [] = Unit {0}
Stops P (x ∷ xs) = P x ≡ false

head_of : (a b : Bool) → (if a then b else false) ≡ true → (a ≡ true) × (b ≡ true)
head_of true b h = (refl, h)
head_of false b h = absurd (let no : ⊥ = cc h in no)

-- where two lists are each elements of a kind and then others, they are the same in both parts
pub apart : {A : Type 0} (P : A → Bool) (xs ys us vs : List A) → all_of P xs ≡ true → all_of P ys ≡ true → Stops P us → Stops P vs → xs ++ us ≡ ys ++ vs → (xs ≡ ys) × (us ≡ vs)
apart P [] [] us vs a b s t e = (refl, e)
apart P [] (y ∷ ys) [] vs a b s t e = absurd (let no : ⊥ = cc e in no)
apart P [] (y ∷ ys) (u ∷ us) vs a b s t e =
    let same : u ≡ y = cc e in
    let is : P y ≡ true = (head_of (P y) (all_of P ys) b).0 in
    absurd (let other : P y ≡ false = subst (λ (x : _). P x ≡ false) same s in let no : ⊥ = cc (is, other) in no)
apart P (x ∷ xs) [] us [] a b s t e = absurd (let no : ⊥ = cc e in no)
apart P (x ∷ xs) [] us (v ∷ vs) a b s t e =
    let same : v ≡ x = cc e in
    let is : P x ≡ true = (head_of (P x) (all_of P xs) a).0 in
    absurd (let other : P x ≡ false = subst (λ (x : _). P x ≡ false) same t in let no : ⊥ = cc (is, other) in no)
apart P (x ∷ xs) (y ∷ ys) us vs a b s t e =
    let first : x ≡ y = cc e in
    let others : xs ++ us ≡ ys ++ vs = cc e in
    let r = apart P xs ys us vs (head_of (P x) (all_of P xs) a).1 (head_of (P y) (all_of P ys) b).1 s t others in
    (λ i. first i ∷ r.0 i, r.1)

pub all_both : {A : Type 0} (P : A → Bool) (xs ys : List A) → all_of P xs ≡ true → all_of P ys ≡ true → all_of P (xs ++ ys) ≡ true
all_both P [] ys a b = b
all_both P (x ∷ xs) ys a b = let h = head_of (P x) (all_of P xs) a in ap (λ (t : Bool). if t then all_of P (xs ++ ys) else false) h.0 ∙ all_both P xs ys h.1 b

-- a byte of a word: neither a space nor a newline
abbrev pub in_word : ℕ → Bool
in_word b = if b == 32 then false else (if b == 10 then false else true)

abbrev pub is_word : List ℕ → Bool
is_word w = all_of in_word w

abbrev pub AreWords : List (List ℕ) → Type 0
AreWords [] = Unit {0}
AreWords (w ∷ ws) = (is_word w ≡ true) × AreWords ws

abbrev pub first_byte : List ℕ → ℕ
first_byte [] = 0
first_byte (x ∷ xs) = x

end_stops : (ws : List (List ℕ)) (rest : List ℕ) → Stops in_word (line_end ws ++ rest)
end_stops [] rest = refl
end_stops (w ∷ ws) rest = refl

ends_apart : (vs ws : List (List ℕ)) (r s : List ℕ) → AreWords vs → AreWords ws → line_end vs ++ r ≡ line_end ws ++ s → (vs ≡ ws) × (r ≡ s)
ends_apart [] [] r s a b e = (refl, (let f : r ≡ s = cc e in f))
ends_apart [] (w ∷ ws) r s a b e = absurd (let f : first_byte (line_end [] ++ r) ≡ first_byte (line_end (w ∷ ws) ++ s) = ap first_byte e in let no : ⊥ = omega (arith, f) in no)
ends_apart (v ∷ vs) [] r s a b e = absurd (let f : first_byte (line_end (v ∷ vs) ++ r) ≡ first_byte (line_end [] ++ s) = ap first_byte e in let no : ⊥ = omega (arith, f) in no)
ends_apart (v ∷ vs) (w ∷ ws) r s a b e =
    let f : (v ++ line_end vs) ++ r ≡ (w ++ line_end ws) ++ s = cc e in
    let g : v ++ (line_end vs ++ r) ≡ w ++ (line_end ws ++ s) = sym (append_assoc v (line_end vs) r) ∙ (f ∙ append_assoc w (line_end ws) s) in
    let x = apart in_word v w (line_end vs ++ r) (line_end ws ++ s) a.0 b.0 (end_stops vs r) (end_stops ws s) g in
    let y = ends_apart vs ws r s a.1 b.1 x.1 in
    (λ i. x.0 i ∷ y.0 i, y.1)

-- a line's words, with at least one
pub line_apart : (v w : List ℕ) (vs ws : List (List ℕ)) (r s : List ℕ) → AreWords (v ∷ vs) → AreWords (w ∷ ws) → line (v ∷ vs) ++ r ≡ line (w ∷ ws) ++ s → (v ∷ vs ≡ w ∷ ws) × (r ≡ s)
line_apart v w vs ws r s a b e =
    let g : v ++ (line_end vs ++ r) ≡ w ++ (line_end ws ++ s) = sym (append_assoc v (line_end vs) r) ∙ (e ∙ append_assoc w (line_end ws) s) in
    let x = apart in_word v w (line_end vs ++ r) (line_end ws ++ s) a.0 b.0 (end_stops vs r) (end_stops ws s) g in
    let y = ends_apart vs ws r s a.1 b.1 x.1 in
    (λ i. x.0 i ∷ y.0 i, y.1)

-- a line as its first word and the others
abbrev pub Line : Type 0
Line = List ℕ × List (List ℕ)

abbrev pub words_of : Line → List (List ℕ)
words_of (w, ws) = w ∷ ws

abbrev pub text_of : Line → List ℕ
text_of l = line (words_of l)

abbrev pub AreLines : List Line → Type 0
AreLines [] = Unit {0}
AreLines (l ∷ ls) = AreWords (words_of l) × AreLines ls

line_some : (w : List ℕ) (ws : List (List ℕ)) (rest : List ℕ) → line (w ∷ ws) ++ rest ≡ [] → ⊥
line_some [] [] rest e = cc e
line_some [] (v ∷ ws) rest e = cc e
line_some (x ∷ w) ws rest e = cc e

-- a text of lines fixes them
pub lines_apart : (ls ms : List Line) → AreLines ls → AreLines ms → flat_map text_of ls ≡ flat_map text_of ms → ls ≡ ms
lines_apart [] [] a b e = refl
lines_apart [] ((w, ws) ∷ ms) a b e = absurd (line_some w ws (flat_map text_of ms) (sym e))
lines_apart ((v, vs) ∷ ls) [] a b e = absurd (line_some v vs (flat_map text_of ls) e)
lines_apart ((v, vs) ∷ ls) ((w, ws) ∷ ms) a b e =
    let x = line_apart v w vs ws (flat_map text_of ls) (flat_map text_of ms) a.0 b.0 e in
    let first : v ≡ w = cc (x.0) in
    let others : vs ≡ ws = cc (x.0) in
    let rest = lines_apart ls ms a.1 b.1 x.1 in
    λ i. (first i, others i) ∷ rest i

-- the number that digits write
abbrev pub number_of : List ℕ → ℕ
number_of w = digits_value 10 w

pub number_is : (n : ℕ) → n < 2 ^ 64 → number_of (decimal n) ≡ n
number_is n small = (decimal_is_IsNumeral n small).1
