-- What is said of an output when it was compared.
use Rattle.std.proofs.Common.{◌≡◌, ℕ, zero, suc, ◌+◌, ◌<◌, ◌≤◌, ◌==◌, inl, inr, Bool, cond, true, false, Option, None, Some, Result, Ok, Err, List, [], ◌∷◌, ◌++◌, length, map, take, drop, min, refl, ap, sym, ◌∙◌, subst, arith, append-nil, slice_index_or}
use Rattle.std.specs.Prelude.{Contains, IfSome, MatchResult, OnOk, ◌≢◌, is_some, unwrap_or}
use Rattle.std.specs.List.{AllByRecursion, count_by}
use Rattle.std.specs.Str.{bytes_eq}
use Rattle.std.specs.Str.Lines.{lines}
use Rattle.std.proofs.Math.Seq.{take-append_seam}
use Rattle.std.proofs.lemmas.Bool.{cases_lt}
use Rattle.std.proofs.lemmas.List.{take_all}
use Rattle.std.proofs.lemmas.List.Folds.{fold-map}
use Rattle.case_rows.specs.Rows.{Line, Writes, only_line}
use Rattle.case_rows.specs.Wanted.{HasSum, Lines, StandsAmong, StandsAsOften, spelled}
use Rattle.case_rows.specs.declared.fault.RowFault.{RowFault}

pick : (wanted : List Lines) (k : ℕ) (out : List ℕ) → k < length wanted → ((d : Lines) → out ≡ spelled (slice_index_or wanted k d).now)
    → (part : List Line) × Contains (map (λ ls. ls.now) wanted) part × (out ≡ spelled part)
pick [] k out lt at = absurd (omega (arith, lt))
pick (w ∷ ws) zero out lt at = (w.now, (0, omega arith, refl), at w)
pick (w ∷ ws) (suc k) out lt at =
    let r = pick ws k out (omega (arith, lt)) at in
    (r.0, (suc r.1.0, omega (arith, r.1.1), r.1.2), r.2)

-- the output is one of these parts
pub one_of : (r : Result (Unit {0}) RowFault) (wanted : List Lines) (parts : List (List Line)) (out : List ℕ) → map (λ ls. ls.now) wanted ≡ parts
    → OnOk r ((k : ℕ) × (k < length wanted) × ((d : Lines) → out ≡ spelled (slice_index_or wanted k d).now)) → OnOk r ((part : List Line) × Contains parts part × (out ≡ spelled part))
one_of (Ok x) wanted parts out are h = subst (λ (ps : List (List Line)). (part : List Line) × Contains ps part × (out ≡ spelled part)) are (pick wanted h.0 out h.1 h.2)
one_of (Err e) wanted parts out are h = tt

pub count_map : (w : List ℕ) (xs : List Line) → count_by (λ l. bytes_eq l w) (map (λ line. line.now) xs) ≡ count_by (λ l. bytes_eq l.now w) xs
count_map w xs = fold-map (λ (n : ℕ) (x : List ℕ). n + cond (bytes_eq x w) 1 0) (λ (line : Line). line.now) 0 xs

-- it stands there as often
pub times_ok : (r : Result (Unit {0}) RowFault) (before : List ℕ) (times got count : ℕ) → Writes before times → MatchResult r (λ _. times ≡ got) (λ _. times ≢ got) → got ≡ count → OnOk r (Writes before count)
times_ok (Ok x) before times got count w is e = subst (Writes before) (is ∙ e) w
times_ok (Err x) before times got count w is e = tt

pub some_lines : {A : Type 0} (ls : List A) → (length ls == 0) ≡ false → 1 ≤ length ls
some_lines [] e = cc e
some_lines (l ∷ ls) e = omega arith

pub among_ok : (r : Result (Unit {0}) RowFault) (ls : List Line) (all : List (List ℕ)) (out : List ℕ) → 1 ≤ length ls → all ≡ lines out → OnOk r (AllByRecursion (λ l. StandsAmong l.now all) ls)
    → OnOk r ((1 ≤ length ls) × AllByRecursion (λ l. StandsAsOften l.now out) ls)
among_ok (Ok x) ls all out some same h = (some, subst (λ (a : List (List ℕ)). AllByRecursion (λ l. StandsAmong l.now a) ls) same h)
among_ok (Err e) ls all out some same h = tt

-- what begins a text, and is as long as so many bytes of it, is these
pub front_of : (w out : List ℕ) (len : ℕ) → w ≡ out ++ drop (length out) w → length out ≡ min len (length w) → out ≡ take len w
front_of w out len is n = elim (cases_lt len (length w)) [
  | inl lt ↦
      let same : length out ≡ len = omega (arith, n, lt) in
      sym (ap (take len) is ∙ (ap (λ (k : ℕ). take k (out ++ drop (length out) w)) (sym same) ∙ take-append_seam out (drop (length out) w)))
  | inr le ↦
      let same : length out ≡ length w = omega (arith, n, le) in
      let none : drop (length out) w ≡ [] = nothing w (length out) (omega (arith, same)) in
      sym (take_all len w le ∙ (is ∙ (ap (λ (l : List ℕ). out ++ l) none ∙ append-nil out)))
]
  where
    nothing : (xs : List ℕ) (i : ℕ) → length xs ≤ i → drop i xs ≡ []
    nothing [] zero le = refl
    nothing [] (suc i) le = refl
    nothing (x ∷ xs) zero le = absurd (omega (arith, le))
    nothing (x ∷ xs) (suc i) le = nothing xs i (omega (arith, le))

-- what is said of a field that is there
pub of_field : (o : Option (List Line)) (b : Bool) (ls : List Line) (P : List Line → Type 0) → b ≡ is_some o → b ≡ true → ls ≡ unwrap_or o [] → P ls → IfSome o P
of_field None b ls P has is same p = tt
of_field (Some x) b ls P has is same p = subst P same p

pub of_none : (o : Option (List Line)) (b : Bool) (P : List Line → Type 0) → b ≡ is_some o → b ≡ false → IfSome o P
of_none None b P has is = tt
of_none (Some x) b P has is = cc (sym has ∙ is)

-- and of its only line
pub of_line : (o : Option (List Line)) (b : Bool) (text out : List ℕ) → b ≡ is_some o → b ≡ true → Some text ≡ only_line o [] → HasSum text out
    → IfSome o (λ ls. (t : List ℕ) × (only_line (Some ls) [] ≡ Some t) × HasSum t out)
of_line None b text out has is only sum = tt
of_line (Some ls) b text out has is only sum = (text, sym only, sum)
