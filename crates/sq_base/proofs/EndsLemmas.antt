-- One write after another.
use Rattle.std.proofs.Common.{◌≡◌, ℕ, ◌+◌, ◌-◌, ◌≤◌, List, ◌++◌, Option, length, take, drop, subst, sym, ap, arith, ◌∙◌, length-drop}
use Rattle.std.proofs.Math.Seq.{take-add}
use Rattle.std.proofs.lemmas.List.{take_at, drop-drop, take-append-drop, length-take-le}
use Rattle.std.proofs.KnownBytes.{Appends-trans}
use Rattle.std.specs.Io.KnownBytes.{Appends}

-- a front, and then a front of what is left
pub Appends-front_more : (a b c : Option (List ℕ)) (i n : ℕ) (xs : List ℕ) → Appends a b (take i xs) → Appends b c (take n (drop i xs)) → Appends a c (take (i + n) xs)
Appends-front_more a b c i n xs p q =
    subst (λ (ys : List ℕ). Appends a c ys) (sym (take-add i n xs)) (Appends-trans a b c (take i xs) (take n (drop i xs)) p q)

-- a part that was copied from the front of what was left, and what is left behind it
pub part_and_rest : (bytes copied behind : List ℕ) (at n : ℕ) → copied ≡ take (at + n - at) (drop at bytes) → at + n ≤ length bytes → drop at bytes ≡ take n (copied ++ behind) ++ drop (at + n) bytes
part_and_rest bytes copied behind at n e h =
    let m : at + n - at ≡ n = omega arith in
    let here : copied ≡ take n (drop at bytes) = e ∙ ap (λ (k : ℕ). take k (drop at bytes)) m in
    let long : length copied ≡ n = ap length here ∙ length-take-le n (drop at bytes) (omega (arith, length-drop at bytes)) in
    sym (ap (λ (xs : List ℕ). xs ++ drop (at + n) bytes) (take_at copied behind n long ∙ here) ∙ (ap (λ (xs : List ℕ). take n (drop at bytes) ++ xs) (sym (drop-drop n at bytes)) ∙ take-append-drop n (drop at bytes)))
