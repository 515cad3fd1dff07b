-- Stays whose feeds go on from one to the next, up to a number that a later stay begins with.
use Rattle.std.proofs.Common.{◌≡◌, ℕ, zero, suc, ◌+◌, ◌-◌, ◌*◌, ◌≤◌, ◌<◌, inl, inr, List, [], ◌++◌, length, ap, sym, ◌∙◌, append_assoc, arith, length-append}
use Rattle.std.proofs.lemmas.Bool.{cases_lt}
use Rattle.perimeter_core.specs.Backlog.{up}
use Rattle.perimeter_core.proofs.FeedLists.{length-up, up_rest}

-- the numbers of the first n parts, one after another
abbrev pub first_parts : (ℕ → List ℕ) → ℕ → List ℕ
first_parts part zero = []
first_parts part (suc n) = first_parts part n ++ part n

same_first : (a b k j : ℕ) (rest : List ℕ) → 0 < k → up a k ++ rest ≡ up b j → a ≡ b
same_first a b zero j rest some e = absurd (let no : ⊥ = omega (arith, some) in no)
same_first a b (suc k) zero rest some e = absurd (let no : ⊥ = cc e in no)
same_first a b (suc k) (suc j) rest some e = cc e

-- a part has at most so many numbers, from its own first one on
pub record IsPart (spread n : ℕ) (part : List ℕ) : Type 0 where
  pub count : ℕ
  pub numbers : part ≡ up (n * spread) count
  pub few : count ≤ spread

module _ (part : ℕ → List ℕ) (spread all t : ℕ) (some : 0 < spread) (parts : (n : ℕ) → IsPart spread n (part n)) where
  -- the part that has the first number of part t + 1 is that one, and the parts before it have all numbers below
  pub finds : (n : ℕ) (rest : List ℕ) → first_parts part n ++ rest ≡ up 0 all → (t + 1) * spread < length (first_parts part n)
      → (t + 1 < n) × (length (first_parts part (t + 1)) ≡ (t + 1) * spread)
  finds zero rest e lt = absurd (let no : ⊥ = omega (arith, lt) in no)
  finds (suc n) rest e lt =
      let split : first_parts part n ++ (part n ++ rest) ≡ up 0 all = sym (append_assoc (first_parts part n) (part n) rest) ∙ e in
      elim (cases_lt ((t + 1) * spread) (length (first_parts part n))) [
        | inl before ↦ (let r = finds n (part n ++ rest) split before in (let x = r.0 in omega (arith, x), r.1))
        | inr here ↦
            let p = parts n in
            let long = length-append (first_parts part n) (part n) in
            let count : length (part n) ≡ p.count = ap length p.numbers ∙ length-up (n * spread) p.count in
            let few = p.few in
            let not_none : 0 < p.count = omega (arith, long, count, lt, here) in
            let back = (up_rest (first_parts part n) (part n ++ rest) 0 all split).0 in
            let first : n * spread ≡ 0 + length (first_parts part n) =
            same_first (n * spread) (0 + length (first_parts part n)) p.count (length (part n ++ rest)) rest not_none (ap (λ (l : List ℕ). l ++ rest) (sym p.numbers) ∙ back) in
            let not_more : n ≤ t + 1 = elim (cases_lt (t + 1) n) [
              | inl more ↦ absurd (let d : n * spread ≡ ((t + 1) + 1 + (n - (t + 2))) * spread = ap (λ (k : ℕ). k * spread) (let z : n ≡ (t + 1) + 1 + (n - (t + 2)) = omega (arith, more) in z) in let no : ⊥ = omega (arith, d, first, here, some) in no)
              | inr le ↦ le
            ] in
            let not_less : t + 1 ≤ n = elim (cases_lt n (t + 1)) [
              | inl less ↦ absurd (let d : (t + 1) * spread ≡ (n + 1 + (t + 1 - (n + 1))) * spread = ap (λ (k : ℕ). k * spread) (let z : t + 1 ≡ n + 1 + (t + 1 - (n + 1)) = omega (arith, less) in z) in let no : ⊥ = omega (arith, d, first, lt, long, count, few) in no)
              | inr le ↦ le
            ] in
            let same : n ≡ t + 1 = omega (arith, not_more, not_less) in
            let all_before : length (first_parts part n) ≡ n * spread = omega (arith, first) in (
              omega (arith, same),
              sym (ap (λ (k : ℕ). length (first_parts part k)) same) ∙ (all_before ∙ ap (λ (k : ℕ). k * spread) same),
            )
      ]
