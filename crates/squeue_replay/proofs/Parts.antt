-- The acts of a connection between the places where its stays begin.
use Rattle.std.proofs.Common.{◌≡◌, ℕ, zero, suc, ◌+◌, ◌-◌, ◌<◌, ◌≤◌, ◌⊎◌, inl, inr, Bool, true, false, nat_le, if◌then◌else◌, Option, Some, None, List, [], ◌∷◌, ◌++◌, length, take, drop, add-one, refl, ap, sym, ◌∙◌, arith}
use Rattle.std.specs.Prelude.{IsSome, MatchOption, option_map, slice_get, slice_range}
use Rattle.std.specs.List.{PartBy}
use Rattle.std.proofs.Common.{Bor}
use Rattle.std.proofs.lemmas.List.{take-append-le, drop-append-le, drop_all, take_rest, length-drop, length_push}
use Rattle.std.proofs.lemmas.Bool.{leb-true, le-leb, and_parts, and_from}
use Rattle.perimeter_core.specs.declared.entries.Act.{Act}
use Rattle.squeue_replay.specs.Parts.{are_inside, parts_of}
use Rattle.squeue_replay.specs.Steps.{last_longer}

abbrev pub AreInside : List ℕ → ℕ → Type 0
AreInside [] n = Unit {0}
AreInside (from ∷ []) n = from ≤ n
AreInside (from ∷ to ∷ more) n = (from ≤ to) × AreInside (to ∷ more) n

pub inside : (froms : List ℕ) (n : ℕ) → are_inside froms n ≡ true → AreInside froms n
inside [] n h = tt
inside (from ∷ []) n h = leb-true from n h
inside (from ∷ to ∷ more) n h =
    let two = and_parts (nat_le from to) (are_inside (to ∷ more) n) h in
    let order : from ≤ to = leb-true from to two.0 in
    (order, inside (to ∷ more) n two.1)

pub test_inside : (froms : List ℕ) (n : ℕ) → AreInside froms n → are_inside froms n ≡ true
test_inside [] n h = refl
test_inside (from ∷ []) n h = le-leb from n h
test_inside (from ∷ to ∷ more) n h = and_from (nat_le from to) (are_inside (to ∷ more) n) (le-leb from to h.0) (test_inside (to ∷ more) n h.1)

first_inside : (to : ℕ) (more : List ℕ) (n : ℕ) → AreInside (to ∷ more) n → to ≤ n
first_inside to [] n h = h
first_inside to (u ∷ more) n h = let rest = first_inside u more n h.1 in omega (arith, h.0, rest)

pub inside_more : (froms : List ℕ) (n : ℕ) → AreInside froms n → AreInside froms (n + 1)
inside_more [] n h = tt
inside_more (from ∷ []) n h = omega (arith, h)
inside_more (from ∷ to ∷ more) n h = (h.0, inside_more (to ∷ more) n h.1)

pub inside_push : (froms : List ℕ) (n : ℕ) → AreInside froms n → AreInside (froms ++ n ∷ []) n
inside_push [] n h = omega arith
inside_push (from ∷ []) n h = (h, omega arith)
inside_push (from ∷ to ∷ more) n h = (h.0, inside_push (to ∷ more) n h.1)

same_part : (from to : ℕ) (acts : List Act) (a : Act) → from ≤ to → to ≤ length acts → take (to - from) (drop from (acts ++ a ∷ [])) ≡ take (to - from) (drop from acts)
same_part from to acts a order within =
    let start : from ≤ length acts = omega arith in
    let room : to - from ≤ length (drop from acts) = simp length-drop (omega arith) in
    rw (drop-append-le from acts (a ∷ []) start) (take-append-le (to - from) (drop from acts) (a ∷ []) room)

-- one more act is done in the last stay
pub parts_more : (froms : List ℕ) (acts : List Act) (a : Act) → AreInside froms (length acts) → parts_of froms (acts ++ a ∷ []) ≡ last_longer (a ∷ []) (parts_of froms acts)
parts_more [] acts a h = refl
parts_more (from ∷ []) acts a h = ap (λ (l : List Act). l ∷ []) (drop-append-le from acts (a ∷ []) h)
parts_more (from ∷ to ∷ []) acts a h =
    rw (same_part from to acts a h.0 h.1, drop-append-le to acts (a ∷ []) h.1) refl
parts_more (from ∷ to ∷ u ∷ more) acts a h =
    rw (same_part from to acts a h.0 (first_inside to (u ∷ more) (length acts) h.1))
    (ap (λ (l : List (List Act)). take (to - from) (drop from acts) ∷ l) (parts_more (to ∷ u ∷ more) acts a h.1))

-- one more stay, with nothing done in it yet
pub parts_begun : (froms : List ℕ) (acts : List Act) → AreInside froms (length acts) → parts_of (froms ++ length acts ∷ []) acts ≡ parts_of froms acts ++ [] ∷ []
parts_begun [] acts h = rw (drop_all (length acts) acts (omega arith)) refl
parts_begun (from ∷ []) acts h = rw (take_rest acts from, drop_all (length acts) acts (omega arith)) refl
parts_begun (from ∷ to ∷ more) acts h = ap (λ (l : List (List Act)). take (to - from) (drop from acts) ∷ l) (parts_begun (to ∷ more) acts h.1)

pub parts_count : (froms : List ℕ) (acts : List Act) → length (parts_of froms acts) ≡ length froms
parts_count [] acts = refl
parts_count (from ∷ []) acts = refl
parts_count (from ∷ to ∷ more) acts = ap suc (parts_count (to ∷ more) acts)

-- a part goes up to the next place
pub middle_part : (froms : List ℕ) (acts : List Act) (i from to : ℕ) → AreInside froms (length acts) → slice_get froms i ≡ Some from → slice_get froms (suc i) ≡ Some to
    → (slice_get (parts_of froms acts) i ≡ Some (take (to - from) (drop from acts))) × (from ≤ to) × (to ≤ length acts)
middle_part [] acts i from to h a b = absurd (cc a)
middle_part (f ∷ []) acts i from to h a b = absurd (cc b)
middle_part (f ∷ t ∷ more) acts zero from to h a b =
    let same_from : f ≡ from = cc a in
    let same_to : t ≡ to = cc b in
    let end : t ≤ length acts = first_inside t more (length acts) h.1 in
    rw (← same_from, ← same_to) (refl, h.0, end)
middle_part (f ∷ t ∷ more) acts (suc i) from to h a b = middle_part (t ∷ more) acts i from to h.1 a b

-- and the last one up to the end
pub last_part : (froms : List ℕ) (acts : List Act) (i from : ℕ) → AreInside froms (length acts) → slice_get froms i ≡ Some from → slice_get froms (suc i) ≡ None
    → (slice_get (parts_of froms acts) i ≡ Some (drop from acts)) × (from ≤ length acts)
last_part [] acts i from h a b = absurd (cc a)
last_part (f ∷ []) acts zero from h a b = let same : f ≡ from = cc a in rw (← same) (refl, h)
last_part (f ∷ []) acts (suc i) from h a b = absurd (cc a)
last_part (f ∷ t ∷ more) acts zero from h a b = absurd (cc b)
last_part (f ∷ t ∷ more) acts (suc i) from h a b = last_part (t ∷ more) acts i from h.1 a b

-- the same after an act that was kept or not
pub inside_kept : (froms : List ℕ) (acts now : List Act) (a : Act) (kept : Bool) → are_inside froms (length acts) ≡ true → now ≡ (if kept then acts ++ a ∷ [] else acts) → are_inside froms (length now) ≡ true
inside_kept froms acts now a true h is =
    let n : length now ≡ length acts + 1 = ap length is ∙ length_push acts a in
    rw n (test_inside froms (length acts + 1) (inside_more froms (length acts) (inside froms (length acts) h)))
inside_kept froms acts now a false h is = rw is h

-- and after a place at the end that was kept or not
pub inside_begun : (froms now : List ℕ) (acts : List Act) (kept : Bool) → are_inside froms (length acts) ≡ true → now ≡ (if kept then froms ++ length acts ∷ [] else froms) → are_inside now (length acts) ≡ true
inside_begun froms now acts true h is = rw is (test_inside (froms ++ length acts ∷ []) (length acts) (inside_push froms (length acts) (inside froms (length acts) h)))
inside_begun froms now acts false h is = rw is h

-- what is lent is the part of the stay, where it goes up to the next place or to the end
pub stay_lent : (froms : List ℕ) (acts : List Act) (i from to : ℕ) (r : Option (Bor (List Act))) → are_inside froms (length acts) ≡ true → slice_get froms i ≡ Some from
    → (slice_get froms (i + 1) ≡ Some to) ⊎ ((slice_get froms (i + 1) ≡ None) × (to ≡ length acts)) → PartBy (λ (x : Bor (List Act)). x.now) acts from to r
    → option_map (λ (x : Bor (List Act)). x.now) r ≡ slice_get (parts_of froms acts) i
stay_lent froms acts i from to r h at next lent =
    elim next [
      | inl more ↦
          (let part = middle_part froms acts i from to (inside froms (length acts) h) at (rw (← add-one) more) in
          is_part r part.1 part.2 (lent.1 (part.1, part.2)) lent.0 ∙ sym part.0)
      | inr last ↦
          (let part = last_part froms acts i from (inside froms (length acts) h) at (rw (← add-one) last.0) in
          let low : from ≤ to = omega (arith, part.1, last.1) in
          let within : to ≤ length acts = omega (arith, last.1) in
          is_part r low within (lent.1 (low, within)) lent.0 ∙ (rw (last.1, take_rest acts from) (sym part.0)))
    ]
  where
    is_part : (r : Option (Bor (List Act))) → from ≤ to → to ≤ length acts → IsSome r
        → MatchOption r ((to < from) ⊎ (length acts < to)) (λ x. (from ≤ to) × (to ≤ length acts) × (x.now ≡ slice_range acts from to) × (length x.now + from ≡ to))
        → option_map (λ (x : Bor (List Act)). x.now) r ≡ Some (take (to - from) (drop from acts))
    is_part None a b some m = absurd (cc some)
    is_part (Some x) a b some m = ap Some m.2
