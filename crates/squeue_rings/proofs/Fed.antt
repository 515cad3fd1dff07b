-- What is put into the receive rings.
use Rattle.std.proofs.Common.{◌≡◌, ℕ, zero, suc, ◌+◌, ◌<◌, ◌≤◌, MatchOption, Option, Some, None, List, [], ◌∷◌, length, map, option_map, slice_get, slice_index_or, slice_set, refl, ap, sym, ◌∙◌, subst, arith}
use Rattle.std.proofs.lemmas.List.{length-map}
use Rattle.poll_ring.specs.Rings.{FeedCount, RingSize}
use Rattle.squeue_rings.specs.declared.intake.Intake.{Intake}
use Rattle.squeue_rings.specs.Tasks.{HasRing, feed_end, full_end}
use Rattle.squeue_rings.proofs.Slots.{got_at}

-- of an intake that has a ring
module _ (l : Intake) (g : RingSize) (is : l.ring ≡ Some g) where
  pub its_size : HasRing l → g.capacity ≡ length l.list.items
  its_size h = subst (λ (o : Option RingSize). MatchOption o (◌≡◌ l.list.items []) (λ g. g.capacity ≡ length l.list.items)) is h

  pub its_end : (e : FeedCount) → option_map feed_end l.ring ≡ Some e → e ≡ feed_end g
  its_end e h = let i : Some (feed_end g) ≡ Some e = ap (option_map feed_end) (sym is) ∙ h in sym (cc i)

  pub its_full : (e : FeedCount) → e ≡ full_end g → option_map full_end l.ring ≡ Some e
  its_full e h = ap (option_map full_end) is ∙ ap Some (sym h)

-- an intake with no ring has no end
pub no_end : (l : Intake) (e : FeedCount) → l.ring ≡ None → option_map feed_end l.ring ≡ Some e → ⊥
no_end l e is h = let i : ◌≡◌ {A = Option FeedCount} None (Some e) = ap (option_map feed_end) (sym is) ∙ h in cc i

abbrev pub end_before : Intake → Option FeedCount
end_before l = option_map feed_end l.ring

abbrev pub end_after : Intake → Option FeedCount
end_after l = option_map full_end l.ring

-- the ends of the first n intakes have put all numbers, and the others none
abbrev pub fed : ℕ → List Intake → List (Option FeedCount)
fed n [] = []
fed zero (l ∷ ls) = end_before l ∷ fed zero ls
fed (suc n) (l ∷ ls) = end_after l ∷ fed n ls

pub none_fed : (ls : List Intake) → map end_before ls ≡ fed 0 ls
none_fed [] = refl
none_fed (l ∷ ls) = ap (λ (os : List (Option FeedCount)). end_before l ∷ os) (none_fed ls)

pub all_fed : (n : ℕ) (ls : List Intake) → length ls ≤ n → fed n ls ≡ map end_after ls
all_fed n [] le = refl
all_fed zero (l ∷ ls) le = absurd (omega (arith, le))
all_fed (suc n) (l ∷ ls) le = ap (λ (os : List (Option FeedCount)). end_after l ∷ os) (all_fed n ls (omega (arith, le)))

pub fed_count : (n : ℕ) (ls : List Intake) → length (fed n ls) ≡ length ls
fed_count n [] = refl
fed_count zero (l ∷ ls) = ap suc (fed_count zero ls)
fed_count (suc n) (l ∷ ls) = ap suc (fed_count n ls)

pub next_end : (n : ℕ) (ls : List Intake) (l : Intake) → slice_get ls n ≡ Some l → slice_get (fed n ls) n ≡ Some (end_before l)
next_end n [] l is = cc is
next_end zero (m ∷ ls) l is = let e : m ≡ l = cc is in ap (λ (m : Intake). Some (end_before m)) e
next_end (suc n) (m ∷ ls) l is = next_end n ls l is

pub one_fed : (n : ℕ) (ls : List Intake) (l : Intake) → slice_get ls n ≡ Some l → slice_set (fed n ls) n (end_after l) ≡ fed (suc n) ls
one_fed n [] l is = cc is
one_fed zero (m ∷ ls) l is = let e : m ≡ l = cc is in ap (λ (k : Intake). end_after k ∷ fed zero ls) (sym e)
one_fed (suc n) (m ∷ ls) l is = ap (λ (os : List (Option FeedCount)). end_after m ∷ os) (one_fed n ls l is)

-- the end that is next, and its intake
module _ (n : ℕ) (intakes : List Intake) (ends : List (Option FeedCount)) (so : ends ≡ fed n intakes) (l : Intake) (o : Option FeedCount) (lt : n < length intakes) (is : l ≡ slice_index_or intakes n l) (at : o ≡ slice_index_or ends n o) where
  its_intake : slice_get intakes n ≡ Some l
  its_intake = got_at intakes n l lt is

  its_place : slice_get ends n ≡ Some o
  its_place = let c = fed_count n intakes in let e = ap length so in got_at ends n o (omega (arith, lt, c, e)) at

  pub at_next : end_before l ≡ o
  at_next = let i : Some (end_before l) ≡ Some o = sym (next_end n intakes l its_intake) ∙ (ap (λ (os : List (Option FeedCount)). slice_get os n) (sym so) ∙ its_place) in cc i

  pub fed_next : (new : List (Option FeedCount)) (e : FeedCount) → end_after l ≡ Some e → new ≡ slice_set ends n (Some e) → new ≡ fed (n + 1) intakes
  fed_next new e full is' =
      let z : suc n ≡ n + 1 = omega arith in
      is' ∙ ((λ i. slice_set (so i) n (sym full i)) ∙ (one_fed n intakes l its_intake ∙ ap (λ (k : ℕ). fed k intakes) z))

-- where there is no end the intake has no ring
pub fed_none : (n : ℕ) (intakes : List Intake) (ends new : List (Option FeedCount)) (o : Option FeedCount) → ends ≡ fed n intakes → n < length intakes → o ≡ slice_index_or ends n o → o ≡ None → new ≡ slice_set ends n o → new ≡ fed (n + 1) intakes
fed_none n intakes ends new o so lt at none is =
    let got = some_intake intakes n lt in
    let c = fed_count n intakes in
    let e = ap length so in
    let place : slice_get ends n ≡ Some o = got_at ends n o (omega (arith, lt, c, e)) at in
    let i : Some (end_before got.0) ≡ Some o = sym (next_end n intakes got.0 got.1) ∙ (ap (λ (os : List (Option FeedCount)). slice_get os n) (sym so) ∙ place) in
    let b : end_before got.0 ≡ o = cc i in
    let z : suc n ≡ n + 1 = omega arith in
    let a : end_after got.0 ≡ o = by got.0.ring (b ∙ none) ∙ sym none in
    is ∙ ((λ i. slice_set (so i) n (sym a i)) ∙ (one_fed n intakes got.0 got.1 ∙ ap (λ (k : ℕ). fed k intakes) z))
  where
    some_intake : (ls : List Intake) (k : ℕ) → k < length ls → (l : Intake) × (slice_get ls k ≡ Some l)
    some_intake [] k lt = absurd (omega (arith, lt))
    some_intake (l ∷ ls) zero lt = (l, refl)
    some_intake (l ∷ ls) (suc k) lt = some_intake ls k (omega (arith, lt))

    by : (r : Option RingSize) → option_map feed_end r ≡ None → option_map full_end r ≡ None
    by None h = refl
    by (Some g) h = cc h

pub within : (intakes : List Intake) (ends : List (Option FeedCount)) (k : ℕ) → ends ≡ map end_before intakes → k < length ends → k < length intakes
within intakes ends k is lt = let e = ap length is in let m = length-map intakes end_before in omega (arith, e, m, lt)
