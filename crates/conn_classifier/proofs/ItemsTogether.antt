-- All items of all connections are few: two a segment, and one more a connection.
use Rattle.std.proofs.Common.{◌≡◌, ℕ, ◌+◌, ◌*◌, ◌<◌, ◌≤◌, ◌==◌, nat_le, Bool, true, false, List, [], ◌∷◌, suc, length, filter, sum_by, get_or, refl, ap, ◌∙◌, arith}
use Rattle.std.specs.List.{AllByRecursion}
use Rattle.std.proofs.lemmas.Bool.Decides.{nat_tests}
use Rattle.std.proofs.lemmas.List.{length-map}
use Rattle.std.proofs.lemmas.List.Sums.{sum_by-cons}
use Rattle.capture_reader.specs.Limits.{most_records}
use Rattle.capture_reader.specs.Outcome.{CaptureFile}
use Rattle.conn_classifier.specs.declared.kinds.Item.{Item}
use Rattle.conn_classifier.specs.declared.kinds.Item.TheVariants.{Time, Segment}
use Rattle.conn_classifier.specs.Limits.{most_conns}
use Rattle.conn_classifier.specs.Plan.{PlanOf, IsPlan, IsItems, IsSpaced, records_of, items_together}
use Rattle.conn_classifier.proofs.PlanLaw.{length-filter_le}

-- a time item stands before a segment, but for the last
spaced_few : (xs : List Item) → IsSpaced xs → length xs ≤ 2 * length (records_of xs) + 1
spaced_few [] h = omega arith
spaced_few (Segment at rec iss seg ∷ xs) h = omega (arith, spaced_few xs h)
spaced_few (Time at ∷ []) h = omega arith
spaced_few (Time at ∷ (Time then ∷ xs)) h = absurd h
spaced_few (Time at ∷ (Segment then rec iss seg ∷ xs)) h = omega (arith, spaced_few xs h)

-- the places of connection k, and those of the connections from it on
abbrev of_one : ℕ → List (ℕ × ℕ) → List (ℕ × ℕ)
of_one k places = filter (λ q. q.0 == k) places

abbrev from_one : ℕ → List (ℕ × ℕ) → List (ℕ × ℕ)
from_one k places = filter (λ q. nat_le k q.0) places

split_at : (k : ℕ) (places : List (ℕ × ℕ)) → length (from_one k places) ≡ length (of_one k places) + length (from_one (suc k) places)
split_at k [] = refl
split_at k (q ∷ places) = by (nat_le k q.0) (q.0 == k) (nat_le (suc k) q.0) refl refl refl (split_at k places)
  where
    by : (a b c : Bool) → nat_le k q.0 ≡ a → (q.0 == k) ≡ b → nat_le (suc k) q.0 ≡ c
        → length (from_one k places) ≡ length (of_one k places) + length (from_one (suc k) places)
        → length (from_one k (q ∷ places)) ≡ length (of_one k (q ∷ places)) + length (from_one (suc k) (q ∷ places))
    by true true false e f g rest = rw (e, f, g) (omega (arith, rest))
    by true false true e f g rest = rw (e, f, g) (omega (arith, rest))
    by false false false e f g rest = rw (e, f, g) rest
    by true true true e f g rest = absurd (grind (arith, nat_tests, e, f, g))
    by true false false e f g rest = absurd (grind (arith, nat_tests, e, f, g))
    by false true c e f g rest = absurd (grind (arith, nat_tests, e, f, g))
    by false false true e f g rest = absurd (grind (arith, nat_tests, e, f, g))

-- the items of connections numbered from k on, where each one's records are those of its places
few_from : (file : CaptureFile) (places : List (ℕ × ℕ)) (k : ℕ) (xss : List (List Item)) → AllByRecursion (IsItems file) xss
    → ((c : ℕ) → c < length xss → length (records_of (get_or xss c [])) ≡ length (of_one (k + c) places))
    → sum_by (λ (xs : List Item). length xs) xss ≤ 2 * length (from_one k places) + length xss
few_from file places k [] all each = omega arith
few_from file places k (xs ∷ xss) all each =
    let rest = few_from file places (suc k) xss all.1 (λ c lt. each (suc c) (omega (arith, lt)) ∙ ap (λ n. length (of_one n places)) (omega arith)) in
    let here : length (records_of xs) ≡ length (of_one k places) = each 0 (omega arith) ∙ ap (λ n. length (of_one n places)) (omega arith) in
    omega (arith, rest, here, spaced_few xs all.0.spaced, split_at k places, sum_by-cons (λ (ys : List Item). length ys) xs xss)

pub few_together : (p : PlanOf) → IsPlan p → items_together p ≤ 2 * most_records + most_conns
few_together p is =
    let places = is.ordered.places in
    let each : (c : ℕ) → c < length p.items → length (records_of (get_or p.items c [])) ≡ length (of_one (0 + c) places)
    = λ c lt. ap length (is.ordered.each c (omega (arith, lt, is.listed))) ∙ (length-map (of_one c places) (λ q. q.1) ∙ ap (λ n. length (of_one n places)) (omega arith)) in
    omega (arith, few_from p.file places 0 p.items is.each each, length-filter_le (λ (q : ℕ × ℕ). nat_le 0 q.0) places, is.ordered.few, is.few, is.listed)
