-- What jobs are lent.
use Rattle.std.proofs.Common.{◌≡◌, ◌≢◌, ℕ, zero, suc, ◌+◌, ◌<◌, ◌≤◌, ◌==◌, if◌then◌else◌, Bool, true, false, Option, Some, List, [], ◌∷◌, ◌++◌, length, map, All, slice_get, slice_index_or, slice_set, refl, ap, sym, ◌∙◌, subst, arith}
use Rattle.std.proofs.lemmas.Bool.Decides.{nat_tests}
use Rattle.std.proofs.lemmas.Bool.{cases_eq}
use Rattle.std.proofs.lemmas.List.{length-map, get_or-map, get_or-set_same, get_or-set_other, map-set}
use Rattle.std.proofs.Math.Seq.{map-set_same}
use Rattle.std.proofs.Common.{inl, inr}
use Rattle.turn_gate.specs.declared.pass.Pass.{Pass}
use Rattle.perimeter_core.specs.History.{Element}
use Rattle.squeue_serve.specs.declared.jobs.Job.{Job}
use Rattle.squeue_serve.specs.Lending.{lent_to, tasks_in, holder, AreHanded}
use Rattle.histories.proofs.ListPlaces.{get_front}

module _ {T : Type 0} where
  pub lent_same : (jobs : List (Job T)) (i : ℕ) (j : Job T) → i < length jobs → lent_to (slice_set jobs i j) i ≡ j.places.items
  lent_same jobs i j lt =
      ap (λ l. slice_index_or l i []) (map-set (λ (j : Job T). j.places.items) jobs i j)
      ∙ get_or-set_same (map (λ (j : Job T). j.places.items) jobs) i j.places.items [] (omega (arith, length-map jobs (λ (j : Job T). j.places.items), lt))

  pub lent_other : (jobs : List (Job T)) (i k : ℕ) (j : Job T) → k ≢ i → lent_to (slice_set jobs i j) k ≡ lent_to jobs k
  lent_other jobs i k j apart =
      ap (λ l. slice_index_or l k []) (map-set (λ (j : Job T). j.places.items) jobs i j)
      ∙ get_or-set_other (map (λ (j : Job T). j.places.items) jobs) i k j.places.items [] apart

  pub lent_at : (jobs : List (Job T)) (i : ℕ) (o : Job T) → i < length jobs → o ≡ slice_index_or jobs i o → lent_to jobs i ≡ o.places.items
  lent_at jobs i o lt is = get_or-map (λ (j : Job T). j.places.items) jobs i o [] lt ∙ ap (λ (j : Job T). j.places.items) (sym is)

  pub tasks_kept : (jobs : List (Job T)) (i : ℕ) (o j : Job T) → o ≡ slice_index_or jobs i o → j.task ≡ o.task → tasks_in (slice_set jobs i j) ≡ tasks_in jobs
  tasks_kept jobs i o j is same = map-set_same (λ (j : Job T). j.task) jobs i j o (same ∙ ap (λ (j : Job T). j.task) is)

  -- the same by the job that stands there
  pub lent_got : (jobs : List (Job T)) (i : ℕ) (j : Job T) → slice_get jobs i ≡ Some j → lent_to jobs i ≡ j.places.items
  lent_got [] i j is = cc is
  lent_got (o ∷ jobs) zero j is = let same : o ≡ j = cc is in ap (λ (k : Job T). k.places.items) same
  lent_got (o ∷ jobs) (suc i) j is = lent_got jobs i j is

  pub lent_none : (jobs : List (Job T)) → All (λ j. j.places.items ≡ []) jobs → (i : ℕ) → lent_to jobs i ≡ []
  lent_none [] all i = refl
  lent_none (j ∷ jobs) all zero = all 0 j (omega arith)
  lent_none (j ∷ jobs) all (suc i) = lent_none jobs (λ k d lt. all (suc k) d (omega (arith, lt))) i

  pub none_lent_to : (jobs : List (Job T)) → ((i : ℕ) → lent_to jobs i ≡ []) → All (λ j. j.places.items ≡ []) jobs
  none_lent_to [] none k d lt = absurd (omega (arith, lt))
  none_lent_to (j ∷ jobs) none zero d lt = none 0
  none_lent_to (j ∷ jobs) none (suc k) d lt = none_lent_to jobs (λ i. none (suc i)) k d (omega (arith, lt))

  pub past_jobs : (jobs : List (Job T)) (i : ℕ) → length jobs ≤ i → lent_to jobs i ≡ []
  past_jobs [] i le = refl
  past_jobs (j ∷ jobs) zero le = absurd (omega (arith, le))
  past_jobs (j ∷ jobs) (suc i) le = past_jobs jobs i (omega (arith, le))

-- different passes of a squeue go to different jobs
pub holders_apart : (front count q p r : ℕ) → p ≤ count → r ≤ count → p ≢ r → holder front count q p ≢ holder front count q r
holders_apart front count q p r a b apart = by (p == count) (r == count) refl refl
  where
    by : (x y : Bool) → (p == count) ≡ x → (r == count) ≡ y → (if x then front + count + q else front + p) ≢ (if y then front + count + q else front + r)
    by true true u v e = let i : p ≡ count = grind (arith, nat_tests) in let j : r ≡ count = grind (arith, nat_tests) in apart (omega (arith, i, j))
    by true false u v e = let j : r ≢ count = grind (arith, nat_tests) in let k : r ≡ count = omega (arith, e, b) in j k
    by false true u v e = let j : p ≢ count = grind (arith, nat_tests) in let k : p ≡ count = omega (arith, e, a) in j k
    by false false u v e = apart (omega (arith, e))

pub get_end : {X : Type 0} (xs ys : List X) (x : X) (k : ℕ) → k ≡ length xs → slice_get (xs ++ x ∷ ys) k ≡ Some x
get_end [] ys x zero e = refl
get_end [] ys x (suc k) e = absurd (omega (arith, e))
get_end (y ∷ xs) ys x zero e = absurd (omega (arith, e))
get_end (y ∷ xs) ys x (suc k) e = get_end xs ys x k (omega (arith, e))

-- those passes whose numbers are in D were handed over
pub record HandedOver {X : Type 0} (D : ℕ → Type 0) (h : ℕ → ℕ) (xs : List X) (without having : ℕ → List (Option X)) : Type 0 where
  pub each : (p : ℕ) → D p → (x : X) × (slice_get xs p ≡ Some x) × (having (h p) ≡ without (h p) ++ Some x ∷ [])
  pub rest : (i : ℕ) → ((p : ℕ) → D p → i ≢ h p) → having i ≡ without i

-- the numbers from n on, up to a last one
abbrev pub From : ℕ → ℕ → ℕ → Type 0
From count n p = (n ≤ p) × (p ≤ count)

-- the numbers below n, up to a last one
abbrev pub Below : ℕ → ℕ → ℕ → Type 0
Below count n p = (p < n) × (p ≤ count)

module _ {X : Type 0} (front count q : ℕ) where
  pub none_lent : (n : ℕ) (xs : List X) (lent : ℕ → List (Option X)) → n ≡ count + 1 → HandedOver (From count n) (holder front count q) xs lent lent
  none_lent n xs lent e = record { each = λ p d. absurd (omega (arith, e, d.0, d.1)); rest = λ i d. refl }

  pub still_lent : (n k : ℕ) (xs : List X) (without having : ℕ → List (Option X)) → n ≤ count → k ≡ n + 1 → HandedOver (From count k) (holder front count q) xs without having → having (holder front count q n) ≡ without (holder front count q n)
  still_lent n k xs without having le is h = h.rest (holder front count q n) (λ p d. holders_apart front count q n p le d.1 (λ e. absurd (omega (arith, e, d.0, is))))

  pub one_lent : (n k : ℕ) (xs : List X) (x : X) (without having next : ℕ → List (Option X)) → n ≤ count → k ≡ n + 1 → slice_get xs n ≡ Some x → HandedOver (From count k) (holder front count q) xs without having
      → next (holder front count q n) ≡ having (holder front count q n) ++ Some x ∷ [] → ((i : ℕ) → i ≢ holder front count q n → next i ≡ having i) → HandedOver (From count n) (holder front count q) xs without next
  one_lent n k xs x without having next le is at h new others =
      record {
        each = λ p d. elim (cases_eq p n) [
          | inl e ↦ subst (λ (p : ℕ). (x : X) × (slice_get xs p ≡ Some x) × (next (holder front count q p) ≡ without (holder front count q p) ++ Some x ∷ [])) (sym e)
              (x, at, new ∙ ap (λ l. l ++ Some x ∷ []) (still_lent n k xs without having le is h))
          | inr a ↦ let r = h.each p (omega (arith, is, d.0, a), d.1) in (r.0, r.1, others (holder front count q p) (holders_apart front count q p n d.1 le a) ∙ r.2)
        ];
        rest = λ i none. others i (none n (omega arith, le)) ∙ h.rest i (λ p d. none p (omega (arith, is, d.0), d.1));
      }

  pub none_taken : (n : ℕ) (xs : List X) (lent : ℕ → List (Option X)) → n ≡ 0 → HandedOver (Below count n) (holder front count q) xs lent lent
  none_taken n xs lent e = record { each = λ p d. absurd (omega (arith, e, d.0)); rest = λ i d. refl }

  pub not_taken : (n : ℕ) (xs : List X) (without having : ℕ → List (Option X)) → n ≤ count → HandedOver (Below count n) (holder front count q) xs without having → having (holder front count q n) ≡ without (holder front count q n)
  not_taken n xs without having le h = h.rest (holder front count q n) (λ p d. holders_apart front count q n p le d.1 (λ e. absurd (omega (arith, e, d.0))))

  pub one_taken : (n : ℕ) (xs : List X) (x : X) (without having next : ℕ → List (Option X)) → n ≤ count → n ≡ length xs → HandedOver (Below count n) (holder front count q) xs without having
      → without (holder front count q n) ≡ next (holder front count q n) ++ Some x ∷ [] → ((i : ℕ) → i ≢ holder front count q n → next i ≡ without i) → HandedOver (Below count (n + 1)) (holder front count q) (xs ++ x ∷ []) next having
  one_taken n xs x without having next le is h new others =
      record {
        each = λ p d. elim (cases_eq p n) [
          | inl e ↦ subst (λ (p : ℕ). (y : X) × (slice_get (xs ++ x ∷ []) p ≡ Some y) × (having (holder front count q p) ≡ next (holder front count q p) ++ Some y ∷ [])) (sym e)
              (x, get_end xs [] x n is, not_taken n xs without having le h ∙ new)
          | inr a ↦ let r = h.each p (omega (arith, d.0, a), d.1) in
              (r.0, get_front xs (x ∷ []) p r.0 r.1, r.2 ∙ ap (λ l. l ++ Some r.0 ∷ []) (sym (others (holder front count q p) (holders_apart front count q p n d.1 le a))))
        ];
        rest = λ i none. h.rest i (λ p d. none p (omega (arith, d.0), d.1)) ∙ sym (others i (none n (omega arith, le)));
      }

module _ (front count q : ℕ) (xs : List (Pass Element)) (without having : ℕ → List (Option (Pass Element))) where
  pub all_lent : (n : ℕ) → n ≡ 0 → length xs ≡ count + 1 → HandedOver (From count n) (holder front count q) xs without having → AreHanded front count q xs without having
  all_lent n e all h = record { all = all; each = λ p le. h.each p (omega (arith, e), le); rest = λ i none. h.rest i (λ p d. none p d.1) }

  pub all_taken : (n : ℕ) → n ≡ count + 1 → length xs ≡ count + 1 → HandedOver (Below count n) (holder front count q) xs without having → AreHanded front count q xs without having
  all_taken n e all h = record { all = all; each = λ p le. h.each p (omega (arith, e, le), le); rest = λ i none. h.rest i (λ p d. none p d.1) }

module _ (front count q : ℕ) (xs : List (Pass Element)) (without having : ℕ → List (Option (Pass Element))) where
  -- a job that isn't lent its pass yet has as many as at first
  pub has_room : (n k i : ℕ) → n ≤ count → k ≡ n + 1 → i ≡ holder front count q n → HandedOver (From count k) (holder front count q) xs without having
      → ((p : ℕ) → p ≤ count → length (without (holder front count q p)) ≤ q) → length (having i) < q + 1
  has_room n k i le is at h fit =
      let e : length (having i) ≡ length (without (holder front count q n)) = ap (λ j. length (having j)) at ∙ ap length (still_lent front count q n k xs without having le is h) in
      let f = fit n le in
      omega (arith, e, f)
