-- The counts, one record further.
use Rattle.std.proofs.Common.{◌≡◌, ℕ, ◌+◌, Bool, true, false, List, [], ◌∷◌, ◌++◌, length, refl, ◌∙◌, arith, if◌then◌else◌}
use Rattle.conn_classifier.specs.Classes.{same_class, tally, counts_of}
use Rattle.conn_classifier.specs.Sorting.{counted, total}
use Rattle.conn_classifier.specs.declared.kinds.Class.{Class}
use Rattle.conn_classifier.specs.declared.kinds.Class.TheVariants as class
use Rattle.conn_classifier.specs.declared.kinds.Counts.{Counts}

more : Bool → ℕ → ℕ
more true n = n + 1
more false n = n

tally_push : (c : Class) (xs : List Class) (x : Class) → tally c (xs ++ x ∷ []) ≡ more (same_class c x) (tally c xs)
unfolding more
tally_push c [] x = by (same_class c x)
  where
    by : (b : Bool) → (if b then 1 else 0) + 0 ≡ more b 0
    by true = refl
    by false = refl
tally_push c (y ∷ ys) x = by (same_class c x) (if same_class c y then 1 else 0) (tally_push c ys x)
  where
    by : (b : Bool) (m : ℕ) → tally c (ys ++ x ∷ []) ≡ more b (tally c ys) → m + tally c (ys ++ x ∷ []) ≡ more b (m + tally c ys)
    by true m h = omega (arith, h)
    by false m h = omega (arith, h)

module _ (records : ℕ) (cut : Bool) where
  counts_by : (Class → ℕ) → Counts
  counts_by f = record {
    records = records;
    tail = if cut then 1 else 0;
    served = f class.Served;
    nofit = f class.NoFit;
    server = f class.Server;
    other = f class.Other;
    fragment = f class.Fragment;
    cut = f class.Cut;
    malformed = f class.Malformed;
    badsum = f class.BadSum;
  }

  pub counts_push : (cs : List Class) (x : Class) → counts_of records cut (cs ++ x ∷ []) ≡ counted x (counts_of records cut cs)
  unfolding counts_by more
  counts_push cs x = (λ k. counts_by (λ c. tally_push c cs x k)) ∙ by x
    where
      by : (x : Class) → counts_by (λ c. more (same_class c x) (tally c cs)) ≡ counted x (counts_of records cut cs)
      by class.Served = refl
      by class.NoFit = refl
      by class.Server = refl
      by class.Other = refl
      by class.Fragment = refl
      by class.Cut = refl
      by class.Malformed = refl
      by class.BadSum = refl

  -- each record counts once
  pub total-counts : (cs : List Class) → total (counts_of records cut cs) ≡ length cs
  total-counts [] = refl
  total-counts (x ∷ cs) = by x (total-counts cs)
    where
      by : (x : Class) → total (counts_of records cut cs) ≡ length cs → total (counts_of records cut (x ∷ cs)) ≡ length (x ∷ cs)
      by class.Served h = omega (arith, h)
      by class.NoFit h = omega (arith, h)
      by class.Server h = omega (arith, h)
      by class.Other h = omega (arith, h)
      by class.Fragment h = omega (arith, h)
      by class.Cut h = omega (arith, h)
      by class.Malformed h = omega (arith, h)
      by class.BadSum h = omega (arith, h)
