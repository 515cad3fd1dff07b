-- Acts in which each call stands as often as it is on the connection.
use Rattle.std.proofs.Common.{◌≡◌, ℕ, zero, suc, ◌+◌, ◌<◌, ◌==◌, ◌&&◌, Bool, true, false, if◌then◌else◌, List, [], ◌∷◌, length, refl, ap, sym, ◌∙◌, arith, eq-eqb}
use Rattle.std.specs.Prelude.{slice_get}
use Rattle.std.specs.Option.{option_map_or}
use Rattle.std.specs.List.{range_with_len}
use Rattle.std.proofs.lemmas.Bool.{ne_eqb}
use Rattle.perimeter_core.specs.declared.entries.Act.{Act}
use Rattle.perimeter_core.specs.declared.entries.Act.TheVariants as Did
use Rattle.perimeter_core.specs.Deeds.{feed_numbers}
use Rattle.tcb_machine.specs.declared.kinds.Call.{Call}
use Rattle.conn_classifier.specs.Plan.{PlanOf, items_in}
use Rattle.conn_blocks.specs.CallLists.{CallLists, calls_of, call_at}
use Rattle.conn_blocks.specs.Orders.{numbers_from, numbers_on, call_numbers, IsAll}
use Rattle.squeue_pool.specs.Counting.{times_called}
use Rattle.histories.proofs.SameCounts.{once_if, count, permuted}

-- the calls of a thread, by their numbers
counted : (j k : ℕ) (acts : List Act) → count k (call_numbers j acts) ≡ times_called j k acts
counted j k [] = refl
counted j k (Did.Feed n ∷ acts) = let rest = counted j k acts in omega (arith, rest)
counted j k (Did.Call i m ∷ acts) = by (i == j) (counted j k acts)
  where
    by : (b : Bool) → count k (call_numbers j acts) ≡ times_called j k acts
        → count k (if b then m ∷ call_numbers j acts else call_numbers j acts) ≡ once_if (b && (m == k)) + times_called j k acts
    by true h = ap (λ (n : ℕ). once_if (m == k) + n) h
    by false h = omega (arith, h)

-- no number below the first is among the numbers of calls
none_before : (c m n : ℕ) (xs : List (ℕ × Call)) → m < n → count m (numbers_from n c xs) ≡ 0
none_before c m n [] lt = refl
none_before c m n (x ∷ xs) lt =
    by (x.0 == c) (none_before c m (suc n) xs (omega (arith, lt)))
    (ap once_if (ne_eqb n m (λ e. (let no : ⊥ = omega (arith, lt, e) in no))))
  where
    by : (b : Bool) → count m (numbers_from (suc n) c xs) ≡ 0 → once_if (n == m) ≡ 0
        → count m (if b then n ∷ numbers_from (suc n) c xs else numbers_from (suc n) c xs) ≡ 0
    by true h e = omega (arith, h, e)
    by false h e = h

abbrev on : ℕ → ℕ × Call → ℕ
on c x = once_if (x.0 == c)

-- a call's number is there once, where the call is on the connection
numbered_once : (c n k : ℕ) (xs : List (ℕ × Call)) → count (n + k) (numbers_from n c xs) ≡ option_map_or (on c) (slice_get xs k) 0
numbered_once c n k [] = refl
numbered_once c n zero (x ∷ xs) =
    by (x.0 == c) (none_before c (n + 0) (suc n) xs (omega arith)) (ap once_if (eq-eqb n (n + 0) (omega arith)))
  where
    by : (b : Bool) → count (n + 0) (numbers_from (suc n) c xs) ≡ 0 → once_if (n == (n + 0)) ≡ 1
        → count (n + 0) (if b then n ∷ numbers_from (suc n) c xs else numbers_from (suc n) c xs) ≡ once_if b
    by true h e = omega (arith, h, e)
    by false h e = h
numbered_once c n (suc k) (x ∷ xs) =
    by (x.0 == c) (let e : n + suc k ≡ suc n + k = omega arith in ap (λ (m : ℕ). count m (numbers_from (suc n) c xs)) e ∙ numbered_once c (suc n) k xs)
    (ap once_if (ne_eqb n (n + suc k) (λ e. (let no : ⊥ = omega (arith, e) in no))))
  where
    by : (b : Bool) → count (n + suc k) (numbers_from (suc n) c xs) ≡ option_map_or (on c) (slice_get xs k) 0 → once_if (n == (n + suc k)) ≡ 0
        → count (n + suc k) (if b then n ∷ numbers_from (suc n) c xs else numbers_from (suc n) c xs) ≡ option_map_or (on c) (slice_get xs k) 0
    by true h e = omega (arith, h, e)
    by false h e = h

pub are_all : (p : PlanOf) (calls : CallLists) (c : ℕ) (done : List Act) → feed_numbers done ≡ range_with_len 0 (length (items_in p c))
    → ((j k : ℕ) → times_called j k done ≡ option_map_or (λ x. if x.0 == c then 1 else 0) (call_at calls j k) 0) → IsAll p calls c done
are_all p calls c done feeds once = record {
  feeds = feeds;
  asked = λ j.
      permuted (call_numbers j done) (numbers_on calls c j)
      (λ k.
      let place : 0 + k ≡ k = omega arith in
      counted j k done ∙ (once j k ∙ sym (ap (λ (m : ℕ). count m (numbers_on calls c j)) (sym place) ∙ numbered_once c 0 k (calls_of calls j))));
}
