-- What the amounts of a key come to.
use Rattle.std.proofs.Common.{◌≡◌, ℕ, ◌+◌, ◌%◌, ◌^◌, ◌<◌, List, [], ◌∷◌, sum, ap, ◌∙◌, arith}
use Rattle.std.proofs.Math.Nat.{mod-add-mod}
use Rattle.std.proofs.lemmas.List.Sums.{sum_by-cons}
use Rattle.squeue_streams.specs.Taking.{Takes}
use Rattle.squeue_arrivals.specs.Arriving.{IsServed, items_for}
use Rattle.squeue_arrivals.specs.declared.served.ServedSource.{ServedSource}
use Rattle.ring_groups.specs.Groups.{AllBecame}
use Rattle.arriving_counters.specs.Counting.{HasCounted}

abbrev Adds : ℕ → ℕ → ℕ → Type 0
Adds total amount next = next ≡ (total + amount) % 2 ^ 64

-- amounts that are added one after another, modulo 2^64
added : (from to : ℕ) (amounts : List ℕ) → from < 2 ^ 64 → Takes Adds from amounts to → to ≡ (from + sum amounts) % 2 ^ 64
added from to [] small took = omega (arith, took, small)
added from to (x ∷ xs) small took =
    let less : took.0 < 2 ^ 64 = omega (arith, took.1) in
    let all : from + x + sum xs ≡ from + sum (x ∷ xs) = omega (arith, sum_by-cons (λ (y : ℕ). y) x xs) in
    added took.0 to xs less took.2 ∙ (ap (λ (n : ℕ). (n + sum xs) % 2 ^ 64) took.1 ∙ (mod-add-mod (from + x) (2 ^ 64) (sum xs) ∙ ap (λ (n : ℕ). n % 2 ^ 64) all))

module _ {W A O : Type 0} (origin : A → O) (given : A → List (ℕ × ℕ)) (is_over : A → Type 0) (work : W) (most : ℕ) where
  abbrev pub WasServed : A → ServedSource A ℕ ℕ → Type 0
  WasServed source left = IsServed (λ (w : W) (total : ℕ). total ≡ 0) (λ (w : W). Adds) origin given is_over work most source left

  counted : (source : A) (left : ServedSource A ℕ ℕ) → WasServed source left → HasCounted origin given is_over most source left
  counted source left served =
      record {
        all = served.all;
        its_items = served.its_items;
        few = served.few;
        distinct = served.distinct;
        each = λ i part at.
            let each = served.each i part at in
            let made = each.1 in
            let none : made.first ≡ 0 = made.begun in
            let is = added made.first part.state (items_for part.key served.all) (omega (arith, none)) made.taken in
            (each.0, omega (arith, is, none));
        every = served.every;
      }

  pub all_counted : (sources : List A) (lefts : List (ServedSource A ℕ ℕ)) → AllBecame WasServed sources lefts → AllBecame (HasCounted origin given is_over most) sources lefts
  all_counted [] [] x = tt
  all_counted [] (l ∷ ls) x = absurd x
  all_counted (s ∷ ss) [] x = absurd x
  all_counted (s ∷ ss) (l ∷ ls) x = (counted s l x.0, all_counted ss ls x.1)
