-- How many acts an order has, and the room that they need.
use Rattle.std.proofs.Common.{◌≡◌, ℕ, ◌+◌, ◌*◌, ◌==◌, ◌<◌, ◌≤◌, suc, Bool, true, false, List, [], ◌∷◌, ◌++◌, length, refl, ap, subst, ◌⊎◌, inl, inr, arith, eq-eqb}
use Rattle.std.specs.Prelude.{if◌then◌else◌}
use Rattle.std.proofs.lemmas.Bool.{ne_eqb, cases_eq}
use Rattle.std.proofs.lemmas.List.{length-append, length_push, get_or_past}
use Rattle.perimeter_core.specs.declared.entries.Act.{Act}
use Rattle.perimeter_core.specs.declared.entries.Act.TheVariants as act
use Rattle.conn_classifier.specs.Limits.{most_items}
use Rattle.conn_classifier.specs.Plan.{PlanOf}
use Rattle.conn_blocks.specs.CallLists.{CallLists}
use Rattle.conn_blocks.specs.Limits.{most_calls}
use Rattle.conn_blocks.specs.ServeOrder.{BlockOf}
use Rattle.perimeter_core.specs.Deeds.{feed_numbers}
use Rattle.conn_blocks.specs.Orders.{numbers_from, numbers_on, call_numbers}
use Rattle.conn_blocks.specs.Holding.{fed, Begins, IsSettled, ComesNext}

-- one of the four threads, or none
one_of_four : (j : ℕ) → (j ≡ 0) ⊎ ((j ≡ 1) ⊎ ((j ≡ 2) ⊎ ((j ≡ 3) ⊎ (4 ≤ j))))
one_of_four j = by (cases_eq j 0) (cases_eq j 1) (cases_eq j 2) (cases_eq j 3)
  where
    by : (j ≡ 0) ⊎ (j ≡ 0 → ⊥) → (j ≡ 1) ⊎ (j ≡ 1 → ⊥) → (j ≡ 2) ⊎ (j ≡ 2 → ⊥) → (j ≡ 3) ⊎ (j ≡ 3 → ⊥) → (j ≡ 0) ⊎ ((j ≡ 1) ⊎ ((j ≡ 2) ⊎ ((j ≡ 3) ⊎ (4 ≤ j))))
    by (inl e) a b d = inl e
    by (inr z) (inl e) b d = inr (inl e)
    by (inr z) (inr a) (inl e) d = inr (inr (inl e))
    by (inr z) (inr a) (inr b) (inl e) = inr (inr (inr (inl e)))
    by (inr z) (inr a) (inr b) (inr d) = inr (inr (inr (inr (omega (arith, z, a, b, d)))))

module _ (i k : ℕ) (xs : List Act) (j : ℕ) where
  longer : i ≡ j → length (call_numbers j (act.Call i k ∷ xs)) ≡ suc (length (call_numbers j xs))
  longer e = ap (λ b. length (if b then k ∷ call_numbers j xs else call_numbers j xs)) (eq-eqb i j e)

  as_long : (i ≡ j → ⊥) → length (call_numbers j (act.Call i k ∷ xs)) ≡ length (call_numbers j xs)
  as_long e = ap (λ b. length (if b then k ∷ call_numbers j xs else call_numbers j xs)) (ne_eqb i j e)

-- how many calls an order has
abbrev pub calls_in : List Act → ℕ
calls_in xs = length (call_numbers 0 xs) + length (call_numbers 1 xs) + length (call_numbers 2 xs) + length (call_numbers 3 xs)

-- the calls of an order, without one in front
pub fewer : (i k j : ℕ) (xs : List Act) → call_numbers j (act.Call i k ∷ xs) ≡ [] → call_numbers j xs ≡ []
fewer i k j xs = by (i == j)
  where
    by : (b : Bool) → (if b then k ∷ call_numbers j xs else call_numbers j xs) ≡ [] → call_numbers j xs ≡ []
    by true e = cc
    by false e = e

one_call : (i k : ℕ) (xs : List Act) → (4 ≤ i → call_numbers i (act.Call i k ∷ xs) ≡ []) → calls_in (act.Call i k ∷ xs) ≡ suc (calls_in xs)
one_call i k xs none = by (one_of_four i)
  where
    by : (i ≡ 0) ⊎ ((i ≡ 1) ⊎ ((i ≡ 2) ⊎ ((i ≡ 3) ⊎ (4 ≤ i)))) → calls_in (act.Call i k ∷ xs) ≡ suc (calls_in xs)
    by (inl e) = omega (
      arith,
      longer i k xs 0 e,
      as_long i k xs 1 (λ f. (let no : ⊥ = omega (arith, e, f) in no)),
      as_long i k xs 2 (λ f. (let no : ⊥ = omega (arith, e, f) in no)),
      as_long i k xs 3 (λ f. (let no : ⊥ = omega (arith, e, f) in no)),
    )
    by (inr (inl e)) = omega (
      arith,
      as_long i k xs 0 (λ f. (let no : ⊥ = omega (arith, e, f) in no)),
      longer i k xs 1 e,
      as_long i k xs 2 (λ f. (let no : ⊥ = omega (arith, e, f) in no)),
      as_long i k xs 3 (λ f. (let no : ⊥ = omega (arith, e, f) in no)),
    )
    by (inr (inr (inl e))) = omega (
      arith,
      as_long i k xs 0 (λ f. (let no : ⊥ = omega (arith, e, f) in no)),
      as_long i k xs 1 (λ f. (let no : ⊥ = omega (arith, e, f) in no)),
      longer i k xs 2 e,
      as_long i k xs 3 (λ f. (let no : ⊥ = omega (arith, e, f) in no)),
    )
    by (inr (inr (inr (inl e)))) = omega (
      arith,
      as_long i k xs 0 (λ f. (let no : ⊥ = omega (arith, e, f) in no)),
      as_long i k xs 1 (λ f. (let no : ⊥ = omega (arith, e, f) in no)),
      as_long i k xs 2 (λ f. (let no : ⊥ = omega (arith, e, f) in no)),
      longer i k xs 3 e,
    )
    by (inr (inr (inr (inr le)))) = absurd (let no : ⊥ = omega (arith, longer i k xs i refl, ap length (none le)) in no)

pub all_acts : (xs : List Act) → ((j : ℕ) → 4 ≤ j → call_numbers j xs ≡ []) → length xs ≡ length (feed_numbers xs) + calls_in xs
all_acts [] none = refl
all_acts (act.Feed n ∷ xs) none = omega (arith, all_acts xs none)
all_acts (act.Call i k ∷ xs) none = omega (arith, one_call i k xs (none i), all_acts xs (λ j le. fewer i k j xs (none j le)))

pub begins_short : (front whole : List ℕ) → Begins front whole → length front ≤ length whole
begins_short front whole b = omega (arith, ap length b.joined, length-append front b.rest)

pub begins_none : (front : List ℕ) → Begins front [] → front ≡ []
begins_none [] b = refl
begins_none (x ∷ front) b = let e : [] ≡ x ∷ (front ++ b.rest) = b.joined in absurd cc

pub no_thread : (calls : CallLists) (c j : ℕ) → length calls ≡ 4 → 4 ≤ j → numbers_on calls c j ≡ []
no_thread calls c j e le = ap (numbers_from 0 c) (get_or_past calls j [] (omega (arith, le, e)))

module _ (p : PlanOf) (calls : CallLists) (c : ℕ) (b : BlockOf) (is : IsSettled p calls c b) where
  pub acts_counted : length b.order ≡ fed b + calls_in b.order
  acts_counted = all_acts b.order (λ j le. begins_none (call_numbers j b.order) (subst (Begins (call_numbers j b.order)) (no_thread calls c j is.threads le) (is.asked j)))

  short_of : (j : ℕ) → length (call_numbers j b.order) ≤ length (numbers_on calls c j)
  short_of j = begins_short (call_numbers j b.order) (numbers_on calls c j) (is.asked j)

  pub few_acts : length b.order ≤ most_items + 4 * most_calls
  few_acts = omega (arith, acts_counted, short_of 0, short_of 1, short_of 2, short_of 3, is.few_feeds, is.few_items, is.few_calls)

  pub has_room : (a : Act) → ComesNext p calls c b.order a → length b.order < b.order_room
  has_room (act.Feed n) h = let less = h.1 in let this = h.0 in
      omega (arith, acts_counted, short_of 0, short_of 1, short_of 2, short_of 3, is.room, less, this)
  has_room (act.Call j k) h = by (one_of_four j)
    where
      shorter : length (call_numbers j b.order) < length (numbers_on calls c j)
      shorter = let whole = begins_short (call_numbers j b.order ++ k ∷ []) (numbers_on calls c j) h.1 in omega (arith, whole, length_push (call_numbers j b.order) k)

      at : (i : ℕ) → j ≡ i → length (call_numbers i b.order) < length (numbers_on calls c i)
      at i e = subst (λ i. length (call_numbers i b.order) < length (numbers_on calls c i)) e shorter

      by : (j ≡ 0) ⊎ ((j ≡ 1) ⊎ ((j ≡ 2) ⊎ ((j ≡ 3) ⊎ (4 ≤ j)))) → length b.order < b.order_room
      by (inl e) = omega (arith, acts_counted, at 0 e, short_of 1, short_of 2, short_of 3, is.few_feeds, is.room)
      by (inr (inl e)) = omega (arith, acts_counted, short_of 0, at 1 e, short_of 2, short_of 3, is.few_feeds, is.room)
      by (inr (inr (inl e))) = omega (arith, acts_counted, short_of 0, short_of 1, at 2 e, short_of 3, is.few_feeds, is.room)
      by (inr (inr (inr (inl e)))) = omega (arith, acts_counted, short_of 0, short_of 1, short_of 2, at 3 e, is.few_feeds, is.room)
      by (inr (inr (inr (inr le)))) = absurd (let four = h.0 in let no : ⊥ = omega (arith, le, four) in no)
