-- Whether an order is whole is seen by how long it is: of each thread it has the first calls on the connection, and the feeds from
-- the first one on.
use Rattle.std.proofs.Common.{◌≡◌, ℕ, ◌+◌, ◌<◌, ◌≤◌, ◌⊎◌, inl, inr, List, [], ◌∷◌, ◌++◌, length, ap, sym, ◌∙◌, subst, arith}
use Rattle.std.specs.List.{range_with_len}
use Rattle.std.proofs.lemmas.Bool.{cases_eq, cases_lt}
use Rattle.std.proofs.lemmas.List.{append-nil, length-append}
use Rattle.std.proofs.lemmas.List.FromFn.{length-range_with_len}
use Rattle.perimeter_core.specs.declared.entries.Act.{Act}
use Rattle.conn_classifier.specs.Plan.{PlanOf, items_in}
use Rattle.conn_blocks.specs.CallLists.{CallLists}
use Rattle.conn_blocks.specs.Holding.{Begins, IsSettled, calls_on, fed}
use Rattle.conn_blocks.specs.Orders.{IsWhole, call_numbers, numbers_on}
use Rattle.conn_blocks.specs.ServeOrder.{BlockOf}
use Rattle.conn_blocks.proofs.Counting.{all_acts, begins_short, no_thread, begins_none}

-- a front that is as long as the whole is the whole
begins_all : (front whole : List ℕ) → Begins front whole → length front ≡ length whole → front ≡ whole
begins_all front whole b e = by b.rest b.joined
  where
    by : (rest : List ℕ) → whole ≡ front ++ rest → front ≡ whole
    by [] j = sym (append-nil front) ∙ sym j
    by (x ∷ rest) j = absurd (let no : ⊥ = omega (arith, e, ap length j, length-append front (x ∷ rest)) in no)

module _ (p : PlanOf) (calls : CallLists) (c : ℕ) where
  -- a whole order is as long as its items and its calls
  pub whole_is_long : (order : List Act) → length calls ≡ 4 → IsWhole p calls c order → length order ≡ length (items_in p c) + calls_on calls c
  whole_is_long order four w =
      let all = all_acts order (λ j le. w.asked j ∙ no_thread calls c j four le) in
      omega (arith, all, ap length w.feeds, length-range_with_len 0 (length (items_in p c)), ap length (w.asked 0), ap length (w.asked 1), ap length (w.asked 2), ap length (w.asked 3))

  -- a block whose order is as long has a whole one
  pub long_is_whole : (b : BlockOf) → IsSettled p calls c b → length b.order ≡ length (items_in p c) + calls_on calls c → IsWhole p calls c b.order
  long_is_whole b is e = record {
    feeds = is.feeds ∙ ap (range_with_len 0) feeds_all;
    asked = λ j. by j (cases_lt j 4);
  }
    where
      short : (j : ℕ) → length (call_numbers j b.order) ≤ length (numbers_on calls c j)
      short j = begins_short (call_numbers j b.order) (numbers_on calls c j) (is.asked j)

      nobody : (j : ℕ) → 4 ≤ j → call_numbers j b.order ≡ []
      nobody j le = begins_none (call_numbers j b.order) (subst (Begins (call_numbers j b.order)) (no_thread calls c j is.threads le) (is.asked j))

      feeds_all : fed b ≡ length (items_in p c)
      feeds_all = omega (arith, all_acts b.order nobody, e, is.few_feeds, short 0, short 1, short 2, short 3)

      at : (i j : ℕ) → j ≡ i → length (call_numbers i b.order) ≡ length (numbers_on calls c i) → call_numbers j b.order ≡ numbers_on calls c j
      at i j same l = subst (λ (m : ℕ). call_numbers m b.order ≡ numbers_on calls c m) (sym same) (begins_all (call_numbers i b.order) (numbers_on calls c i) (is.asked i) l)

      by : (j : ℕ) → (j < 4) ⊎ (4 ≤ j) → call_numbers j b.order ≡ numbers_on calls c j
      by j (inr le) = nobody j le ∙ sym (no_thread calls c j is.threads le)
      by j (inl lt) = one (cases_eq j 0) (cases_eq j 1) (cases_eq j 2)
        where
          one : (j ≡ 0) ⊎ (j ≡ 0 → ⊥) → (j ≡ 1) ⊎ (j ≡ 1 → ⊥) → (j ≡ 2) ⊎ (j ≡ 2 → ⊥) → call_numbers j b.order ≡ numbers_on calls c j
          one (inl z) a d = at 0 j z (omega (arith, all_acts b.order nobody, e, is.few_feeds, short 0, short 1, short 2, short 3))
          one (inr z) (inl a) d = at 1 j a (omega (arith, all_acts b.order nobody, e, is.few_feeds, short 0, short 1, short 2, short 3))
          one (inr z) (inr a) (inl d) = at 2 j d (omega (arith, all_acts b.order nobody, e, is.few_feeds, short 0, short 1, short 2, short 3))
          one (inr z) (inr a) (inr d) = at 3 j (omega (arith, lt, z, a, d)) (omega (arith, all_acts b.order nobody, e, is.few_feeds, short 0, short 1, short 2, short 3))
