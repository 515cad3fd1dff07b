-- Whole orders: what settling leaves of all acts, and the only one of a connection without calls.
use Rattle.std.proofs.Common.{◌≡◌, ℕ, ◌==◌, ◌&&◌, not, Bool, true, false, List, [], ◌∷◌, ◌++◌, length, map, refl, sym, ap, subst, ◌∙◌, eq-eqb}
use Rattle.std.specs.Prelude.{if◌then◌else◌}
use Rattle.std.specs.List.{AllByRecursion, range_with_len}
use Rattle.std.proofs.lemmas.Bool.{or_right, or_left, both_ways}
use Rattle.std.proofs.lemmas.List.Sorted.{list_any-IsPermutation}
use Rattle.perimeter_core.specs.declared.entries.Act.{Act}
use Rattle.perimeter_core.specs.declared.entries.Act.TheVariants as act
use Rattle.conn_classifier.specs.Plan.{PlanOf, items_in}
use Rattle.conn_blocks.specs.CallLists.{CallLists, calls_of}
use Rattle.perimeter_core.specs.Deeds.{feed_numbers}
use Rattle.conn_blocks.specs.Orders.{numbers_on, call_numbers, has_call, settle, IsAll, IsWhole}
use Rattle.conn_blocks.proofs.Rising.{Up, has, up_numbers, not_before, has_append}
use Rattle.conn_blocks.specs.SettledFeeds.{feeds_settle}
use Rattle.conn_blocks.proofs.Settling.{has_numbers, Waits, Stuck, IsOn, settling}

-- acts whose calls are all on the connection
all_on : (calls : CallLists) (c : ℕ) (acts : List Act) → ((j k : ℕ) → has_call j k acts ≡ true → has k (numbers_on calls c j) ≡ true) → AllByRecursion (IsOn calls c) acts
all_on calls c [] h = tt
all_on calls c (act.Feed n ∷ acts) h = (tt, all_on calls c acts h)
all_on calls c (act.Call j k ∷ acts) h = (
  h j k (or_left ((j == j) && (k == k)) (has_call j k acts) (let i : (j == j) ≡ true = eq-eqb j j refl in let m : (k == k) ≡ true = eq-eqb k k refl in rw (i, m) refl)),
  all_on calls c acts (λ i m e. h i m (or_right ((j == i) && (k == m)) (has_call i m acts) e)),
)

module _ (p : PlanOf) (calls : CallLists) (c : ℕ) (acts : List Act) (all : IsAll p calls c acts) where
  same_calls : (j k : ℕ) → has_call j k acts ≡ has k (numbers_on calls c j)
  same_calls j k = has_numbers j k acts ∙ list_any-IsPermutation (λ i. i == k) (call_numbers j acts) (numbers_on calls c j) (all.asked j)

  nothing_left : (j : ℕ) → Waits (numbers_on calls c j) acts (settle calls c acts) j → call_numbers j (settle calls c acts) ≡ numbers_on calls c j
  nothing_left j w = by w.rest w.whole w.stuck
    where
      kept : List Act
      kept = settle calls c acts

      none : (l : List ℕ) → l ≡ l ++ []
      none [] = refl
      none (x ∷ l) = ap (λ m. x ∷ m) (none l)

      by : (rest : List ℕ) → numbers_on calls c j ≡ call_numbers j (settle calls c acts) ++ rest → Stuck acts (settle calls c acts) j rest
          → call_numbers j (settle calls c acts) ≡ numbers_on calls c j
      by [] e h = none (call_numbers j (settle calls c acts)) ∙ sym e
      by (r ∷ rest) e h = absurd (both_ways (has r (call_numbers j (settle calls c acts))) (not_before r rest 0 (call_numbers j (settle calls c acts)) rising) there)
        where
          rising : Up 0 (call_numbers j (settle calls c acts) ++ r ∷ rest)
          rising = subst (Up 0) e (up_numbers c 0 (calls_of calls j))

          in_all : has r (call_numbers j (settle calls c acts) ++ r ∷ rest) ≡ true
          in_all = has_append r (call_numbers j (settle calls c acts)) (r ∷ rest)
              ∙ or_right (has r (call_numbers j (settle calls c acts))) (has r (r ∷ rest)) (or_left (r == r) (has r rest) (eq-eqb r r refl))

          came : has_call j r acts ≡ true
          came = same_calls j r ∙ ap (has r) e ∙ in_all

          kept_it : (b d : Bool) → b ≡ true → (b && not d) ≡ false → d ≡ true
          kept_it true true q h = refl
          kept_it true false q h = absurd (both_ways true h refl)
          kept_it false d q h = absurd (both_ways false refl q)

          there : has r (call_numbers j (settle calls c acts)) ≡ true
          there = sym (has_numbers j r (settle calls c acts)) ∙ kept_it (has_call j r acts) (has_call j r (settle calls c acts)) came h

  pub is_whole : IsWhole p calls c (settle calls c acts)
  is_whole = record {
    feeds = feeds_settle calls c acts ∙ all.feeds;
    asked = λ j. nothing_left j ((settling calls c acts (all_on calls c acts (λ j k e. sym (same_calls j k) ∙ e))).waits j);
  }

pub only_feeds : (acts : List Act) → ((j : ℕ) → call_numbers j acts ≡ []) → acts ≡ map act.Feed (feed_numbers acts)
only_feeds [] h = refl
only_feeds (act.Feed n ∷ acts) h = ap (λ l. act.Feed n ∷ l) (only_feeds acts h)
only_feeds (act.Call j k ∷ acts) h = absurd (by (j == j) (eq-eqb j j refl) (h j))
  where
    by : (b : Bool) → b ≡ true → (if b then k ∷ call_numbers j acts else call_numbers j acts) ≡ [] → ⊥
    by true e q = cc
    by false e q = both_ways false refl e

pub is_feeds : (p : PlanOf) (calls : CallLists) (c : ℕ) (order : List Act) → ((j : ℕ) → numbers_on calls c j ≡ []) → IsWhole p calls c order
    → order ≡ map act.Feed (range_with_len 0 (length (items_in p c)))
is_feeds p calls c order none h = only_feeds order (λ j. h.asked j ∙ none j) ∙ ap (map act.Feed) h.feeds

pub are_equal : (p : PlanOf) (calls : CallLists) (c : ℕ) (order other : List Act) → ((j : ℕ) → numbers_on calls c j ≡ [])
    → IsWhole p calls c order → IsWhole p calls c other → order ≡ other
are_equal p calls c order other none h g = is_feeds p calls c order none h ∙ sym (is_feeds p calls c other none g)
