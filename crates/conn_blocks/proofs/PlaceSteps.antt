-- What a feed and a call need of the blocks of a squeue, and which blocks are here at first.
use Rattle.std.proofs.Common.{◌≡◌, ◌≢◌, ℕ, zero, suc, ◌+◌, ◌%◌, ◌<◌, Bool, true, false, ◌==◌, ◌&&◌, inl, inr, Option, Some, None, List, [], ◌∷◌, length, slice_get, slice_index_or, IfSome, refl, ap, sym, ◌∙◌, subst, arith}
use Rattle.std.specs.Prelude.{Box, Contains, nat_lt, slice_index, if◌then◌else◌}
use Rattle.std.proofs.lemmas.List.Elements.{Contains-append_cases}
use Rattle.std.proofs.lemmas.List.FromFn.{get_or-map-range_with_len}
use Rattle.std.proofs.lemmas.Bool.{both_ways}
use Rattle.std.proofs.lemmas.Bool.Decides.{nat_tests}
use Rattle.std.specs.declared.alloc.Global.{Global}
use Rattle.perimeter_core.specs.declared.entries.Act.{Act}
use Rattle.perimeter_core.specs.declared.entries.Act.TheVariants as act
use Rattle.perimeter_core.specs.Deeds.{feed_numbers}
use Rattle.perimeter_core.specs.Residing.{HadFeeds}
use Rattle.perimeter_core.proofs.ActLists.{fed_is}
use Rattle.placed_parts.proofs.PlaceSteps.{had_feeds}
use Rattle.tcb_machine.specs.declared.kinds.Call.{Call}
use Rattle.conn_classifier.specs.Plan.{PlanOf, items_in}
use Rattle.conn_blocks.specs.CallLists.{CallLists, calls_of, call_at}
use Rattle.conn_blocks.specs.ServeOrder.{BlockOf, IsCallOn}
use Rattle.conn_blocks.specs.Holding.{StandsFor, IsNew}
use Rattle.conn_blocks.specs.Allowed.{named_from, all_from, all_calls, feed_limits}
use Rattle.conn_blocks.specs.Places.{BlockAt, PlaceFits, PlacesStand}
use Rattle.placed_parts.specs.Standing.{first_here}
use Rattle.conn_blocks.proofs.NewBlock.{new_stands}

-- at first those connections are here whose first squeue it is
pub here_first : (n k squeues c : ℕ) → c < n → c % squeues ≡ k → first_here n k squeues c ≡ Some []
here_first n k squeues c lt e = let below : nat_lt c n ≡ true = grind (arith, nat_tests) in let same : (c % squeues == k) ≡ true = grind (arith, nat_tests) in rw (below, same) refl

pub away_first : (n k squeues c : ℕ) → c % squeues ≢ k → first_here n k squeues c ≡ None
away_first n k squeues c ne =
    let other : (c % squeues == k) ≡ false = grind (arith, nat_tests) in
    let no : (nat_lt c n && (c % squeues == k)) ≡ false = by (nat_lt c n) (c % squeues == k) other in rw no refl
  where
    by : (b d : Bool) → d ≡ false → (b && d) ≡ false
    by false d e = refl
    by true d e = e

-- a feed within the limits is an item
pub is_item : (p : PlanOf) (c n : ℕ) → c < length p.tuples → n < slice_index (feed_limits p) c → n < length (items_in p c)
is_item p c n lt few = let same = get_or-map-range_with_len (λ d. length (items_in p d)) 0 (length p.tuples) c c 0 lt (omega arith) in omega (arith, few, same)

-- call number m of a thread's list is on this connection
abbrev pub IsNamed : ℕ → ℕ → List (ℕ × Call) → ℕ × ℕ × ℕ → Type 0
IsNamed j k xs x = (m : ℕ) × (x.1 ≡ j) × (x.2 ≡ k + m) × (m < length xs) × IfSome (slice_get xs m) (λ y. y.0 ≡ x.0)

named_one : (j k : ℕ) (xs : List (ℕ × Call)) (i : ℕ) (x : ℕ × ℕ × ℕ) → i < length (named_from j k xs) → slice_index_or (named_from j k xs) i x ≡ x → IsNamed j k xs x
named_one j k [] i x lt e = absurd (let no : ⊥ = omega arith in no)
named_one j k (y ∷ xs) zero x lt e = let number = ap (λ (t : ℕ × ℕ × ℕ). t.2) e in (0, ap (λ (t : ℕ × ℕ × ℕ). t.1) (sym e), omega (arith, number), omega arith, ap (λ (t : ℕ × ℕ × ℕ). t.0) e)
named_one j k (y ∷ xs) (suc i) x lt e =
    let r = named_one j (suc k) xs i x (omega (arith, lt)) e in
    let number = r.2 in let below = r.3 in (suc r.0, r.1, omega (arith, number), omega (arith, below), r.4)

-- a call of the list is call number k of its thread, on its connection
abbrev pub IsListed : ℕ → CallLists → ℕ × ℕ × ℕ → Type 0
IsListed j ls x = (m : ℕ) × (x.1 ≡ j + m) × (m < length ls) × (x.2 < length (calls_of ls m)) × IfSome (call_at ls m x.2) (λ y. y.0 ≡ x.0)

listed : (j : ℕ) (ls : CallLists) (x : ℕ × ℕ × ℕ) → Contains (all_from j ls) x → IsListed j ls x
listed j [] x h = absurd (let lt = h.1 in let no : ⊥ = omega (arith, lt) in no)
listed j (l ∷ ls) x h =
    elim (Contains-append_cases (named_from j 0 l) (all_from (suc j) ls) x h) [
      | inl here ↦
          let r = named_one j 0 l here.0 x here.1 here.2 in
          let thread = r.1 in
          let number : x.2 ≡ r.0 = omega (arith, r.2) in
          let below = r.3 in
          (0, omega (arith, thread), omega arith, omega (arith, number, below), subst (λ k. IfSome (slice_get l k) (λ y. y.0 ≡ x.0)) (sym number) r.4)
      | inr later ↦
          let r = listed (suc j) ls x later in
          let thread = r.1 in let below = r.2 in
          (suc r.0, omega (arith, thread), omega (arith, below), r.3, r.4)
    ]

-- a call that is named exists
pub is_call_on : (calls : CallLists) (c j k : ℕ) → length calls ≡ 4 → Contains (all_calls calls) (c, j, k) → IsCallOn calls c (act.Call j k)
is_call_on calls c j k four h =
    let r = listed 0 calls (c, j, k) h in
    let same : j ≡ r.0 = omega (arith, r.1) in
    let below = r.2 in
    (omega (arith, same, below, four), subst (λ i. k < length (calls_of calls i)) (sym same) r.3, subst (λ i. IfSome (call_at calls i k) (λ y. y.0 ≡ c)) (sym same) r.4)

-- after so many feeds the next one has this number
pub fed_here : (p : PlanOf) (calls : CallLists) (places : List (Option (Box BlockOf Global))) (c n : ℕ) (x : Box BlockOf Global) → slice_get places c ≡ Some (Some x) → HadFeeds (PlacesStand p calls places) c n
    → (had : List Act) × StandsFor p calls c had x.value × (length (feed_numbers had) ≡ n)
fed_here p calls places c n x e h = let was = had_feeds (BlockAt p calls) places c n x e h in (was.had, was.stands, sym (fed_is was.had) ∙ was.feeds)

-- a new block at its place
pub new_fits : (p : PlanOf) (calls : CallLists) (c : ℕ) (x : Box BlockOf Global) (here : Bool) → here ≡ true → IsNew p calls c x.value → PlaceFits p calls c (Some (Some x)) (if here then Some [] else None)
new_fits p calls c x true e new = new_stands p calls c x.value new
new_fits p calls c x false e new = absurd (both_ways false refl e)
