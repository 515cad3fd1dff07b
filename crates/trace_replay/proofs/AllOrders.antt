-- The orders of all connections, by what the squeues kept of them.
use Rattle.std.proofs.Common.{◌≡◌, ℕ, zero, suc, ◌+◌, ◌%◌, ◌<◌, ◌==◌, inl, inr, Option, Some, None, List, [], ◌∷◌, ◌++◌, length, map, refl, ap, sym, ◌∙◌, subst, arith}
use Rattle.std.specs.Prelude.{Box, IfSome, slice_get}
use Rattle.std.specs.declared.alloc.Global.{Global}
use Rattle.std.specs.List.{AllByRecursion, enumerate_from}
use Rattle.std.proofs.lemmas.List.{length-map}
use Rattle.std.proofs.lemmas.List.FromFn.{length-map-range_with_len}
use Rattle.std.proofs.lemmas.Option.{none-some, slice_get_within}
use Rattle.perimeter_core.specs.declared.entries.Act.{Act}
use Rattle.perimeter_core.specs.declared.marks.Mark.{Mark}
use Rattle.histories.specs.Endings.{Ending}
use Rattle.histories.specs.Stays.{AreOfAllStays}
use Rattle.conn_classifier.specs.Plan.{PlanOf}
use Rattle.conn_blocks.specs.Allowed.{all_calls}
use Rattle.conn_blocks.specs.CallLists.{CallLists}
use Rattle.conn_blocks.specs.Orders.{IsWhole, settle}
use Rattle.conn_blocks.specs.ServeOrder.{BlockOf}
use Rattle.ring_quotas.specs.declared.setup.Setup.{Setup}
use Rattle.conn_blocks.specs.ServedBlocks.{AreServed, IsServing}
use Rattle.squeue_replay.specs.Histories.{ending_of, endings_of}
use Rattle.squeue_replay.specs.Standing.{GuestOf, GuestsStand}
use Rattle.histories.proofs.ListPlaces.{from_map, some_at}
use Rattle.trace_replay.specs.Joining.{HasNoOrder, HasOrder, HasStays, IsNamed, LacksAStay, did_before, did_in}
use Rattle.trace_replay.specs.Reasons.{AreOrdered, AreRight, IsOrdered, IsUnordered}
use Rattle.trace_replay.proofs.JoinedStays.{are_all, misses, misses_none, named_in}
use Rattle.trace_replay.proofs.StaysAlike.{all_fixed}

module _ (p : PlanOf) (calls : CallLists) (setup : Setup) (marks : List (List Mark)) where
  is_ending : (q : ℕ) (e : Ending) → slice_get (endings_of p calls setup marks) q ≡ Some e → (x : ℕ × List Mark) × (ending_of p calls setup x ≡ e)
  is_ending q e at = let found = from_map (ending_of p calls setup) (enumerate_from 0 marks) q e at in (found.0, found.2)

  -- each squeue knows all connections, and all calls
  pub starts_of : (q : ℕ) (e : Ending) → slice_get (endings_of p calls setup marks) q ≡ Some e → length e.setting.starts ≡ length p.tuples
  starts_of q e at =
      let found = is_ending q e at in
      subst (λ (h : Ending). length h.setting.starts ≡ length p.tuples) found.1 (length-map-range_with_len (λ c. c % setup.squeues == found.0.0) 0 (length p.tuples))

  calls_of_all : (q : ℕ) (e : Ending) → slice_get (endings_of p calls setup marks) q ≡ Some e → e.setting.limits.calls ≡ all_calls calls
  calls_of_all q e at = let found = is_ending q e at in subst (λ (h : Ending). h.setting.limits.calls ≡ all_calls calls) found.1 refl

  module _ (kept : List (List GuestOf)) (squeues : ℕ) (right : AreRight setup (endings_of p calls setup marks)) (stand : GuestsStand (endings_of p calls setup marks) kept)
      (count : length kept ≡ squeues) (c : ℕ) (there : c < length p.tuples) where
    same : squeues ≡ length (endings_of p calls setup marks)
    same = sym count ∙ stand.count

    known : (q : ℕ) (e : Ending) → slice_get (endings_of p calls setup marks) q ≡ Some e → c < length e.setting.starts
    known q e at = omega (arith, starts_of q e at, there)

    all_joined : (n : ℕ) → HasStays squeues kept c n → AreOfAllStays (endings_of p calls setup marks) c (did_before squeues kept c n)
    all_joined n h =
        subst (λ (k : ℕ). AreOfAllStays (endings_of p calls setup marks) c (did_before k kept c n)) (sym same)
        (are_all (endings_of p calls setup marks) kept c right.legal stand known n (subst (λ (k : ℕ). HasStays k kept c n) same h))

    pub order_is : (b : BlockOf) → HasOrder squeues kept c p calls b → IsOrdered p calls (endings_of p calls setup marks) c b.order
    order_is b h = record {
      left = misses_none (endings_of p calls setup marks) kept c right.legal stand known h.count (subst (λ (k : ℕ). HasStays k kept c h.count) same h.all);
      did = did_before squeues kept c h.count;
      all = all_joined h.count h.all;
      settled = h.stands.order;
      whole = h.whole;
    }

    pub no_order : (order : List Act) → HasNoOrder squeues kept c p calls → IsOrdered p calls (endings_of p calls setup marks) c order → ⊥
    no_order order (inl lacks) o = o.left (misses (endings_of p calls setup marks) kept c right.legal stand known (subst (λ (k : ℕ). LacksAStay k kept c) same lacks))
    no_order order (inr none) o =
        let all = all_fixed (endings_of p calls setup marks) c o.did (did_before squeues kept c none.count) o.all (all_joined none.count none.all) in
        none.whole (subst (IsWhole p calls c) (o.settled ∙ ap (settle calls c) all) o.whole)

    pub all_named : (s : ℕ) (acts : List Act) → did_in squeues kept c s ≡ Some acts → AllByRecursion (IsNamed (all_calls calls) c) acts
    all_named s acts e =
        named_in (endings_of p calls setup marks) kept c right.legal stand known (all_calls calls) calls_of_all s acts (subst (λ (k : ℕ). did_in k kept c s ≡ Some acts) same e)

-- the blocks of the first connections, in order
abbrev pub HaveOrders : ℕ → List (List GuestOf) → PlanOf → CallLists → List BlockOf → Type 0
HaveOrders squeues kept p calls blocks = (c : ℕ) (b : BlockOf) → slice_get blocks c ≡ Some b → HasOrder squeues kept c p calls b

module _ (p : PlanOf) (calls : CallLists) (kept : List (List GuestOf)) (squeues : ℕ) (blocks : List BlockOf) (have : HaveOrders squeues kept p calls blocks) where
  pub all_served : length blocks ≡ length p.tuples → AreServed p calls blocks
  all_served count = record { count = count; each = λ c lt. by c (slice_get blocks c) refl }
    where
      by : (c : ℕ) (o : Option BlockOf) → slice_get blocks c ≡ o → IfSome o (IsServing p calls c)
      by c None e = tt
      by c (Some b) e = let h = have c b e in record { whole = h.short; served = (h.stands.settled.sound h.short).served }

  module _ (setup : Setup) (marks : List (List Mark)) (right : AreRight setup (endings_of p calls setup marks)) (stand : GuestsStand (endings_of p calls setup marks) kept) (count : length kept ≡ squeues) where
    pub all_ordered : length blocks ≡ length p.tuples → AreOrdered p calls (endings_of p calls setup marks) (map (λ b. b.order) blocks)
    all_ordered all = record {
      count = length-map blocks (λ b. b.order) ∙ all;
      each = λ c order at. (let b = from_map (λ (b : BlockOf). b.order) blocks c order at in
          let lt = slice_get_within blocks c b.0 b.1 in
          subst (IsOrdered p calls (endings_of p calls setup marks) c) b.2
          (order_is p calls setup marks kept squeues right stand count c (omega (arith, lt, all)) b.0 (have c b.0 b.1)));
    }

    pub first_without : length blocks < length p.tuples → HasNoOrder squeues kept (length blocks) p calls → IsUnordered p calls (endings_of p calls setup marks) (length blocks)
    first_without lt none = record {
      there = lt;
      before = λ d less. (let b = some_at blocks d less in
          (b.0.order, order_is p calls setup marks kept squeues right stand count d (omega (arith, less, lt)) b.0 (have d b.0 b.1)));
      without = λ order o. no_order p calls setup marks kept squeues right stand count (length blocks) lt order none o;
    }

-- one block more
pub one_more : (p : PlanOf) (calls : CallLists) (kept : List (List GuestOf)) (squeues n : ℕ) (blocks : List BlockOf) (b : BlockOf)
    → ((c : ℕ) (x : BlockOf) → slice_get blocks c ≡ Some x → HasOrder squeues kept (n + c) p calls x) → HasOrder squeues kept (n + length blocks) p calls b
    → (c : ℕ) (x : BlockOf) → slice_get (blocks ++ b ∷ []) c ≡ Some x → HasOrder squeues kept (n + c) p calls x
one_more p calls kept squeues n [] b have h zero x e = subst (HasOrder squeues kept (n + 0) p calls) (let same : b ≡ x = cc e in same) h
one_more p calls kept squeues n [] b have h (suc c) x e = absurd (none-some x e)
one_more p calls kept squeues n (y ∷ blocks) b have h zero x e = have zero x e
one_more p calls kept squeues n (y ∷ blocks) b have h (suc c) x e =
    let k : suc n + c ≡ n + suc c = omega arith in
    let l : n + length (y ∷ blocks) ≡ suc n + length blocks = omega arith in
    subst (λ (m : ℕ). HasOrder squeues kept m p calls x) k
    (one_more p calls kept squeues (suc n) blocks b (λ d z at. (let m : n + suc d ≡ suc n + d = omega arith in subst (λ (i : ℕ). HasOrder squeues kept i p calls z) m (have (suc d) z at)))
    (subst (λ (i : ℕ). HasOrder squeues kept i p calls b) l h) c x e)

values_push : (items : List (Box BlockOf Global)) (x : Box BlockOf Global) → map (λ b. b.value) (items ++ x ∷ []) ≡ map (λ b. b.value) items ++ x.value ∷ []
values_push [] x = refl
values_push (y ∷ items) x = ap (λ (l : List BlockOf). y.value ∷ l) (values_push items x)

pub push_order : (p : PlanOf) (calls : CallLists) (kept : List (List GuestOf)) (squeues n : ℕ) (items now : List (Box BlockOf Global)) (x : Box BlockOf Global)
    → length items ≡ n → now ≡ items ++ x ∷ [] → HaveOrders squeues kept p calls (map (λ b. b.value) items) → HasOrder squeues kept n p calls x.value
    → HaveOrders squeues kept p calls (map (λ b. b.value) now)
push_order p calls kept squeues n items now x len more have h c b at =
    let zero_more : 0 + c ≡ c = omega arith in
    let last : n ≡ 0 + length (map (λ (y : Box BlockOf Global). y.value) items) = omega (arith, len, length-map items (λ (y : Box BlockOf Global). y.value)) in
    let there : slice_get (map (λ (y : Box BlockOf Global). y.value) items ++ x.value ∷ []) c ≡ Some b =
    ap (λ (l : List BlockOf). slice_get l c) (sym (ap (λ (l : List (Box BlockOf Global)). map (λ y. y.value) l) more ∙ values_push items x)) ∙ at in
    subst (λ (k : ℕ). HasOrder squeues kept k p calls b) zero_more
    (one_more p calls kept squeues 0 (map (λ (y : Box BlockOf Global). y.value) items) x.value
    (λ d y e. (let same : d ≡ 0 + d = omega arith in subst (λ (k : ℕ). HasOrder squeues kept k p calls y) same (have d y e)))
    (subst (λ (k : ℕ). HasOrder squeues kept k p calls x.value) last h) c b there)
