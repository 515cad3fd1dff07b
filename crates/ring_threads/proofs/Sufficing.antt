-- The quotas suffice: for the list of a ring, and for the calls of an application thread.
use Rattle.std.proofs.Common.{◌≡◌, ℕ, zero, suc, ◌+◌, ◌%◌, ◌<◌, ◌≤◌, ◌==◌, inl, inr, Some, List, [], ◌∷◌, length, map, slice_get, slice_index, sum_by, take, refl, ap, sym, ◌∙◌, subst, arith}
use Rattle.std.specs.Prelude.{All, Contains, slice_index_or}
use Rattle.std.proofs.lemmas.Bool.{cases_lt}
use Rattle.std.proofs.lemmas.List.FromFn.{length-map-range_with_len}
use Rattle.std.proofs.lemmas.List.Sums.{sum_by-cons}
use Rattle.turn_gate.specs.History.{Each}
use Rattle.perimeter_core.specs.declared.entries.Feed.{Feed}
use Rattle.perimeter_core.specs.History.{Limits, Setting}
use Rattle.squeue_state.specs.Naming.{Named}
use Rattle.conn_classifier.specs.Plan.{PlanOf, IsPlan, items_in}
use Rattle.conn_classifier.specs.RingList.{IsRingList}
use Rattle.tcb_machine.specs.declared.kinds.Call.{Call}
use Rattle.conn_blocks.specs.Allowed.{all_calls}
use Rattle.conn_blocks.specs.CallLists.{CallLists, calls_of, conns_called}
use Rattle.histories.specs.Homes.{times_leaving}
use Rattle.conn_blocks.proofs.Named.{call_is_named}
use Rattle.squeue_rings.specs.Rings.{MayBring}
use Rattle.squeue_rings.specs.Calling.{MayMake, MayMakeEach, asks_for}
use Rattle.ring_quotas.specs.Quotas.{quotas_of}
use Rattle.ring_threads.specs.MadeFor.{IsMadeFor}
use Rattle.ring_quotas.proofs.Adding.{on_known}
use Rattle.ring_threads.proofs.Totals.{all_asks, all_feeds, brought_known, brought_unknown, each_leaves, none_leaves, own}
use Rattle.ring_quotas.proofs.EachQuota.{quota_count, rings_quota, callers_quota, leaves_known, feeds_known}

each_as : {X : Type 0} {P Q : X → Type 0} (xs : List X) → ((x : X) → P x → Q x) → Each P xs → Each Q xs
each_as [] f h = tt
each_as (x ∷ xs) f h = (f x h.0, each_as xs f h.1)

module _ {R : Type 0} (limits : R → Limits) (p : PlanOf) (calls : CallLists) (squeues rings spread : ℕ) (s : Named R) (made : IsMadeFor limits p calls squeues rings spread s) where
  same_rings : s.given.rings ≡ rings
  same_rings = ap (λ (S : Setting). S.rings) made

  same_count : length s.given.starts ≡ length p.tuples
  same_count = ap (λ (S : Setting). length S.starts) made ∙ length-map-range_with_len (λ c. c % squeues == s.given.number) 0 (length p.tuples)

  passes : length s.given.quotas ≡ rings + 4
  passes = ap (λ (S : Setting). length S.quotas) made ∙ quota_count p calls squeues rings spread s.given.number

  quota_at : (k : ℕ) → slice_index_or s.given.quotas k (0, 0) ≡ slice_index_or (quotas_of p calls squeues rings spread s.given.number) k (0, 0)
  quota_at k = ap (λ (S : Setting). slice_index_or S.quotas k (0, 0)) made

  may_leave : (c : ℕ) → c < length p.tuples → slice_index (limits s.given.first).leaves c ≡ times_leaving squeues spread s.given.number c (length (items_in p c))
  may_leave c lt = ap (λ (S : Setting). slice_index S.limits.leaves c) made ∙ leaves_known p calls squeues rings spread s.given.number c lt

  may_have : (c : ℕ) → c < length p.tuples → slice_index (limits s.given.first).feeds c ≡ length (items_in p c)
  may_have c lt = ap (λ (S : Setting). slice_index S.limits.feeds c) made ∙ feeds_known p calls squeues rings spread s.given.number c lt

  pub may_bring : (plan : IsPlan p) (r : ℕ) (list : List Feed) → r < rings → IsRingList p rings r list → MayBring limits squeues spread r list s
  may_bring plan r list lt is =
      let q = s.given.number in
      let quota = quota_at r ∙ rings_quota p calls squeues rings spread q r lt in
      let f = all_feeds p plan rings r list is squeues spread q in
      let a = all_asks p plan rings r list is squeues spread q in
      record {
        no_worker = omega (arith, passes, lt);
        feeds = (let e = ap (λ (x : ℕ × ℕ). x.0) quota in omega (arith, f, e));
        asks = (let e = ap (λ (x : ℕ × ℕ). x.1) quota in omega (arith, a, e));
        leaving = λ c. elim (cases_lt c (length p.tuples)) [
          | inl less ↦ (let e = each_leaves p plan rings r list is squeues spread q c less in let l = may_leave c less in omega (arith, e, l))
          | inr ge ↦ (let e = none_leaves p plan rings r list is squeues spread q c ge in omega (arith, e))
        ];
        within = λ c. elim (cases_lt c (length p.tuples)) [
          | inl less ↦ (let e = brought_known p plan rings r list is c less in let l = may_have c less in omega (arith, e, l))
          | inr ge ↦ (let e = brought_unknown p plan rings r list is c ge in omega (arith, e))
        ];
        own = each_as list (λ f h. (h.0 ∙ ap (λ (n : ℕ). f.c % n) (sym same_rings), omega (arith, h.1, same_count))) (own p plan rings r list is);
      }

  -- the asks for calls on connections that there are
  asks_are : (xs : List (ℕ × Call)) → ((k : ℕ) (x : ℕ × Call) → slice_get xs k ≡ Some x → x.0 < length p.tuples)
      → asks_for limits s (map (λ x. x.0) xs) ≡ sum_by (λ call. 1 + times_leaving squeues spread s.given.number call.0 (length (items_in p call.0))) xs
  asks_are [] known = refl
  asks_are (x ∷ xs) known =
      let r = asks_are xs (λ k y e. known (suc k) y e) in
      let l = may_leave x.0 (known 0 x refl) in
      let c = sum_by-cons (λ (call : ℕ × Call). 1 + times_leaving squeues spread s.given.number call.0 (length (items_in p call.0))) x xs in
      omega (arith, r, l, c)

  -- those for the first calls and one more are among them
  first_asks : (cs : List ℕ) (k c : ℕ) → slice_get cs k ≡ Some c → asks_for limits s (take k cs) + (1 + slice_index (limits s.given.first).leaves c) ≤ asks_for limits s cs
  first_asks [] k c e = absurd (let no : ⊥ = cc in no)
  first_asks (d ∷ cs) zero c e = let same : d ≡ c = cc e in let l = ap (λ (n : ℕ). slice_index (limits s.given.first).leaves n) same in omega (arith, l)
  first_asks (d ∷ cs) (suc k) c e = let r = first_asks cs k c e in omega (arith, r)

  -- the call on that connection
  call_on : (xs : List (ℕ × Call)) (k c : ℕ) → slice_get (map (λ x. x.0) xs) k ≡ Some c → (call : Call) × (slice_get xs k ≡ Some (c, call))
  call_on [] k c e = absurd (let no : ⊥ = cc in no)
  call_on (x ∷ xs) zero c e = let same : x.0 ≡ c = cc e in (x.1, λ i. Some (same i, x.1))
  call_on (x ∷ xs) (suc k) c e = call_on xs k c e

  pub may_make : (j : ℕ) → j < 4 → All (λ call. call.0 < length p.tuples) (all_calls calls) → (k c : ℕ) → slice_get (conns_called calls j) k ≡ Some c → MayMake limits s j k (take k (conns_called calls j)) c
  may_make j lt all k c e =
      let q = s.given.number in
      let call = call_on (calls_of calls j) k c e in
      let known = on_known calls (length p.tuples) j k (c, call.0) all call.1 in
      let first = first_asks (conns_called calls j) k c e in
      let asks = asks_are (calls_of calls j) (λ m x at. on_known calls (length p.tuples) j m x all at) in
      let quota = quota_at (s.given.rings + j) ∙ (ap (λ (n : ℕ). slice_index_or (quotas_of p calls squeues rings spread q) (n + j) (0, 0)) same_rings ∙ callers_quota p calls squeues rings spread q j lt) in
      record {
        no_worker = omega (arith, passes, lt, same_rings);
        range = omega (arith, known, same_count);
        exists = subst (λ (S : Setting). Contains S.limits.calls (c, j, k)) (sym made) (call_is_named calls c j k call.0 call.1);
        quota = (let a = ap (λ (x : ℕ × ℕ). x.1) quota in omega (arith, first, asks, a));
      }

pub all_may_bring : {R : Type 0} (limits : R → Limits) (p : PlanOf) (calls : CallLists) (squeues rings spread r : ℕ) (list : List Feed) (ss : List (Named R)) → IsPlan p → r < rings → IsRingList p rings r list
    → Each (IsMadeFor limits p calls squeues rings spread) ss → Each (MayBring limits squeues spread r list) ss
all_may_bring limits p calls squeues rings spread r list ss plan lt is each = each_as ss (λ s made. may_bring limits p calls squeues rings spread s made plan r list lt is) each

pub all_may_make : {R : Type 0} (limits : R → Limits) (p : PlanOf) (calls : CallLists) (squeues rings spread j : ℕ) (ss : List (Named R)) → j < 4 → All (λ call. call.0 < length p.tuples) (all_calls calls)
    → Each (IsMadeFor limits p calls squeues rings spread) ss → MayMakeEach limits j (conns_called calls j) ss
all_may_make limits p calls squeues rings spread j ss lt all each = λ k c e. each_as ss (λ s made. may_make limits p calls squeues rings spread s made j lt all k c e) each
