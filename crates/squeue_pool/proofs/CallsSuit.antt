-- Work whose connections move and are called suits the squeues.
use Rattle.std.proofs.Common.{◌≡◌, ℕ, ◌+◌, ◌%◌, ◌<◌, ◌≤◌, ◌^◌, ◌==◌, zero, suc, Some, List, [], ◌∷◌, length, length-append, map, get_or, slice_get, slice_index, slice_index_or, refl, ap, sym, ◌∙◌, subst, arith}
use Rattle.std.specs.Prelude.{All, Contains, take}
use Rattle.std.proofs.lemmas.List.{length-map}
use Rattle.std.proofs.lemmas.List.FromFn.{length-map-range_with_len}
use Rattle.std.proofs.lemmas.List.Elements.{All-head, All-tail}
use Rattle.std.proofs.lemmas.List.Sums.{sum_by-cons}
use Rattle.std.proofs.lemmas.Option.{slice_get_within}
use Rattle.turn_gate.specs.History.{Each}
use Rattle.perimeter_core.specs.declared.entries.Feed.{Feed}
use Rattle.perimeter_core.specs.declared.resident.Resident.{Ghosts}
use Rattle.perimeter_core.specs.History.{Limits, Setting, feed_quotas}
use Rattle.placed_parts.specs.Standing.{first_here}
use Rattle.histories.specs.Quotas.{pairs, ask_quotas}
use Rattle.squeue_state.specs.Naming.{Named}
use Rattle.squeue_rings.specs.Calling.{MayMake, asks_for}
use Rattle.squeue_rings.specs.Rings.{MayBring}
use Rattle.histories.specs.Runs.{InOrder, brought, comes, is_at, leaves}
use Rattle.histories.proofs.ListPlaces.{got_map}
use Rattle.squeue_rings.specs.Doing.{called_by}
use Rattle.squeue_rings.proofs.Works.{got_or}
use Rattle.histories.specs.Lists.{list_of}
use Rattle.squeue_pool.specs.declared.pool.Pool.{Pool}
use Rattle.squeue_pool.specs.declared.work.Work.{Work}
use Rattle.squeue_pool.specs.Keys.{HaveKeys, key_lists}
use Rattle.squeue_pool.specs.Works.{IsFor, IsInRange, Suits, SuitsSqueue, WorkOf, work_of}
use Rattle.squeue_pool.proofs.ByKey.{got_number}
use Rattle.squeue_pool.proofs.KeyLists.{counted, short_list}
use Rattle.squeue_pool.proofs.Made.{number_at}
use Rattle.squeue_pool.proofs.Suffices.{in_order, own, within}
use Rattle.squeue_pool.specs.Calls.{AreFew, called_work, limits_for}
use Rattle.squeue_pool.specs.Quotas.{asks_of, call_quotas, quotas_of, ring_quota, thread_quota}
use Rattle.squeue_pool.proofs.Named.{call_exists, call_within}
use Rattle.squeue_pool.proofs.CallQuotas.{asks_before, few_asks, few_feeds, got_behind, got_front, left_few, thread_there}

-- the work that is handed over
pub same_work : {R : Type 0} (it : Work R) (squeues rings : ℕ) (counts : List ℕ) → it.conns ≡ length counts
    → map (λ quotas. pairs quotas.items) it.quotas.items ≡ call_quotas squeues (map (λ list. list.items) it.lists.items) counts (map (λ called. called.items) it.calls.items)
    → map (λ list. list.items) it.lists.items ≡ key_lists rings counts
    → work_of it ≡ called_work squeues rings counts (map (λ called. called.items) it.calls.items) it.residents.items
same_work it squeues rings counts conns quotas lists = λ i. record {
  conns = conns i;
  residents = it.residents.items;
  quotas = (quotas ∙ ap (λ (ls : List (List Feed)). call_quotas squeues ls counts (map (λ called. called.items) it.calls.items)) lists) i;
  lists = lists i;
  calls = map (λ called. called.items) it.calls.items;
}

-- the asks that a thread's pass counts, where each connection may leave as often as it has feeds
asks_are : {R : Type 0} (limits : R → Limits) (s : Named R) (counts called : List ℕ) → (limits s.given.first).leaves ≡ counts → asks_for limits s called ≡ asks_of counts called
asks_are limits s counts [] e = refl
asks_are limits s counts (c ∷ called) e =
    let rest = asks_are limits s counts called e in
    let both = sum_by-cons (λ (d : ℕ). 1 + slice_index counts d) c called in
    let same = ap (λ (ns : List ℕ). slice_index ns c) e in
    omega (arith, rest, both, same)

module _ {R P O : Type 0} (G : Ghosts R P O) (pool : Pool) (counts : List ℕ) (calls : List (List ℕ)) (residents : List R)
    (range : IsInRange pool (length calls)) (few : AreFew counts calls) (have : HaveKeys G pool.pace.homes.squeues counts residents)
    (within_all : All (λ called. All (λ c. c < length counts) called) calls)
    (lets : (q : ℕ) (first : R) → slice_get residents q ≡ Some first → G.limits first ≡ limits_for counts calls) where
  abbrev squeues : ℕ
  squeues = pool.pace.homes.squeues

  abbrev spread : ℕ
  spread = pool.pace.homes.spread

  abbrev rings : ℕ
  rings = pool.rings

  abbrev lists : List (List Feed)
  lists = key_lists rings counts

  abbrev quotas : List (ℕ × ℕ)
  quotas = quotas_of lists counts calls

  abbrev w : WorkOf R
  w = called_work squeues rings counts calls residents

  list_at : (r : ℕ) (list : List Feed) → slice_get lists r ≡ Some list → (r < rings) × (list ≡ list_of rings r 0 counts)
  list_at r list at = let g = got_number (λ r. list_of rings r 0 counts) 0 rings r list at in let z : 0 + r ≡ r = omega arith in (g.0, g.1 ∙ ap (λ (k : ℕ). list_of rings k 0 counts) z)

  lists_count : length lists ≡ rings
  lists_count = length-map-range_with_len (λ r. list_of rings r 0 counts) 0 rings

  quotas_count : length quotas ≡ rings + length calls
  quotas_count =
      let both = length-append (map ring_quota lists) (map (thread_quota counts) calls) in
      let front = length-map lists ring_quota in
      let back = length-map calls (thread_quota counts) in
      omega (arith, both, front, back, lists_count)

  squeue_suits : (q : ℕ) (first : R) (qs : List (ℕ × ℕ)) → slice_get residents q ≡ Some first → slice_get (call_quotas squeues lists counts calls) q ≡ Some qs
      → SuitsSqueue G pool (length calls) q first qs
  squeue_suits q first qs there at =
      let are : qs ≡ quotas = (got_number (λ k. quotas) 0 squeues q qs at).1 in
      record {
        passes = ap length are ∙ quotas_count;
        feeds = let n = ap feed_quotas are in let m = few_feeds rings counts calls in omega (arith, n, m, few.feeds);
        asks = let n = ap ask_quotas are in let m = few_asks rings counts calls few.feeds few.called (omega (arith, range.1)) in omega (arith, n, m);
        stands = subst (λ (n : ℕ). G.stands first (first_here n q squeues)) (sym (have.sizes q first there)) (have.stand q first there);
      }

  module _ (q : ℕ) (s : Named R) (is : IsFor G pool residents (call_quotas squeues lists counts calls) q s) where
    lt : q < squeues
    lt = let n = slice_get_within residents q s.given.first is.first in omega (arith, n, have.residents_are)

    quotas_are : s.given.quotas ≡ quotas
    quotas_are = ap (λ (S : Setting). S.quotas) is.setting ∙ number_at (λ k. quotas) 0 squeues q [] lt

    its_size : length s.given.starts ≡ length counts
    its_size = ap (λ (S : Setting). length S.starts) is.setting ∙ (length-map-range_with_len (λ c. c % squeues == q) 0 (G.size s.given.first) ∙ have.sizes q s.given.first is.first)

    its_rings : s.given.rings ≡ rings
    its_rings = ap (λ (S : Setting). S.rings) is.setting

    its_limits : G.limits s.given.first ≡ limits_for counts calls
    its_limits = lets q s.given.first is.first

    its_leaves : (G.limits s.given.first).leaves ≡ counts
    its_leaves = ap (λ (l : Limits). l.leaves) its_limits

    module _ (r : ℕ) (list : List Feed) (at : slice_get lists r ≡ Some list) where
      list_is : list ≡ list_of rings r 0 counts
      list_is = (list_at r list at).1

      ring_quota_is : slice_index_or s.given.quotas r (0, 0) ≡ ring_quota list
      ring_quota_is =
          ap (λ (qs : List (ℕ × ℕ)). slice_index_or qs r (0, 0)) quotas_are
          ∙ got_or quotas r (ring_quota list) (0, 0) (got_front (map ring_quota lists) (map (thread_quota counts) calls) r (ring_quota list) (got_map ring_quota lists r list at))

      within_counts : (c : ℕ) → brought c list ≤ slice_index counts c
      within_counts c = subst (λ fs. brought c fs ≤ slice_index counts c) (sym list_is) (within rings r c counts)

      may_bring : MayBring G.limits squeues spread r list s
      may_bring =
          record {
            no_worker = let n = ap length quotas_are in let below = (list_at r list at).0 in omega (arith, n, below, quotas_count);
            feeds = let f = ap (λ (x : ℕ × ℕ). x.0) ring_quota_is in let le = counted (is_at squeues spread s.given.number) list in omega (arith, f, le);
            asks = let a = ap (λ (x : ℕ × ℕ). x.1) ring_quota_is in let out = counted (leaves squeues spread s.given.number) list in let come = counted (comes squeues spread s.given.number) list in omega (arith, a, out, come);
            leaving = λ c.
                let le = left_few squeues spread c s.given.number list in
                let have = within_counts c in
                let same = ap (λ (ns : List ℕ). slice_index ns c) its_leaves in
                omega (arith, le, have, same);
            within = λ c. subst (λ (f : List ℕ). brought c list ≤ slice_index f c) (sym (ap (λ (l : Limits). l.feeds) its_limits)) (within_counts c);
            own = subst (λ fs. Each (λ (f : Feed). (r ≡ f.c % s.given.rings) × (f.c < length s.given.starts)) fs) (sym list_is)
                (subst (λ (m : ℕ). Each (λ (f : Feed). (r ≡ f.c % m) × (f.c < length s.given.starts)) (list_of rings r 0 counts)) (sym its_rings)
                (own rings r (length s.given.starts) 0 counts (let n = its_size in omega (arith, n))));
          }

    module _ (j k c : ℕ) (at : slice_get (called_by calls j) k ≡ Some c) where
      abbrev called : List ℕ
      called = called_by calls j

      there : slice_get calls j ≡ Some called
      there = thread_there calls j k c at

      thread_quota_is : slice_index_or s.given.quotas (s.given.rings + j) (0, 0) ≡ thread_quota counts called
      thread_quota_is =
          (λ i. slice_index_or (quotas_are i) (its_rings i + j) (0, 0))
          ∙ got_or quotas (rings + j) (thread_quota counts called) (0, 0)
          (got_behind (map ring_quota lists) (map (thread_quota counts) calls) rings j (sym lists_count ∙ sym (length-map lists ring_quota))
          ∙ got_map (thread_quota counts) calls j called there)

      may_make : MayMake G.limits s j k (take k called) c
      may_make =
          record {
            no_worker = let n = ap length quotas_are in let below = slice_get_within calls j called there in omega (arith, n, below, quotas_count, its_rings);
            range = let n = its_size in let below = call_within (length counts) calls j k c within_all at in omega (arith, n, below);
            exists = subst (λ (l : Limits). Contains l.calls (c, j, k)) (sym its_limits) (call_exists calls j k c at);
            quota =
                let a = ap (λ (x : ℕ × ℕ). x.1) thread_quota_is in
                let le = asks_before counts called k c at in
                let are = asks_are G.limits s counts (take k called) its_leaves in
                let same = ap (λ (ns : List ℕ). slice_index ns c) its_leaves in
                omega (arith, a, le, are, same);
          }

  short : (j : ℕ) → length (called_by calls j) < 2 ^ 32
  short j = by calls j few.called
    where
      by : (xs : List (List ℕ)) (j : ℕ) → All (λ called. length called ≤ 2 ^ 12) xs → length (get_or xs j []) < 2 ^ 32
      by [] j all = omega arith
      by (x ∷ xs) zero all = let one : length x ≤ 2 ^ 12 = All-head (λ (called : List ℕ). length called ≤ 2 ^ 12) x xs all in omega (arith, one)
      by (x ∷ xs) (suc j) all = by xs j (All-tail (λ (called : List ℕ). length called ≤ 2 ^ 12) x xs all)

  pub calls_suit : Suits G pool w
  calls_suit =
      record {
        squeues = record { residents_are = have.residents_are; quotas_are = length-map-range_with_len (λ k. quotas) 0 squeues; each = squeue_suits };
        sizes = have.sizes;
        same_origin = have.same_origin;
        lists = lists_count;
        short_lists = λ r list at. let n = ap length (list_at r list at).1 in let m = short_list rings r counts in omega (arith, n, m, few.feeds);
        order = λ r list at. subst (λ fs. InOrder fs) (sym (list_at r list at).1) (in_order rings r counts);
        bring = λ r list q s at is. may_bring q s is r list at;
        short_calls = short;
        make = λ j k c q s at is. may_make q s is j k c at;
      }
