-- Work by key suits the squeues, and when it is done each connection has had all its feeds.
use Rattle.std.proofs.Common.{◌≡◌, ℕ, ◌+◌, ◌%◌, ◌<◌, ◌≤◌, ◌^◌, ◌==◌, zero, suc, Bool, true, if◌then◌else◌, Some, None, List, [], length, map, sum, slice_get, slice_index, slice_index_or, refl, ap, sym, ◌∙◌, subst, arith}
use Rattle.std.specs.Prelude.{All, Vec}
use Rattle.std.specs.List.{range_with_len}
use Rattle.std.specs.declared.alloc.Global.{Global}
use Rattle.std.proofs.lemmas.List.{length-map}
use Rattle.std.proofs.lemmas.List.FromFn.{length-map-range_with_len}
use Rattle.std.proofs.lemmas.Option.{slice_get_within}
use Rattle.std.proofs.Math.Nat.{mod-lt}
use Rattle.turn_gate.specs.History.{Each}
use Rattle.perimeter_core.specs.declared.entries.Feed.{Feed}
use Rattle.perimeter_core.specs.declared.resident.Resident.{Ghosts}
use Rattle.perimeter_core.specs.Blocks.{peri}
use Rattle.perimeter_core.specs.Deeds.{acts, fed}
use Rattle.perimeter_core.specs.History.{Setting, feed_quotas, run}
use Rattle.perimeter_core.specs.Perimeter.{is_here}
use Rattle.perimeter_core.specs.Residing.{HadFeeds}
use Rattle.placed_parts.specs.Standing.{first_here}
use Rattle.histories.specs.Quotas.{pairs, ask_quotas}
use Rattle.squeue_state.specs.Naming.{Named}
use Rattle.histories.specs.Endings.{Ending}
use Rattle.histories.proofs.ListPlaces.{some_at, got_map}
use Rattle.squeue_rings.specs.Rings.{MayBring}
use Rattle.histories.specs.Runs.{InOrder, brought, count, is_at, place}
use Rattle.squeue_rings.proofs.Works.{got_or}
use Rattle.histories.specs.Lists.{list_of}
use Rattle.histories.proofs.RingLists.{has_all}
use Rattle.squeue_pool.specs.declared.pool.Pool.{Pool}
use Rattle.squeue_pool.specs.declared.work.Left.{Left}
use Rattle.squeue_pool.specs.declared.work.Work.{Work}
use Rattle.squeue_pool.specs.Keys.{HaveKeys, key_lists, key_quotas, key_work, quotas_at}
use Rattle.squeue_pool.specs.Runs.{HasRun, IsHereOnce, ends_of, list_for}
use Rattle.squeue_pool.specs.Works.{IsFor, Suits, SuitsSqueue, WorkOf, work_of}
use Rattle.squeue_pool.proofs.KeyLists.{few_quotas, no_asks, short_list}
use Rattle.squeue_pool.proofs.Made.{number_at}
use Rattle.squeue_pool.proofs.Suffices.{in_order, none_come, none_leave, none_left_by, own, within}

-- what stands at a number
pub got_number : {A : Type 0} (f : ℕ → A) (a n k : ℕ) (x : A) → slice_get (map f (range_with_len a n)) k ≡ Some x → (k < n) × (x ≡ f (a + k))
got_number f a zero k x is = cc is
got_number f a (suc n) zero x is =
    let z : a ≡ a + 0 = omega arith in
    let e : f a ≡ x = cc is in
    (omega arith, sym e ∙ ap f z)
got_number f a (suc n) (suc k) x is =
    let r = got_number f (a + 1) n k x is in
    let z : (a + 1) + k ≡ a + suc k = omega arith in
    (let lt = r.0 in omega (arith, lt), r.1 ∙ ap f z)

-- the lists are short
pub all_short : (lists : List (Vec Feed Global)) (rings : ℕ) (counts : List ℕ) → map (λ list. list.items) lists ≡ key_lists rings counts → sum counts ≤ 2 ^ 30 → All (λ list. length list.items < 2 ^ 32) lists
all_short lists rings counts are few k d lt =
    let v = some_at lists k lt in
    let g = got_number (λ r. list_of rings r 0 counts) 0 rings k v.0.items (ap (λ ls. slice_get ls k) (sym are) ∙ got_map (λ (list : Vec Feed Global). list.items) lists k v.0 v.1) in
    let n = ap length g.1 in
    let m = short_list rings (0 + k) counts in
    subst (λ (u : Vec Feed Global). length u.items < 2 ^ 32) (sym (got_or lists k v.0 d v.1)) (omega (arith, n, m, few))

-- the work that is handed over
pub same_work : {R : Type 0} (it : Work R) (squeues rings : ℕ) (counts : List ℕ) → it.conns ≡ length counts → map (λ quotas. pairs quotas.items) it.quotas.items ≡ key_quotas squeues (map (λ list. list.items) it.lists.items)
    → map (λ list. list.items) it.lists.items ≡ key_lists rings counts → it.calls.items ≡ [] → work_of it ≡ key_work squeues rings counts it.residents.items
same_work it squeues rings counts conns quotas lists none = λ i. record {
  conns = conns i;
  residents = it.residents.items;
  quotas = (quotas ∙ ap (key_quotas squeues) lists) i;
  lists = lists i;
  calls = ap (map (λ (v : Vec ℕ Global). v.items)) none i;
}

module _ {R P O : Type 0} (G : Ghosts R P O) (pool : Pool) (counts : List ℕ) (residents : List R) (some_rings : 1 ≤ pool.rings) (stays : pool.pace.homes.spread ≡ 0) (few : sum counts ≤ 2 ^ 30) (have : HaveKeys G pool.pace.homes.squeues counts residents) where
  abbrev squeues : ℕ
  squeues = pool.pace.homes.squeues

  abbrev rings : ℕ
  rings = pool.rings

  abbrev lists : List (List Feed)
  lists = key_lists rings counts

  abbrev w : WorkOf R
  w = key_work squeues rings counts residents

  list_at : (r : ℕ) (list : List Feed) → slice_get lists r ≡ Some list → (r < rings) × (list ≡ list_of rings r 0 counts)
  list_at r list at = let g = got_number (λ r. list_of rings r 0 counts) 0 rings r list at in let z : 0 + r ≡ r = omega arith in (g.0, g.1 ∙ ap (λ (k : ℕ). list_of rings k 0 counts) z)

  lists_count : length lists ≡ rings
  lists_count = length-map-range_with_len (λ r. list_of rings r 0 counts) 0 rings

  squeue_suits : (q : ℕ) (first : R) (qs : List (ℕ × ℕ)) → slice_get residents q ≡ Some first → slice_get (key_quotas squeues lists) q ≡ Some qs → SuitsSqueue G pool 0 q first qs
  squeue_suits q first qs there at =
      let g = got_number (quotas_at squeues lists) 0 squeues q qs at in
      let z : 0 + q ≡ q = omega arith in
      let are : qs ≡ quotas_at squeues lists q = g.1 ∙ ap (quotas_at squeues lists) z in
      record {
        passes = let n = ap length are ∙ (length-map lists (λ list. (count (is_at squeues 0 q) list, 0)) ∙ lists_count) in omega (arith, n);
        feeds = let n = ap feed_quotas are in let m = few_quotas squeues q rings counts in omega (arith, n, m, few);
        asks = let n = ap ask_quotas are ∙ no_asks squeues q lists in omega (arith, n);
        stands = subst (λ (n : ℕ). G.stands first (first_here n q squeues)) (sym (have.sizes q first there)) (have.stand q first there);
      }

  module _ (r : ℕ) (list : List Feed) (q : ℕ) (s : Named R) (at : slice_get lists r ≡ Some list) (is : IsFor G pool residents (key_quotas squeues lists) q s) where
    lt : q < squeues
    lt = let n = slice_get_within residents q s.given.first is.first in omega (arith, n, have.residents_are)

    quotas_are : s.given.quotas ≡ quotas_at squeues lists q
    quotas_are = let z : 0 + q ≡ q = omega arith in ap (λ (S : Setting). S.quotas) is.setting ∙ (number_at (quotas_at squeues lists) 0 squeues q [] lt ∙ ap (quotas_at squeues lists) z)

    its_feeds : (slice_index_or s.given.quotas r (0, 0)).0 ≡ count (is_at squeues 0 q) list
    its_feeds =
        ap (λ (qs : List (ℕ × ℕ)). (slice_index_or qs r (0, 0)).0) quotas_are
        ∙ ap (λ (x : ℕ × ℕ). x.0) (got_or (quotas_at squeues lists q) r (count (is_at squeues 0 q) list, 0) (0, 0) (got_map (λ list. (count (is_at squeues 0 q) list, 0)) lists r list at))

    its_size : length s.given.starts ≡ length counts
    its_size = ap (λ (S : Setting). length S.starts) is.setting ∙ (length-map-range_with_len (λ c. c % squeues == q) 0 (G.size s.given.first) ∙ have.sizes q s.given.first is.first)

    its_rings : s.given.rings ≡ rings
    its_rings = ap (λ (S : Setting). S.rings) is.setting

    list_is : list ≡ list_of rings r 0 counts
    list_is = (list_at r list at).1

    may_stay : MayBring G.limits squeues 0 r list s
    may_stay =
        let same = ap (λ (k : ℕ). count (is_at squeues 0 k) list) is.number in
        record {
          no_worker = let n = ap length quotas_are ∙ (length-map lists (λ list. (count (is_at squeues 0 q) list, 0)) ∙ lists_count) in let below = (list_at r list at).0 in omega (arith, n, below);
          feeds = let f = its_feeds in omega (arith, f, same);
          asks = omega (arith, none_leave squeues s.given.number list, none_come squeues s.given.number list);
          leaving = λ c. omega (arith, none_left_by squeues c s.given.number list);
          within = λ c. subst (λ (f : List ℕ). brought c list ≤ slice_index f c) (sym (have.feeds q s.given.first is.first)) (subst (λ fs. brought c fs ≤ slice_index counts c) (sym list_is) (within rings r c counts));
          own = subst (λ fs. Each (λ (f : Feed). (r ≡ f.c % s.given.rings) × (f.c < length s.given.starts)) fs) (sym list_is)
              (subst (λ (m : ℕ). Each (λ (f : Feed). (r ≡ f.c % m) × (f.c < length s.given.starts)) (list_of rings r 0 counts)) (sym its_rings) (own rings r (length s.given.starts) 0 counts (let n = its_size in omega (arith, n))));
        }

    may_bring : MayBring G.limits squeues pool.pace.homes.spread r list s
    may_bring = subst (λ (n : ℕ). MayBring G.limits squeues n r list s) (sym stays) may_stay

  pub keys_suit : Suits G pool w
  keys_suit =
      record {
        squeues = record { residents_are = have.residents_are; quotas_are = length-map-range_with_len (quotas_at squeues lists) 0 squeues; each = squeue_suits };
        sizes = have.sizes;
        same_origin = have.same_origin;
        lists = lists_count;
        short_lists = λ r list at. let n = ap length (list_at r list at).1 in let m = short_list rings r counts in omega (arith, n, m, few);
        order = λ r list at. subst (λ fs. InOrder fs) (sym (list_at r list at).1) (in_order rings r counts);
        bring = may_bring;
        short_calls = λ j. omega arith;
        make = λ j k c q s at is. cc at;
      }

  module _ (vs : List (Left R)) (ran : HasRun G pool w vs) (c : ℕ) (v : Left R) (lt : c < length counts) (at : slice_get vs (c % squeues) ≡ Some v) where
    abbrev r : ℕ
    r = c % rings

    list_here : list_for lists rings c ≡ list_of rings r 0 counts
    list_here = let z : 0 + r ≡ r = omega arith in number_at (λ r. list_of rings r 0 counts) 0 rings r [] (mod-lt c some_rings) ∙ ap (λ (k : ℕ). list_of rings k 0 counts) z

    stays_there : (list : List Feed) → place squeues pool.pace.homes.spread c list ≡ c % squeues
    stays_there list = ap (λ (n : ℕ). place squeues n c list) stays

    all_brought : brought c (list_for lists rings c) ≡ slice_index counts c
    all_brought = ap (brought c) list_here ∙ has_all rings c counts r refl

    once : IsHereOnce (ends_of vs) c (c % squeues) (slice_index counts c)
    once = subst (λ (q : ℕ). IsHereOnce (ends_of vs) c q (slice_index counts c)) (stays_there (list_for lists rings c)) (subst (IsHereOnce (ends_of vs) c (place squeues pool.pace.homes.spread c (list_for lists rings c))) all_brought (ran.here c lt))

    end_is : once.end ≡ v.end
    end_is = let both : Some once.end ≡ Some v.end = sym once.is_end ∙ got_map (λ (v : Left R). v.end) vs (c % squeues) v at in cc both

    stands : G.stands v.resident (peri v.end.setting v.end.history)
    stands =
        let first = some_at residents (c % squeues) (let m = mod-lt c pool.pace.homes.some in omega (arith, m, have.residents_are)) in
        (ran.each (c % squeues) first.0 v first.1 at).stands

    here : is_here (run v.end.setting v.end.history) c ≡ true
    here = subst (λ (e : Ending). is_here (run e.setting e.history) c ≡ true) end_is once.here

    pub had_all : HadFeeds (G.stands v.resident) c (slice_index counts c)
    had_all =
        record {
          blocks = peri v.end.setting v.end.history;
          had = acts v.end.setting v.end.history c;
          stands = stands;
          here = ap (λ (b : Bool). if b then Some (acts v.end.setting v.end.history c) else None) here;
          feeds = subst (λ (e : Ending). fed (acts e.setting e.history c) ≡ slice_index counts c) end_is once.feeds;
        }
