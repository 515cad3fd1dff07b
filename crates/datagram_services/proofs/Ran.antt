-- What a run over the streams of a plan leaves: histories that fit, and the block of each stream with all its items served.
use Rattle.std.proofs.Common.{◌≡◌, ℕ, ◌+◌, ◌%◌, ◌<◌, ◌≤◌, ◌==◌, true, false, zero, suc, Some, List, [], ◌∷◌, length, map, slice_get, slice_index, slice_index_or, refl, ap, sym, ◌∙◌, subst, arith, inl, inr}
use Rattle.std.specs.List.{range_with_len}
use Rattle.std.proofs.lemmas.Bool.{cases_eq}
use Rattle.std.proofs.lemmas.List.{length-map}
use Rattle.std.proofs.lemmas.Option.{slice_get_within}
use Rattle.std.proofs.Math.Nat.{mod-lt}
use Rattle.perimeter_core.specs.declared.entries.Feed.{Feed}
use Rattle.perimeter_core.specs.Deeds.{acts, fed}
use Rattle.histories.specs.Endings.{Ending}
use Rattle.histories.proofs.ListPlaces.{some_at}
use Rattle.histories.specs.Keeping.{KeepsPace}
use Rattle.histories.specs.Runs.{brought, place}
use Rattle.histories.proofs.ListPlaces.{got_map}
use Rattle.squeue_pool.specs.declared.pool.Pool.{Pool}
use Rattle.squeue_pool.specs.declared.work.Left.{Left}
use Rattle.squeue_pool.specs.Keys.{key_lists, quotas_at}
use Rattle.squeue_pool.specs.Runs.{IsHereOnce, IsLeft, ends_of, list_for}
use Rattle.squeue_pool.specs.Works.{WorkOf}
use Rattle.squeue_pool.proofs.Made.{number_at}
use Rattle.squeue_pool.specs.Finishing.{FinishedOf, HasFinished, LayIn}
use Rattle.ring_quotas.specs.declared.setup.Setup.{Setup}
use Rattle.histories.specs.Lists.{list_of}
use Rattle.histories.proofs.RingLists.{has_all}
use Rattle.stream_plan.specs.Streams.{MorePlanOf, StreamOf, item_count}
use Rattle.datagram_services.specs.contracts.blocks.StreamBlocksResident.TheImpl.{ghosts}
use Rattle.datagram_services.specs.declared.block.StreamBlock.{StreamBlock}
use Rattle.datagram_services.specs.declared.blocks.StreamBlocks.{StreamBlocks}
use Rattle.datagram_services.specs.Items.{all_served, served}
use Rattle.datagram_services.specs.Standing.{HasServed, IsPartOf, served_of}
use Rattle.datagram_services.proofs.Placing.{had_is}
use Rattle.datagram_services.specs.Fits.{Fits, HistoryFits, counts_of, setting_at}
use Rattle.squeue_pool.specs.Keeping.{PassesKeep}
use Rattle.datagram_services.specs.Lying.{AreThere, HandsOut}
use Rattle.datagram_services.specs.Served.{HasMoreServed, IsMoreServed, MoreServedOf}
use Rattle.datagram_services.specs.Work.{IsFirst, IsWorkFor}
use Rattle.datagram_services.proofs.Suits.{its_limits}

count_of : (ss : List StreamOf) (c : ℕ) (s : StreamOf) → slice_get ss c ≡ Some s → slice_index (map item_count ss) c ≡ item_count s
count_of [] c s e = absurd (let no : ⊥ = cc in no)
count_of (x ∷ ss) zero s e = let same : x ≡ s = cc in ap item_count same
count_of (x ∷ ss) (suc c) s e = count_of ss c s e

-- a block that has had all its items, and for which no memory was missing, is what all items leave
whole_served : (p : MorePlanOf) (c : ℕ) (s : StreamOf) (k : StreamBlock) → slice_get p.streams c ≡ Some s → IsPartOf p c k → k.had ≡ item_count s → k.short ≡ false → served_of k ≡ all_served p.file s
whole_served p c s k stream part had whole = let h : HasServed p.file s k = part s stream whole in h.same ∙ ap (served p.file s) had

-- lists that agree by number
same_list : {A : Type 0} (xs ys : List A) → length xs ≡ length ys → ((k : ℕ) (y : A) → slice_get ys k ≡ Some y → slice_get xs k ≡ Some y) → xs ≡ ys
same_list [] [] n h = refl
same_list [] (y ∷ ys) n h = absurd (omega (arith, n))
same_list (x ∷ xs) [] n h = absurd (omega (arith, n))
same_list (x ∷ xs) (y ∷ ys) n h =
    let first : x ≡ y = (let e : Some x ≡ Some y = h 0 y refl in cc e) in
    let rest : xs ≡ ys = same_list xs ys (omega (arith, n)) (λ k z is. h (suc k) z is) in
    (λ i. first i ∷ rest i)

differ : true ≡ false → ⊥
differ e = cc e

module _ (p : MorePlanOf) (pool : Pool) (w : WorkOf StreamBlocks) (work : IsWorkFor p pool.pace.homes.squeues pool.rings w) (still : pool.pace.homes.spread ≡ 0) (rings_are : 1 ≤ pool.rings) (f : FinishedOf StreamBlock) (done : HasFinished ghosts pool w f) where
  abbrev squeues : ℕ
  squeues = pool.pace.homes.squeues

  abbrev rings : ℕ
  rings = pool.rings

  abbrev lists : List (List Feed)
  lists = key_lists rings (counts_of p)

  conns_are : w.conns ≡ length p.streams
  conns_are = ap (λ (w : WorkOf StreamBlocks). w.conns) work.by_key ∙ length-map p.streams item_count

  abbrev vs : List (Left StreamBlocks)
  vs = done.left

  abbrev es : List Ending
  es = ends_of vs

  counted : length es ≡ length vs
  counted = length-map vs (λ (v : Left StreamBlocks). v.end)

  -- the resident with which the squeue began that left this
  record Of (q : ℕ) (v : Left StreamBlocks) : Type 0 where
    first : StreamBlocks
    is_first : IsFirst p squeues q first
    left : IsLeft ghosts pool w q first v

  of : (q : ℕ) (v : Left StreamBlocks) → slice_get vs q ≡ Some v → Of q v
  of q v at =
      let a = some_at w.residents q (omega (arith, slice_get_within vs q v at, done.ran.count, work.count)) in
      record { first = a.0; is_first = work.first q a.0 a.1; left = done.ran.each q a.0 v a.1 at }

  end_at : (q : ℕ) (v : Left StreamBlocks) → slice_get vs q ≡ Some v → slice_get es q ≡ Some v.end
  end_at q v at = got_map (λ (v : Left StreamBlocks). v.end) vs q v at

  by_end : (q : ℕ) (e : Ending) → slice_get es q ≡ Some e → (v : Left StreamBlocks) × (slice_get vs q ≡ Some v) × (v.end ≡ e)
  by_end q e at =
      let a = some_at vs q (omega (arith, slice_get_within es q e at, counted)) in
      let both : Some a.0.end ≡ Some e = sym (end_at q a.0 a.1) ∙ at in
      (a.0, a.1, cc both)

  its_setting : (q : ℕ) (v : Left StreamBlocks) (at : slice_get vs q ≡ Some v) → v.end.setting ≡ setting_at p squeues rings q
  its_setting q v at =
      let o = of q v at in
      let first = Of.is_first o in
      let z : 0 + q ≡ q = omega arith in
      let quotas : slice_index_or w.quotas q [] ≡ quotas_at squeues lists q =
      ap (λ (w : WorkOf StreamBlocks). slice_index_or w.quotas q []) work.by_key
      ∙ (number_at (quotas_at squeues lists) 0 squeues q [] (omega (arith, slice_get_within vs q v at, done.ran.count)) ∙ ap (quotas_at squeues lists) z) in
      let limits = its_limits p squeues q (Of.first o) first in
      (Of.left o).setting ∙ (λ i. record { rings = rings; quotas = quotas i; starts = map (λ c. c % squeues == q) (range_with_len 0 (first.size i)); limits = limits i })

  -- the feeds of a stream in its ring's list
  module _ (c : ℕ) (s : StreamOf) (stream : slice_get p.streams c ≡ Some s) where
    known : c < w.conns
    known = omega (arith, slice_get_within p.streams c s stream, conns_are)

    list_is : list_for w.lists rings c ≡ list_of rings (c % rings) 0 (counts_of p)
    list_is =
        let z : 0 + c % rings ≡ c % rings = omega arith in
        ap (λ (w : WorkOf StreamBlocks). slice_index_or w.lists (c % rings) []) work.by_key
        ∙ (number_at (λ r. list_of rings r 0 (counts_of p)) 0 rings (c % rings) [] (mod-lt c rings_are) ∙ ap (λ (k : ℕ). list_of rings k 0 (counts_of p)) z)

    all_brought : brought c (list_for w.lists rings c) ≡ item_count s
    all_brought = ap (brought c) list_is ∙ (has_all rings c (counts_of p) (c % rings) refl ∙ count_of p.streams c s stream)

    pub here : IsHereOnce es c (c % squeues) (item_count s)
    here =
        let once = done.ran.here c known in
        subst (λ (n : ℕ). IsHereOnce es c (c % squeues) n) all_brought
        (subst (λ (k : ℕ). IsHereOnce es c (place squeues k c (list_for w.lists rings c)) (brought c (list_for w.lists rings c))) still once)

    -- the block at its place, which lay in what one squeue left
    pub lay : (k : StreamBlock) × (slice_get f.parts c ≡ Some (Some k)) × LayIn ghosts vs c k
    lay = done.each c known

    abbrev in_it : LayIn ghosts vs c lay.0
    in_it = lay.2

    abbrev final : Ending
    final = in_it.left.end

    final_at : slice_get es in_it.q ≡ Some final
    final_at = end_at in_it.q in_it.left in_it.is_left

    -- it is here after that history and no other
    at_home : in_it.q ≡ c % squeues
    at_home = elim (cases_eq in_it.q (c % squeues)) [
      | inl same ↦ same
      | inr apart ↦ absurd (differ (sym in_it.here ∙ here.nowhere_else in_it.q final apart final_at))
    ]

    same_end : here.end ≡ final
    same_end = let both : Some here.end ≡ Some final = sym here.is_end ∙ (ap (slice_get es) (sym at_home) ∙ final_at) in cc both

    pub part : IsPartOf p c lay.0
    part =
        let o = of in_it.q in_it.left in_it.is_left in
        subst (λ (o : MorePlanOf). IsPartOf o c lay.0) ((Of.left o).origin ∙ (Of.is_first o).origin) in_it.own

    -- it has had all items
    pub had : lay.0.had ≡ item_count s
    had = sym (had_is lay.0 (acts final.setting final.history c) in_it.stands) ∙ subst (λ (e : Ending). fed (acts e.setting e.history c) ≡ item_count s) same_end here.feeds

  -- a block lies at each place
  pub filled : AreThere f.parts
  filled c lt = let l = done.each c (omega (arith, lt, done.count)) in (l.0, l.1)

  module _ (setup : Setup) (squeues_are : squeues ≡ setup.squeues) (rings_same : rings ≡ setup.rings) (mode_is : pool.pace.mode ≡ setup.mode) (budget_is : pool.pace.budget ≡ setup.budget) where
    one_fits : (q : ℕ) (e : Ending) → slice_get es q ≡ Some e → HistoryFits p setup q e
    one_fits q e there =
        let v = by_end q e there in
        let left = Of.left (of q v.0 v.1) in
        subst (HistoryFits p setup q) v.2
        (record {
          number = left.number;
          setting = its_setting q v.0 v.1 ∙ (λ i. setting_at p (squeues_are i) (rings_same i) q);
          ended = left.ended;
          keeps = λ r below.
              let k = left.keeps r (omega (arith, below, rings_same)) in
              subst (λ (n : ℕ). KeepsPace n 0 setup.mode setup.budget q v.0.end.setting r v.0.end.history) squeues_are
              (subst (λ (n : ℕ). KeepsPace squeues n setup.mode setup.budget q v.0.end.setting r v.0.end.history) still
              (subst (λ (n : ℕ). KeepsPace squeues pool.pace.homes.spread setup.mode n q v.0.end.setting r v.0.end.history) budget_is
              (subst (λ m. KeepsPace squeues pool.pace.homes.spread m pool.pace.budget q v.0.end.setting r v.0.end.history) mode_is k)));
        })

    pub fits : Fits p setup es
    fits =
        record {
          count = counted ∙ (done.ran.count ∙ squeues_are);
          each = one_fits;
          here = λ c s stream. subst (λ (k : ℕ). IsHereOnce es c (c % k) (item_count s)) squeues_are (here c s stream);
        }

    all_keep : (q : ℕ) (e : Ending) → slice_get es q ≡ Some e → PassesKeep setup.mode e
    all_keep q e there = subst (λ m. PassesKeep m e) mode_is (done.ran.keep q e there)

    -- what is handed out holds the blocks as they lie
    module _ (v : MoreServedOf) (held : HandsOut f v) where
      served_at : (c : ℕ) (s : StreamOf) → slice_get p.streams c ≡ Some s → slice_get v.streams c ≡ Some (all_served p.file s)
      served_at c s stream =
          let k = lay c s stream in
          let e = held.each c k.0 k.1 in
          e.0 ∙ ap Some (whole_served p c s k.0 stream (part c s stream) (had c s stream) e.1)

      all_streams : IsMoreServed p v.streams
      all_streams =
          let n = length-map p.streams (all_served p.file) in
          same_list v.streams (map (all_served p.file) p.streams) (omega (arith, held.count, done.count, conns_are, n))
          (λ c y is.
          let lt : c < length p.streams = (let m = slice_get_within (map (all_served p.file) p.streams) c y is in omega (arith, m, n)) in
          let s = some_at p.streams c lt in
          let same : Some (all_served p.file s.0) ≡ Some y = sym (got_map (all_served p.file) p.streams c s.0 s.1) ∙ is in
          served_at c s.0 s.1 ∙ same)

      pub has_served : HasMoreServed p setup v
      has_served =
          let same : es ≡ v.ended = sym (held.ended ∙ done.ended) in
          record {
            fits = subst (Fits p setup) same fits;
            keep = subst (λ (hs : List Ending). (q : ℕ) (e : Ending) → slice_get hs q ≡ Some e → PassesKeep setup.mode e) same all_keep;
            served = all_streams;
          }
