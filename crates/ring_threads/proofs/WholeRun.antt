-- From the whole of the histories, and the blocks that lay in what the squeues left, to what was served.
use Rattle.std.proofs.Common.{◌≡◌, ℕ, ◌%◌, ◌<◌, ◌≤◌, ◌==◌, zero, suc, true, false, if◌then◌else◌, Option, Some, Result, Ok, Err, IfOk, List, [], ◌∷◌, length, inl, inr, map, slice_get, refl, ap, sym, ◌∙◌, subst, arith, eq-eqb}
use Rattle.std.specs.Prelude.{Box, IfSome}
use Rattle.std.specs.Option.{option_map, option_map_or}
use Rattle.std.specs.List.{range_with_len}
use Rattle.std.specs.declared.alloc.Global.{Global}
use Rattle.std.proofs.lemmas.Bool.{cases_eq}
use Rattle.std.proofs.lemmas.List.{length-map}
use Rattle.std.proofs.lemmas.Option.{slice_get-map, slice_get_within}
use Rattle.std.proofs.Math.Nat.{mod-lt}
use Rattle.perimeter_core.specs.declared.entries.Act.{Act}
use Rattle.perimeter_core.specs.Deeds.{acts, fed, feed_numbers}
use Rattle.histories.specs.Endings.{Ending}
use Rattle.squeue_state.specs.Told.{Traced, marks_of}
use Rattle.histories.specs.Stays.{AreLinked}
use Rattle.histories.proofs.ListPlaces.{some_at, got_map}
use Rattle.squeue_rings.specs.Made.{once_on}
use Rattle.histories.specs.Noted.{AreNoted}
use Rattle.histories.specs.Runs.{brought, place}
use Rattle.squeue_rings.proofs.Works.{got_or}
use Rattle.squeue_pool.specs.declared.pool.Pool.{Pool}
use Rattle.squeue_pool.specs.declared.work.Left.{Left}
use Rattle.squeue_pool.specs.Runs.{IsLeft, ends_of, list_for, made_in_all}
use Rattle.squeue_pool.specs.Runs.{IsHereOnce as IsHereAlone}
use Rattle.squeue_pool.specs.Works.{WorkOf}
use Rattle.squeue_pool.specs.Finishing.{FinishedOf, HasFinished, LayIn}
use Rattle.conn_classifier.specs.Plan.{PlanOf, IsPlan, items_in}
use Rattle.conn_blocks.specs.contracts.blocks.BlocksResident.TheImpl.{ghosts}
use Rattle.conn_blocks.specs.declared.blocks.Blocks.{Blocks}
use Rattle.conn_blocks.specs.CallLists.{CallLists, call_at, calls_of}
use Rattle.conn_blocks.specs.Holding.{StandsFor}
use Rattle.conn_blocks.specs.Orders.{IsAll, IsWhole, settle}
use Rattle.conn_blocks.specs.ServeOrder.{BlockOf, ConnectionOf, OriginOf, serve, serving_of}
use Rattle.conn_blocks.proofs.Conns.{conns_of_thread}
use Rattle.ring_threads.proofs.Totals.{whole}
use Rattle.ring_threads.proofs.AllActs.{are_all}
use Rattle.squeue_pool.proofs.Called.{calls_of_all}
use Rattle.ring_threads.proofs.Ends.{numbered}
use Rattle.ring_quotas.specs.Fits.{HistoryFits}
use Rattle.histories.specs.Fitting.{IsHereOnce}
use Rattle.ring_threads.specs.Served.{HasServed, ServedOf}
use Rattle.conn_blocks.specs.ServedBlocks.{IsServing}
use Rattle.ring_threads.specs.Working.{IsFirst, IsWorkFor, setup_of}
use Rattle.ring_threads.proofs.Suiting.{same_setting}

got_first : {A B : Type 0} (f : A → B) (g : B → ℕ) (xs : List A) (k d : ℕ) → option_map_or g (slice_get (map f xs) k) d ≡ option_map_or (λ x. g (f x)) (slice_get xs k) d
got_first f g [] k d = refl
got_first f g (x ∷ xs) zero d = refl
got_first f g (x ∷ xs) (suc k) d = got_first f g xs k d

differ : true ≡ false → ⊥
differ e = cc e

module _ (p : PlanOf) (calls : CallLists) (pool : Pool) (w : WorkOf Blocks) (is : IsWorkFor p calls (setup_of pool) w) (plan : IsPlan p) (some_rings : 1 ≤ pool.rings) (f : FinishedOf (Box BlockOf Global)) (done : HasFinished ghosts pool w f)
    (is_whole : (p : PlanOf) (calls : CallLists) (c : ℕ) (acts : List Act) → IsAll p calls c acts → IsWhole p calls c (settle calls c acts))
    (serves_settled : (p : PlanOf) (calls : CallLists) (c : ℕ) (came : List Act) (b : BlockOf) → StandsFor p calls c came b → b.short ≡ false → serving_of b ≡ serve p calls c (settle calls c came)) where
  abbrev n : ℕ
  n = length p.tuples

  abbrev vs : List (Left Blocks)
  vs = done.left

  abbrev es : List Ending
  es = ends_of vs

  abbrev ts : List Traced
  ts = map (λ v. v.trace) vs

  counted : length es ≡ length vs
  counted = length-map vs (λ (v : Left Blocks). v.end)

  known : (c : ℕ) → c < n → c < w.conns
  known c lt = omega (arith, lt, is.conns)

  -- the blocks with which the squeue began that left this, and what is known of it
  record Of (q : ℕ) (v : Left Blocks) : Type 0 where
    first : Blocks
    at : slice_get w.residents q ≡ Some first
    made : IsFirst p calls (setup_of pool) q first
    left : IsLeft ghosts pool w q first v

  of : (q : ℕ) (v : Left Blocks) → slice_get vs q ≡ Some v → Of q v
  of q v at =
      let a = some_at w.residents q (omega (arith, slice_get_within vs q v at, done.ran.count, is.residents.count)) in
      record { first = a.0; at = a.1; made = is.residents.each q a.0 a.1; left = done.ran.each q a.0 v a.1 at }

  end_at : (q : ℕ) (v : Left Blocks) → slice_get vs q ≡ Some v → slice_get es q ≡ Some v.end
  end_at q v at = got_map (λ (v : Left Blocks). v.end) vs q v at

  by_end : (q : ℕ) (e : Ending) → slice_get es q ≡ Some e → (v : Left Blocks) × (slice_get vs q ≡ Some v) × (v.end ≡ e)
  by_end q e at =
      let a = some_at vs q (omega (arith, slice_get_within es q e at, counted)) in
      let both : Some a.0.end ≡ Some e = sym (end_at q a.0 a.1) ∙ at in
      (a.0, a.1, cc both)

  fits : (q : ℕ) (e : Ending) → slice_get es q ≡ Some e → HistoryFits p calls (setup_of pool) q e
  fits q e at =
      let v = by_end q e at in
      let o = of q v.0 v.1 in
      let left = Of.left o in
      subst (HistoryFits p calls (setup_of pool) q) v.2
      (record { number = left.number; setting = left.setting ∙ same_setting p calls pool w is q (Of.first o) (Of.at o); ended = left.ended; keeps = left.keeps })

  linked : AreLinked n es
  linked = subst (λ (m : ℕ). AreLinked m es) is.conns done.ran.linked

  noted : (c : ℕ) → c < n → AreNoted pool.pace.homes.spread es c
  noted c lt = done.ran.noted c (known c lt)

  -- how often a call was made in all histories
  made_as_asked : (c j k : ℕ) → made_in_all c j k es ≡ option_map_or (λ x. if x.0 == c then 1 else 0) (call_at calls j k) 0
  made_as_asked c j k =
      done.ran.called c j k
      ∙ (ap (λ (cs : List ℕ). once_on cs c k) (conns_of_thread calls w.calls j is.calls_are)
      ∙ got_first (λ x. x.0) (λ d. if d == c then 1 else 0) (calls_of calls j) k 0)

  -- the ring of a connection brought all its items
  brought_all : (c : ℕ) → c < n → brought c (list_for w.lists pool.rings c) ≡ length (items_in p c)
  brought_all c lt =
      let r : ℕ = c % pool.rings in
      let l = some_at w.lists r (omega (arith, mod-lt c some_rings, is.lists.count)) in
      ap (brought c) (got_or w.lists r l.0 [] l.1) ∙ whole p plan pool.rings r l.0 (is.lists.each r l.0 l.1) c lt (eq-eqb r r refl)

  module _ (c : ℕ) (lt : c < n) where
    lay : (b : Box BlockOf Global) × (slice_get f.parts c ≡ Some (Some b)) × LayIn ghosts vs c b
    lay = done.each c (known c lt)

    abbrev b : BlockOf
    b = lay.0.value

    abbrev in_it : LayIn ghosts vs c lay.0
    in_it = lay.2

    abbrev final : Ending
    final = in_it.left.end

    abbrev came : List Act
    came = acts final.setting final.history c

    final_at : slice_get es in_it.q ≡ Some final
    final_at = end_at in_it.q in_it.left in_it.is_left

    abbrev last : ℕ
    last = place pool.pace.homes.squeues pool.pace.homes.spread c (list_for w.lists pool.rings c)

    alone : IsHereAlone es c last (brought c (list_for w.lists pool.rings c))
    alone = done.ran.here c (known c lt)

    -- it is here after that history and no other
    at_last : in_it.q ≡ last
    at_last = elim (cases_eq in_it.q last) [
      | inl same ↦ same
      | inr apart ↦ absurd (differ (sym in_it.here ∙ alone.nowhere_else in_it.q final apart final_at))
    ]

    same_end : alone.end ≡ final
    same_end = let both : Some alone.end ≡ Some final = sym alone.is_end ∙ (ap (slice_get es) (sym at_last) ∙ final_at) in cc both

    once : IsHereOnce es c came
    once =
        record {
          squeue = in_it.q;
          end = final;
          is_end = final_at;
          here = in_it.here;
          acts_are = refl;
          nowhere_else = λ q e apart at. alone.nowhere_else q e (λ i. apart (i ∙ sym at_last)) at;
        }

    stands : StandsFor p calls c came b
    stands =
        let o = of in_it.q in_it.left in_it.is_left in
        subst (λ (o : OriginOf). StandsFor o.plan o.calls c came b) ((Of.left o).origin ∙ (Of.made o).origin)
        (subst (λ (o : ConnectionOf). StandsFor o.plan o.calls o.c came b) in_it.own in_it.stands)

    fed_all : feed_numbers came ≡ range_with_len 0 (length (items_in p c))
    fed_all =
        let fed_last = subst (λ (e : Ending). fed (acts e.setting e.history c) ≡ brought c (list_for w.lists pool.rings c)) same_end alone.feeds in
        numbered p calls c came b stands ∙ ap (range_with_len 0) (fed_last ∙ brought_all c lt)

    -- the block has its acts, and they are all that there are
    all : IsAll p calls c came
    all = are_all p calls c came fed_all (λ j k. calls_of_all n es c in_it.q final j k linked lt final_at in_it.here ∙ made_as_asked c j k)

    order_whole : IsWhole p calls c b.order
    order_whole = subst (IsWhole p calls c) (sym stands.order) (is_whole p calls c came all)

    is_serving : b.short ≡ false → IsServing p calls c b
    is_serving full = record { whole = full; served = serves_settled p calls c came b stands full ∙ ap (serve p calls c) (sym stands.order) }

  -- a block lies at each place
  pub filled : (c : ℕ) → c < length f.parts → (b : Box BlockOf Global) × (slice_get f.parts c ≡ Some (Some b))
  filled c lt = let l = done.each c (omega (arith, lt, done.count)) in (l.0, l.1)

  -- each trace has the marks of its squeue's history, or nothing
  its_trace : (q : ℕ) (e : Ending) → slice_get es q ≡ Some e → IfSome (slice_get ts q) (λ t. marks_of t ≡ (if pool.trace then map (λ m. m.mark) e.history else []))
  its_trace q e at =
      let v = by_end q e at in
      let trace = got_map (λ (v : Left Blocks). v.trace) vs q v.0 v.1 in
      subst (λ (e : Ending). IfSome (slice_get ts q) (λ t. marks_of t ≡ (if pool.trace then map (λ m. m.mark) e.history else []))) v.2
      (subst (λ (o : Option Traced). IfSome o (λ t. marks_of t ≡ (if pool.trace then map (λ m. m.mark) v.0.end.history else []))) (sym trace) (Of.left (of q v.0 v.1)).trace)

  module _ (bs : List BlockOf) (count : length bs ≡ length f.parts) (each : (c : ℕ) (b : Box BlockOf Global) → slice_get f.parts c ≡ Some (Some b) → (slice_get bs c ≡ Some b.value) × (b.value.short ≡ false)) where
    got : (c : ℕ) (lt : c < n) → (slice_get bs c ≡ Some (b c lt)) × ((b c lt).short ≡ false)
    got c lt = each c (lay c lt).0 (lay c lt).1

    abbrev orders : List (List Act)
    orders = map (λ (d : BlockOf). d.order) bs

    -- the order of a connection
    order_at : (c : ℕ) (order : List Act) → slice_get orders c ≡ Some order → (lt : c < n) × ((b c lt).order ≡ order)
    order_at c order at =
        let lt : c < n = omega (arith, slice_get_within orders c order at, length-map bs (λ (d : BlockOf). d.order), count, done.count, is.conns) in
        let same : Some (b c lt).order ≡ Some order = sym (slice_get-map (λ (d : BlockOf). d.order) bs c ∙ ap (option_map (λ (d : BlockOf). d.order)) (got c lt).0) ∙ at in
        (lt, cc same)

    served : HasServed p calls (setup_of pool) (record { blocks = bs; ended = es; traces = ts })
    served =
        record {
          fits =
              record {
                count = counted ∙ done.ran.count;
                each = fits;
                linked = linked;
                noted = noted;
                settled = λ c order at. let o = order_at c order at in (came c o.0, once c o.0, sym o.1 ∙ (stands c o.0).order);
                whole = λ c order at. let o = order_at c order at in subst (IsWhole p calls c) o.1 (order_whole c o.0);
              };
          served =
              record {
                count = count ∙ (done.count ∙ is.conns);
                each = λ c lt. subst (λ (o : Option BlockOf). IfSome o (IsServing p calls c)) (sym (got c lt).0) (is_serving c lt (got c lt).1);
              };
          called = λ c j k lt. made_as_asked c j k;
          keep = done.ran.keep;
          traces = length-map vs (λ (v : Left Blocks). v.trace) ∙ sym counted;
          traced = its_trace;
        }

  -- the same of what is handed out, if anything is
  pub all_served : {E : Type 0} (r : Result ServedOf E) → IfOk r (λ v. v.ended ≡ f.ended) → IfOk r (λ v. v.traces ≡ f.traces) → IfOk r (λ v. length v.blocks ≡ length f.parts)
      → IfOk r (λ v. (c : ℕ) (b : Box BlockOf Global) → slice_get f.parts c ≡ Some (Some b) → (slice_get v.blocks c ≡ Some b.value) × (b.value.short ≡ false)) → IfOk r (HasServed p calls (setup_of pool))
  all_served (Ok v) ends traces count each =
      subst (λ (l : List Ending). HasServed p calls (setup_of pool) (record { blocks = v.blocks; ended = l; traces = v.traces })) (sym (ends ∙ done.ended))
      (subst (λ (l : List Traced). HasServed p calls (setup_of pool) (record { blocks = v.blocks; ended = es; traces = l })) (sym (traces ∙ done.traces)) (served v.blocks count each))
  all_served (Err e) ends traces count each = ends
