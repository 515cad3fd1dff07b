-- What is written out was served.
use Rattle.std.specs.Prelude.{◌≡◌, ℕ, ◌<◌, ◌==◌, Bool, true, false, List, [], ◌∷◌, length, map, slice_get, Some, IfSome, if◌then◌else◌}
use Rattle.std.proofs.Common.{refl, sym, subst, ◌∙◌, arith}
use Rattle.sq_base.specs.declared.kinds.Tuple.{Tuple}
use Rattle.capture_reader.specs.Outcome.{CaptureFile}
use Rattle.conn_classifier.specs.declared.kinds.Counts.{Counts}
use Rattle.conn_classifier.specs.declared.kinds.Item.{Item}
use Rattle.conn_classifier.specs.Plan.{PlanOf}
use Rattle.perimeter_core.specs.declared.entries.Act.{Act}
use Rattle.perimeter_core.specs.Perimeter.{is_here}
use Rattle.perimeter_core.specs.History.{Element, Setting, run}
use Rattle.perimeter_core.specs.Deeds.{acts}
use Rattle.perimeter_core.specs.Legal.{Legal}
use Rattle.perimeter_core.specs.Ending.{IsOver}
use Rattle.histories.specs.Endings.{Ending}
use Rattle.squeue_state.specs.Told.{Traced, marks_of}
use Rattle.histories.specs.declared.mode.Mode.TheVariants as Mode'
use Rattle.histories.specs.Keeping.{KeepsPace}
use Rattle.squeue_pool.specs.Keeping.{PassesKeep}
use Rattle.histories.specs.Stays.{AreLinked}
use Rattle.tcb_machine.specs.declared.kinds.Call.{Call}
use Rattle.std.specs.Option.{option_map_or}
use Rattle.conn_blocks.specs.CallLists.{CallLists, call_at}
use Rattle.conn_blocks.specs.Orders.{IsWhole, settle}
use Rattle.conn_blocks.specs.ServeOrder.{BlockOf}
use Rattle.squeue_pool.specs.Runs.{made_in_all}
use Rattle.ring_quotas.specs.Quotas.{setting_at}
use Rattle.ring_quotas.specs.declared.setup.Setup.{Setup}
use Rattle.ring_quotas.specs.Fits.{Fits, HistoryFits}
use Rattle.histories.specs.Fitting.{IsHereOnce}
use Rattle.ring_threads.specs.Served.{HasServed}
use Rattle.conn_blocks.specs.ServedBlocks.{AreServed, IsServing}
use Rattle.worked_runs.proofs.OneConnection.{Stayed, is_zero, linked, noted, only}
use Rattle.worked_runs.specs.OneSqueue.{plan, setup, setup_by, setting, history, ending, order, block, no_trace, only_block, served}

-- one block, that of the only connection
pub one_block : (p : PlanOf) (calls : CallLists) (b : BlockOf) → length p.tuples ≡ 1 → IsServing p calls 0 b → AreServed p calls (b ∷ [])
one_block p calls b one is = record {
  count = sym one;
  each = λ c lt. subst (λ k. IfSome (slice_get (b ∷ []) k) (IsServing p calls k)) (sym (is_zero c (omega (arith, lt, one)))) is;
}

module _ (p : PlanOf) (calls : CallLists) (S : Setting) (H : List Element) (had : List Act) where
  abbrev end : Ending
  end = record { number = 0; setting = S; history = H }

  -- what one sees of a run of one connection by computing it: its block has one stay, in which it had this order
  pub record Goes : Type 0 where
    pub one : length p.tuples ≡ 1
    pub stayed : Stayed S H had
    pub here : is_here (run S H) 0 ≡ true
    pub acts_are : had ≡ acts S H 0
    pub settles : had ≡ settle calls 0 had
    pub whole : IsWhole p calls 0 had
    pub called : (j k : ℕ) → made_in_all 0 j k (end ∷ []) ≡ option_map_or (λ (x : ℕ × Call). if x.0 == 0 then 1 else 0) (call_at calls j k) 0

  module _ (goes : Goes) (legal : Legal S H) (over : IsOver S (run S H)) (keeps : KeepsPace 1 0 Mode'.Process 64 0 S 0 H) (set : S ≡ setting_at p calls 1 1 0 0) (passes : PassesKeep Mode'.Process end) (traced : Bool) where
    abbrev its_setup : Setup
    its_setup = setup_by traced

    zeroth : (c : ℕ) → c < length p.tuples → c ≡ 0
    zeroth c lt = is_zero c (omega (arith, lt, goes.one))

    its_fit : HistoryFits p calls its_setup 0 end
    its_fit = record {
      number = refl;
      setting = set;
      ended = record { legal = legal; over = over };
      keeps = λ r lt. subst (λ k. KeepsPace 1 0 Mode'.Process 64 0 S k H) (sym (is_zero r lt)) keeps;
    }

    each : (q : ℕ) (e : Ending) → slice_get (end ∷ []) q ≡ Some e → HistoryFits p calls its_setup q e
    each q e at =
        let o = only end e q at in
        subst (λ k. HistoryFits p calls its_setup k e) (sym o.0) (subst (λ f. HistoryFits p calls its_setup 0 f) o.1 its_fit)

    once : IsHereOnce (end ∷ []) 0 had
    once = record {
      squeue = 0;
      end = end;
      is_end = refl;
      here = goes.here;
      acts_are = goes.acts_are;
      nowhere_else = λ q e other at. absurd (other (only end e q at).0);
    }

    fits : Fits p calls its_setup (end ∷ []) (had ∷ [])
    fits = record {
      count = refl;
      each = each;
      linked = subst (λ n. AreLinked n (end ∷ [])) (sym goes.one) (linked S H had goes.stayed legal);
      noted = λ c lt. noted S H had goes.stayed legal c (omega (arith, lt, goes.one));
      settled = λ c o at. let i = only had o c at in
          subst (λ k. (done : List Act) × IsHereOnce (end ∷ []) k done × (o ≡ settle calls k done)) (sym i.0)
          (had, once, sym i.1 ∙ goes.settles);
      whole = λ c o at. let i = only had o c at in subst (λ k. IsWhole p calls k o) (sym i.0) (subst (IsWhole p calls 0) i.1 goes.whole);
    }

    -- with this trace, which has the marks where they are kept
    pub has_served : (t : Traced) → marks_of t ≡ (if traced then map (λ m. m.mark) H else []) → (b : BlockOf) → b.order ≡ had → IsServing p calls 0 b
        → HasServed p calls its_setup (only_block b end t)
    has_served t told b same is = record {
      fits = subst (λ o. Fits p calls its_setup (end ∷ []) (o ∷ [])) (sym same) fits;
      served = one_block p calls b goes.one is;
      called = λ c j k lt. subst (λ d. made_in_all d j k (end ∷ []) ≡ option_map_or (λ (x : ℕ × Call). if x.0 == d then 1 else 0) (call_at calls j k) 0) (sym (zeroth c lt)) (goes.called j k);
      keep = λ q e at. subst (PassesKeep Mode'.Process) (only end e q at).1 passes;
      traces = refl;
      traced = λ q e at.
          let o = only end e q at in
          subst (λ k. IfSome (slice_get (t ∷ []) k) (λ u. marks_of u ≡ (if traced then map (λ m. m.mark) e.history else []))) (sym o.0)
          (subst (λ (f : Ending). marks_of t ≡ (if traced then map (λ m. m.mark) f.history else [])) o.1 told);
    }

pub settles : order ≡ settle [] 0 order
unfolding settle
settles = refl

-- its block is what one thread gives
module _ (file : CaptureFile) (counts : Counts) (t : Tuple) (x y : Item) where
  abbrev p : PlanOf
  p = plan file counts t x y

  is_serving : IsServing p [] 0 (block p)
  is_serving = record { whole = refl; served = refl }

  pub one_served : AreServed p [] (block p ∷ [])
  one_served = one_block p [] (block p) refl is_serving

  goes : Goes p [] setting history order
  goes = record {
    one = refl;
    stayed = record { starts = refl; one_stay = refl };
    here = refl;
    acts_are = refl;
    settles = settles;
    whole = record { feeds = refl; asked = λ j. refl };
    called = λ j k. refl;
  }

  pub is_served : Legal setting history → IsOver setting (run setting history) → KeepsPace 1 0 Mode'.Process 64 0 setting 0 history → setting ≡ setting_at p [] 1 1 0 0 → PassesKeep Mode'.Process ending → HasServed p [] setup (served p)
  is_served legal over keeps set passes = has_served p [] setting history order goes legal over keeps set passes false no_trace refl (block p) refl is_serving
