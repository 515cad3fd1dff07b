-- What is written out with a move was served.
use Rattle.std.specs.Prelude.{◌≡◌, ◌≢◌, ℕ, zero, suc, ◌+◌, ◌*◌, ◌/◌, ◌%◌, ◌<◌, ◌==◌, false, List, [], ◌∷◌, slice_get, Some, IfSome, if◌then◌else◌}
use Rattle.std.proofs.Common.{◌⊎◌, inl, inr, refl, sym, subst, ap, ◌∙◌, arith}
use Rattle.std.proofs.lemmas.Option.{slice_get_within}
use Rattle.sq_base.specs.declared.kinds.Tuple.{Tuple}
use Rattle.capture_reader.specs.Outcome.{CaptureFile}
use Rattle.conn_classifier.specs.declared.kinds.Counts.{Counts}
use Rattle.conn_classifier.specs.declared.kinds.Item.{Item}
use Rattle.conn_classifier.specs.Plan.{PlanOf}
use Rattle.perimeter_core.specs.declared.entries.Act.{Act}
use Rattle.perimeter_core.specs.declared.entries.Act.TheVariants as Did
use Rattle.perimeter_core.specs.Perimeter.{is_here}
use Rattle.perimeter_core.specs.History.{run, start}
use Rattle.perimeter_core.specs.Deeds.{fed}
use Rattle.perimeter_core.specs.Legal.{Legal}
use Rattle.perimeter_core.specs.Ending.{IsOver}
use Rattle.histories.specs.Endings.{Ending}
use Rattle.squeue_state.specs.Told.{marks_of}
use Rattle.histories.specs.declared.mode.Mode.TheVariants as Mode'
use Rattle.histories.specs.Keeping.{KeepsPace}
use Rattle.squeue_pool.specs.Keeping.{PassesKeep}
use Rattle.histories.specs.Noted.{AreNoted}
use Rattle.histories.specs.Stays.{AreLinked, IsLinked, StartsAtHome, Stay, all_in, ended_stay, stay, stays_in}
use Rattle.tcb_machine.specs.declared.kinds.Call.{Call}
use Rattle.std.specs.Option.{option_map_or}
use Rattle.conn_blocks.specs.CallLists.{call_at}
use Rattle.conn_blocks.specs.Orders.{IsWhole, settle}
use Rattle.squeue_pool.specs.Runs.{made_in_all}
use Rattle.ring_quotas.specs.Quotas.{setting_at}
use Rattle.ring_quotas.specs.Fits.{Fits, HistoryFits}
use Rattle.histories.specs.Fitting.{IsHereOnce}
use Rattle.ring_threads.specs.Served.{HasServed}
use Rattle.worked_runs.specs.OneSqueue.{plan, order, no_trace}
use Rattle.worked_runs.specs.TwoSqueues.{setup, first_setting, second_setting, first_history, second_history, first, second, both, served}
use Rattle.worked_runs.proofs.OneConnection.{is_zero, only}
use Rattle.worked_runs.proofs.Witness.{one_served, settles}

-- the places of a list of two
of_two : {A : Type 0} (x y z : A) (q : ℕ) → slice_get (x ∷ y ∷ []) q ≡ Some z → ((q ≡ 0) × (x ≡ z)) ⊎ ((q ≡ 1) × (y ≡ z))
of_two x y z zero e = inl (refl, cc e)
of_two x y z (suc zero) e = inr (refl, cc e)
of_two x y z (suc (suc q)) e = absurd (omega (arith, slice_get_within (x ∷ y ∷ []) (suc (suc q)) z e))

-- what holds of both holds of each
of_each : (P : ℕ → Ending → Type 0) → P 0 first → P 1 second → (q : ℕ) (e : Ending) → slice_get both q ≡ Some e → P q e
of_each P a b q e at =
    elim (of_two first second e q at) [
      | inl is ↦ subst (λ k. P k e) (sym is.0) (subst (λ f. P 0 f) is.1 a)
      | inr is ↦ subst (λ k. P k e) (sym is.0) (subst (λ f. P 1 f) is.1 b)
    ]

abbrev at_first : Stay
at_first = record { note = []; own = Did.Feed 0 ∷ []; had = Did.Feed 0 ∷ [] }

abbrev at_second : Stay
at_second = record { note = Did.Feed 0 ∷ []; own = Did.Feed 1 ∷ []; had = Did.Feed 0 ∷ Did.Feed 1 ∷ [] }

-- with two squeues, stay s is stay s / 2 of squeue s mod 2
parity : (s : ℕ) → (((0 + s) % 2 ≡ 0) × (s ≡ 2 * (s / 2))) ⊎ (((0 + s) % 2 ≡ 1) × (s ≡ 2 * (s / 2) + 1))
parity s = by ((0 + s) % 2) refl (omega arith) (omega arith)
  where
    by : (r : ℕ) → (0 + s) % 2 ≡ r → r < 2 → s ≡ 2 * (s / 2) + r → (((0 + s) % 2 ≡ 0) × (s ≡ 2 * (s / 2))) ⊎ (((0 + s) % 2 ≡ 1) × (s ≡ 2 * (s / 2) + 1))
    by zero e lt is = inl (e, omega (arith, is))
    by (suc zero) e lt is = inr (e, is)
    by (suc (suc r)) e lt is = absurd (omega (arith, lt))

-- there are two stays
the_stay : (s : ℕ) (v : Stay) → stay both 0 s ≡ Some v → ((s ≡ 0) × (at_first ≡ v)) ⊎ ((s ≡ 1) × (at_second ≡ v))
the_stay s v e =
    elim (parity s) [
      | inl even ↦
          let there : slice_get (at_first ∷ []) (s / 2) ≡ Some v = subst (λ k. slice_get (all_in (stays_in (slice_get both k) 0)) (s / 2) ≡ Some v) even.0 e in
          let o = only at_first v (s / 2) there in
          inl (omega (arith, o.0, even.1), o.1)
      | inr odd ↦
          let there : slice_get (at_second ∷ []) (s / 2) ≡ Some v = subst (λ k. slice_get (all_in (stays_in (slice_get both k) 0)) (s / 2) ≡ Some v) odd.0 e in
          let o = only at_second v (s / 2) there in
          inr (omega (arith, o.0, odd.1), o.1)
    ]

ended_first : ended_stay both 0 0 ≡ Some at_first
ended_first = refl

-- the second stay begins with what the first one ended with
its_link : IsLinked both 0
its_link s v e =
    elim (the_stay (s + 1) v e) [
      | inl is ↦ absurd (omega (arith, is.0))
      | inr is ↦
          let zeroth : s ≡ 0 = omega (arith, is.0) in
          (at_first, subst (λ k. ended_stay both 0 k ≡ Some at_first) (sym zeroth) ended_first, ap (λ (w : Stay). w.note) (sym is.1))
    ]

its_home : StartsAtHome both 0
its_home = of_each (λ q e. is_here (start e.setting) 0 ≡ (q == 0 % 2)) refl refl

its_notes : AreNoted 1 both 0
its_notes s v e =
    elim (the_stay s v e) [
      | inl is ↦ ap (λ (w : Stay). fed w.note) (sym is.1) ∙ sym (omega (arith, is.0))
      | inr is ↦ ap (λ (w : Stay). fed w.note) (sym is.1) ∙ sym (omega (arith, is.0))
    ]

once : IsHereOnce both 0 order
once = record {
  squeue = 1;
  end = second;
  is_end = refl;
  here = refl;
  acts_are = refl;
  nowhere_else = λ q e other at.
      of_each (λ k f. k ≢ 1 → is_here (run f.setting f.history) 0 ≡ false) (λ not. refl) (λ not. absurd (not refl)) q e at other;
}

none_called : (j k : ℕ) → made_in_all 0 j k both ≡ option_map_or (λ (x : ℕ × Call). if x.0 == 0 then 1 else 0) (call_at [] j k) 0
none_called j k = refl

module _ (file : CaptureFile) (counts : Counts) (t : Tuple) (x y : Item) (legal : Legal first_setting first_history) (over : IsOver first_setting (run first_setting first_history))
    (keeps : KeepsPace 2 1 Mode'.Process 64 0 first_setting 0 first_history) (set : first_setting ≡ setting_at (plan file counts t x y) [] 2 1 1 0)
    (then_legal : Legal second_setting second_history) (then_over : IsOver second_setting (run second_setting second_history))
    (then_keeps : KeepsPace 2 1 Mode'.Process 64 1 second_setting 0 second_history) (then_set : second_setting ≡ setting_at (plan file counts t x y) [] 2 1 1 1)
    (first_passes : PassesKeep Mode'.Process first) (second_passes : PassesKeep Mode'.Process second) where
  abbrev p : PlanOf
  p = plan file counts t x y

  first_fits : HistoryFits p [] setup 0 first
  first_fits = record {
    number = refl;
    setting = set;
    ended = record { legal = legal; over = over };
    keeps = λ r lt. subst (λ k. KeepsPace 2 1 Mode'.Process 64 0 first_setting k first_history) (sym (is_zero r lt)) keeps;
  }

  second_fits : HistoryFits p [] setup 1 second
  second_fits = record {
    number = refl;
    setting = then_set;
    ended = record { legal = then_legal; over = then_over };
    keeps = λ r lt. subst (λ k. KeepsPace 2 1 Mode'.Process 64 1 second_setting k second_history) (sym (is_zero r lt)) then_keeps;
  }

  linked : AreLinked 1 both
  linked = record {
    legal = of_each (λ q e. Legal e.setting e.history) legal then_legal;
    home = λ c lt. subst (StartsAtHome both) (sym (is_zero c lt)) its_home;
    linked = λ c lt. subst (IsLinked both) (sym (is_zero c lt)) its_link;
  }

  fits : Fits p [] setup both (order ∷ [])
  fits = record {
    count = refl;
    each = of_each (λ q e. HistoryFits p [] setup q e) first_fits second_fits;
    linked = linked;
    noted = λ c lt. subst (AreNoted 1 both) (sym (is_zero c lt)) its_notes;
    settled = λ c o at. let i = only order o c at in
        subst (λ k. (done : List Act) × IsHereOnce both k done × (o ≡ settle [] k done)) (sym i.0) (order, once, sym i.1 ∙ settles);
    whole = λ c o at. let i = only order o c at in subst (λ k. IsWhole p [] k o) (sym i.0) (subst (IsWhole p [] 0) i.1 record { feeds = refl; asked = λ j. refl });
  }

  pub is_served : HasServed p [] setup (served p)
  is_served = record {
    fits = fits;
    served = one_served file counts t x y;
    called = λ c j k lt. subst (λ d. made_in_all d j k both ≡ option_map_or (λ (x : ℕ × Call). if x.0 == d then 1 else 0) (call_at [] j k) 0) (sym (is_zero c lt)) (none_called j k);
    keep = of_each (λ q e. PassesKeep Mode'.Process e) first_passes second_passes;
    traces = refl;
    traced = of_each (λ q e. IfSome (slice_get (no_trace ∷ no_trace ∷ []) q) (λ t. marks_of t ≡ [])) refl refl;
  }
