-- One more mark of a squeue, and whether it fits.
use Rattle.std.proofs.Common.{◌≡◌, ◌≢◌, ◌↔◌, ℕ, Bool, Decides, IsTrue, MatchOption, Option, Some, List, [], ◌∷◌, ◌++◌, ap, refl, sym, ◌∙◌, subst}
use Rattle.perimeter_core.specs.declared.entries.Entry.{Entry}
use Rattle.perimeter_core.specs.declared.marks.Mark.{Mark}
use Rattle.perimeter_core.specs.declared.marks.Own.{Own}
use Rattle.perimeter_core.specs.declared.marks.Own.TheVariants.{Free}
use Rattle.perimeter_core.specs.Deeds.{done_by}
use Rattle.perimeter_core.specs.History.{Element, Setting, run}
use Rattle.perimeter_core.specs.Legal.{Legal, May, feed_count}
use Rattle.perimeter_core.proofs.OneMore.{legal_next}
use Rattle.ring_quotas.specs.declared.setup.Setup.{Setup}
use Rattle.ring_quotas.specs.Quotas.{setting_at}
use Rattle.squeue_replay.specs.declared.pace.PaceCheck.{PaceCheck}
use Rattle.squeue_replay.specs.declared.squeue.RunSetup.{RunSetup}
use Rattle.squeue_replay.specs.declared.squeue.ReplayedSqueue.{ReplayedSqueue}
use Rattle.squeue_replay.specs.Histories.{note_of, noted}
use Rattle.squeue_replay.specs.Pacing.{HasMet, KeepsAt, PaceStands}
use Rattle.squeue_replay.specs.Replaying.{history_of, setting_of, squeue_of}
use Rattle.squeue_replay.specs.Standing.{SqueueOf, Stands}
use Rattle.squeue_replay.proofs.OneMoreMark.{noted_push}
use Rattle.trace_replay.specs.Going.{HasAdded}

module _ (old : ReplayedSqueue) (was : PaceCheck) (past : List Mark) (m : Mark) (next : ReplayedSqueue) where
  abbrev S : Setting
  S = setting_of old

  abbrev H : List Element
  H = history_of old past

  abbrev e : Element
  e = record { mark = m; note = note_of old.run.setup.squeues old.run.setup.spread old.number past m }

  pushed : history_of old (past ++ m ∷ []) ≡ H ++ e ∷ []
  pushed = noted_push old.run.setup.squeues old.run.setup.spread old.number past m

  pub added_one : (pace : PaceCheck) (keeps taken queued left : Bool) (o : Option ℕ) (n : ℕ) → o ≡ Some n
      → MatchOption o (Legal S (history_of old (past ++ m ∷ [])) → ⊥) (λ k. Stands S (history_of old (past ++ m ∷ [])) (squeue_of next) × (k ≡ feed_count (done_by (run S H) m))) → Stands S H (squeue_of old) → PaceStands S H was
      → (IsTrue taken ↔ ((squeue_of old).own ≢ Free)) → (IsTrue queued ↔ ((squeue_of old).chain ≢ [])) → (IsTrue left ↔ ((squeue_of next).chain ≢ []))
      → ((T : Setting) (G : List Element) (x : Element) → x.mark ≡ m → May T G x → HasMet T G x (record { taken = taken; queued = queued; processed = n; left = left }) → PaceStands T G was
      → PaceStands T (G ++ x ∷ []) pace × Decides keeps (KeepsAt was.setup was.squeue T G x)) → HasAdded old was past m next pace keeps
  added_one pace keeps taken queued left o n is marked stands paced it_is_taken it_has_queued it_has_left paces =
      let now : Stands S (history_of old (past ++ m ∷ [])) (squeue_of next) × (n ≡ feed_count (done_by (run S H) m)) =
      subst (λ (x : Option ℕ). MatchOption x (Legal S (history_of old (past ++ m ∷ [])) → ⊥) (λ k. Stands S (history_of old (past ++ m ∷ [])) (squeue_of next) × (k ≡ feed_count (done_by (run S H) m)))) is marked in
      let legal : Legal S (H ++ e ∷ []) = subst (Legal S) pushed now.0.legal in
      let chain : (squeue_of next).chain ≡ (run S (H ++ e ∷ [])).chain = now.0.chain ∙ ap (λ (G : List Element). (run S G).chain) pushed in
      let k =
      paces S H e refl (legal_next S H [] e legal)
      (record {
        taken = subst (λ (w : Own). IsTrue taken ↔ (w ≢ Free)) stands.own it_is_taken;
        queued = subst (λ (es : List Entry). IsTrue queued ↔ (es ≢ [])) stands.chain it_has_queued;
        processed = now.1;
        left = subst (λ (es : List Entry). IsTrue left ↔ (es ≢ [])) chain it_has_left;
      }) paced in
      record { stands = now.0; paced = subst (λ (G : List Element). PaceStands S G pace) (sym pushed) k.0; fits = k.1 }

-- the squeue and the pace are those of a run and a number
module _ (run : RunSetup) (number : ℕ) (old : ReplayedSqueue) (was : PaceCheck) (run_is : old.run ≡ run) (number_is : old.number ≡ number) (setup_is : was.setup ≡ run.setup) (squeue_is : was.squeue ≡ number) where
  abbrev pub Standing : RunSetup → ℕ → List Mark → SqueueOf → Type 0
  Standing r n ms s = Stands (setting_at r.plan.now r.calls.now r.setup.squeues r.setup.rings r.setup.spread n) (noted r.setup.squeues r.setup.spread n ms) s

  abbrev pub Pacing : RunSetup → ℕ → List Mark → PaceCheck → Type 0
  Pacing r n ms pace = PaceStands (setting_at r.plan.now r.calls.now r.setup.squeues r.setup.rings r.setup.spread n) (noted r.setup.squeues r.setup.spread n ms) pace

  pub its_stands : (ms : List Mark) (s : SqueueOf) → Standing old.run old.number ms s → Standing run number ms s
  its_stands ms s h = subst (λ (n : ℕ). Standing run n ms s) number_is (subst (λ (r : RunSetup). Standing r old.number ms s) run_is h)

  pub stands_of : (ms : List Mark) (s : SqueueOf) → Standing run number ms s → Standing old.run old.number ms s
  stands_of ms s h = subst (λ (r : RunSetup). Standing r old.number ms s) (sym run_is) (subst (λ (n : ℕ). Standing run n ms s) (sym number_is) h)

  pub its_pace : (ms : List Mark) (pace : PaceCheck) → Pacing old.run old.number ms pace → Pacing run number ms pace
  its_pace ms pace h = subst (λ (n : ℕ). Pacing run n ms pace) number_is (subst (λ (r : RunSetup). Pacing r old.number ms pace) run_is h)

  pub pace_of : (ms : List Mark) (pace : PaceCheck) → Pacing run number ms pace → Pacing old.run old.number ms pace
  pace_of ms pace h = subst (λ (r : RunSetup). Pacing r old.number ms pace) (sym run_is) (subst (λ (n : ℕ). Pacing run n ms pace) (sym number_is) h)

  pub its_legal : (ms : List Mark) → (Legal (setting_of old) (history_of old ms) → ⊥)
      → Legal (setting_at run.plan.now run.calls.now run.setup.squeues run.setup.rings run.setup.spread number) (noted run.setup.squeues run.setup.spread number ms) → ⊥
  its_legal ms illegal legal =
      illegal
      (subst (λ (r : RunSetup). Legal (setting_at r.plan.now r.calls.now r.setup.squeues r.setup.rings r.setup.spread old.number) (noted r.setup.squeues r.setup.spread old.number ms)) (sym run_is)
      (subst (λ (n : ℕ). Legal (setting_at run.plan.now run.calls.now run.setup.squeues run.setup.rings run.setup.spread n) (noted run.setup.squeues run.setup.spread n ms)) (sym number_is) legal))

  pub its_fit : (past : List Mark) (m : Mark) (keeps : Bool)
      → Decides keeps (KeepsAt was.setup was.squeue (setting_of old) (history_of old past) (record { mark = m; note = note_of old.run.setup.squeues old.run.setup.spread old.number past m }))
      → Decides keeps (KeepsAt run.setup number (setting_at run.plan.now run.calls.now run.setup.squeues run.setup.rings run.setup.spread number) (noted run.setup.squeues run.setup.spread number past) (record { mark = m; note = note_of run.setup.squeues run.setup.spread number past m }))
  its_fit past m keeps h =
      subst (λ (n : ℕ). Decides keeps (KeepsAt run.setup number (setting_at run.plan.now run.calls.now run.setup.squeues run.setup.rings run.setup.spread n) (noted run.setup.squeues run.setup.spread n past) (record { mark = m; note = note_of run.setup.squeues run.setup.spread n past m }))) number_is
      (subst (λ (r : RunSetup). Decides keeps (KeepsAt run.setup number (setting_at r.plan.now r.calls.now r.setup.squeues r.setup.rings r.setup.spread old.number) (noted r.setup.squeues r.setup.spread old.number past) (record { mark = m; note = note_of r.setup.squeues r.setup.spread old.number past m }))) run_is
      (subst (λ (n : ℕ). Decides keeps (KeepsAt run.setup n (setting_of old) (history_of old past) (record { mark = m; note = note_of old.run.setup.squeues old.run.setup.spread old.number past m }))) squeue_is
      (subst (λ (s : Setup). Decides keeps (KeepsAt s was.squeue (setting_of old) (history_of old past) (record { mark = m; note = note_of old.run.setup.squeues old.run.setup.spread old.number past m }))) setup_is h)))
