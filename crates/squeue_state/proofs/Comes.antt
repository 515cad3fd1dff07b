-- Nothing queued is forgotten.
use Rattle.std.proofs.Common.{◌≡◌, ◌⊎◌, inl, inr, ℕ, true, Option, List, refl, sym, ◌∙◌}
use Rattle.atomic_table.specs.Table.{State}
use Rattle.turn_gate.specs.Rule.{Holds, IsFree}
use Rattle.turn_gate.specs.declared.kept.Kept.{Kept}
use Rattle.turn_gate.specs.declared.views.View.{View}
use Rattle.turn_gate.proofs.Keeps.{whole_of_free}
use Rattle.perimeter_core.specs.declared.resident.Resident.{Ghosts}
use Rattle.perimeter_core.specs.declared.marks.Own.{Own}
use Rattle.perimeter_core.specs.declared.marks.Own.TheVariants.{Free, Out, Granted}
use Rattle.perimeter_core.specs.History.{Element, run}
use Rattle.perimeter_core.specs.Backlog.{WakeKept}
use Rattle.perimeter_core.proofs.OrderAndWake.{sound, wake_of_sound}
use Rattle.squeue_state.specs.declared.inner.Inner.{Inner}
use Rattle.squeue_state.specs.declared.guarded.Guarded.{Guarded}
use Rattle.squeue_state.specs.Naming.{Given, setting_of}
use Rattle.squeue_state.specs.Behind.{Behind, StandsFor}
use Rattle.histories.specs.Elements.{number_of}
use Rattle.squeue_state.specs.Lawful.{SomebodyComes, LiesWhole}

by_owner : (o : Own) (W : Type 0) → (o ≡ Free → W) → ((p : ℕ) × (o ≡ Out p)) ⊎ (((p : ℕ) × (o ≡ Granted p)) ⊎ W)
by_owner Free W free = inr (inr (free refl))
by_owner (Out p) W free = inl (p, refl)
by_owner (Granted p) W free = inr (inl (p, refl))

module _ {R P O : Type 0} (G : Ghosts R P O) where
  comes : (g : Given R) (i : Inner R) (H : List Element) → Behind G g i H → SomebodyComes i
  comes g i H b some =
      let S = setting_of G.limits g in
      let w : WakeKept (run S H) = wake_of_sound (run S H) (sound S H b.legal) in
      by_owner i.own (i.wake ≡ true) (λ free. b.wake ∙ w.wake.1 (sym b.own ∙ free, λ none. some (b.chain ∙ none)))

  pub lies_whole : (f : Guarded R) (n : ℕ) (s : State (Option (Kept (Guarded R))) (View Element)) → Holds (StandsFor G f) number_of n s → IsFree s → LiesWhole G f s
  lies_whole f n s h free =
      let w = whole_of_free (StandsFor G f) number_of n s h free in
      record {
        kept = w.value.0;
        home = w.value.1;
        story = w.story;
        count = w.count;
        stands_for = w.value.3;
        comes = comes _ w.value.0.value.value.inner w.story w.value.3.0;
      }
