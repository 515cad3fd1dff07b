-- What the law of a squeue's gate says.
use Rattle.std.specs.Prelude.{◌≡◌, ◌≢◌, ◌⊎◌, ℕ, true, Option, Some, List, [], ◌∷◌, length, slice_index}
use mathlib.Core.Option as mo
use Rattle.atomic_table.specs.Table.{State}
use Rattle.turn_gate.specs.declared.kept.Kept.{Kept}
use Rattle.turn_gate.specs.declared.views.View.{View}
use Rattle.perimeter_core.specs.declared.resident.Resident.{Ghosts}
use Rattle.perimeter_core.specs.declared.marks.Own.TheVariants.{Out, Granted}
use Rattle.perimeter_core.specs.History.{Element}
use Rattle.squeue_state.specs.declared.inner.Inner.{Inner}
use Rattle.squeue_state.specs.declared.guarded.Guarded.{Guarded}
use Rattle.squeue_state.specs.Behind.{StandsFor}

-- where something is queued, a pass is owner, the perimeter is granted to a pass, or a wake is recorded
abbrev pub SomebodyComes : {R : Type 0} → Inner R → Type 0
SomebodyComes i = i.chain.items ≢ [] → ((p : ℕ) × (i.own ≡ Out p)) ⊎ (((p : ℕ) × (i.own ≡ Granted p)) ⊎ (i.wake ≡ true))

-- What lies in the slot of a squeue's gate, made with the value f, stands for the whole history, which is as long as the count
-- word says; and nothing queued in it is forgotten
pub record LiesWhole {R P O : Type 0} (G : Ghosts R P O) (f : Guarded R) (s : State (Option (Kept (Guarded R))) (View Element)) : Type 0 where
  pub kept : Kept (Guarded R)
  pub home : s.homes ≡ mo.some (Some kept) ∷ []
  pub story : List Element
  pub count : slice_index s.words 1 ≡ length story
  pub stands_for : StandsFor G f kept.value.value story
  pub comes : SomebodyComes kept.value.value.inner
