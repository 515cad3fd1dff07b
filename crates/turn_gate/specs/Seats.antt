-- What the private calls of a gate say of a seat.
use Rattle.std.specs.Prelude.{◌≡◌, ℕ, true, List, [], ◌∷◌, length, Option, Some}
use Rattle.atomic_table.specs.Seated.{TableId}
use Rattle.atomic_table.specs.declared.shared.Seat.{Seat}
use Rattle.turn_gate.specs.History.{only}
use Rattle.turn_gate.specs.Rule.{row, view}
use Rattle.turn_gate.specs.declared.views.View.{View}
use Rattle.turn_gate.specs.declared.kept.Kept.{Kept}

module _ {T E : Type 0} (stands : T → List E → Type 0) (num : E → ℕ) where
  -- the seat of number k has the slot with a value in it, which stands for all that it has seen
  abbrev pub HasValue : TableId → ℕ → Seat (Option (Kept T)) (View E) → Type 0
  HasValue id k s = (s.table_id ≡ id)
      × ((h m : List E) × (t : ℕ) × (x : Kept T) × (s.me ≡ (view (row k h m ∷ []) (Some t) true s.me.0.steps, (0, Some x) ∷ []))
      × stands x.value.value h × (x.count ≡ length h) × (only num k h ≡ m))
