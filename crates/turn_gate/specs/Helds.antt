-- What contracts see of a gate that is held.
use Rattle.std.specs.Prelude.{◌≡◌, ℕ, true, List, [], ◌∷◌, length, Option, Some, None}
use Rattle.atomic_table.specs.Seated.{TableId}
use Rattle.turn_gate.specs.History.{Begins, only}
use Rattle.turn_gate.specs.Passes.{own, number, seen, mine}
use Rattle.turn_gate.specs.Rule.{row, view}
use Rattle.turn_gate.specs.declared.views.Row.{Row}
use Rattle.turn_gate.specs.declared.views.LockStep.{LockStep}
use Rattle.turn_gate.specs.declared.pass.Pass.{Pass}
use Rattle.turn_gate.specs.declared.held.Held.{Held}

abbrev pub ticket_in : Option ℕ → ℕ
ticket_in (Some t) = t
ticket_in None = 0

module _ {T M E : Type 0} where
  abbrev pub held_row : Held T M E → Row E
  held_row h = let r = own h.seat.me.0.rows in row h.number r.seen r.mine

  -- the number of the pass that holds the gate
  abbrev pub held_number : Held T M E → ℕ
  held_number h = (held_row h).number

  -- the whole history
  abbrev pub held_seen : Held T M E → List E
  held_seen h = (held_row h).seen

  -- the elements in it that carry the pass's number
  abbrev pub held_mine : Held T M E → List E
  held_mine h = (held_row h).mine

  abbrev pub held_ticket : Held T M E → ℕ
  held_ticket h = ticket_in h.seat.me.0.ticket

  -- the pass's steps on the lock word
  abbrev pub held_steps : Held T M E → List LockStep
  held_steps h = h.seat.me.0.steps

  abbrev pub held_value : Held T M E → T
  held_value h = h.value.value

  abbrev pub held_count : Held T M E → ℕ
  held_count h = h.count

  -- the same, with this value
  abbrev pub held_with : Held T M E → T → Held T M E
  held_with h w = record h { value = record h.value { value = w } }

  -- the gate is this one, and its whole history is seen
  abbrev pub IsHeldOf : (E → ℕ) → TableId → Held T M E → Type 0
  IsHeldOf num id h = (h.seat.table_id ≡ id)
      × (h.seat.me ≡ (view (row (held_number h) (held_seen h) (held_mine h) ∷ []) (Some (held_ticket h)) true (held_steps h), (0, None) ∷ []))
      × (held_count h ≡ length (held_seen h)) × (only num (held_number h) (held_seen h) ≡ held_mine h)

  -- the gate was taken with this pass, and its value stands for the history
  abbrev pub Takes : (T → List E → Type 0) → (E → ℕ) → TableId → Pass E → Held T M E → Type 0
  Takes stands num id p h = IsHeldOf num id h × (held_number h ≡ number p) × Begins (seen p) (held_seen h) × (held_mine h ≡ mine p)
      × stands (held_value h) (held_seen h)
