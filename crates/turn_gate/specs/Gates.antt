-- What contracts see of a gate: which one it is, how many passes it has, and the value that it was made with.
use Rattle.std.specs.Prelude.{ℕ}
use Rattle.atomic_table.specs.Seated.{TableId}
use Rattle.turn_gate.specs.declared.gate.Gate.{Gate}

module _ {T M E : Type 0} where
  abbrev pub gate_id : Gate T M E → TableId
  gate_id g = g.table.shared.table_id

  abbrev pub passes_of : Gate T M E → ℕ
  passes_of g = g.table.shared.key.passes

  abbrev pub first_of : Gate T M E → T
  first_of g = g.table.shared.key.first.value
