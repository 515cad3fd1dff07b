-- An owner that came by Fast: its one feed lies in no buffer, and both buffers lie in the gate.
use Rattle.std.specs.Prelude.{ℕ, Bool, true, false, if◌then◌else◌, Option, Some, None, List, [], ◌∷◌}
use Rattle.turn_gate.specs.History.{only}
use Rattle.perimeter_core.specs.declared.marks.Mark.{Mark}
use Rattle.perimeter_core.specs.declared.marks.Mark.TheVariants as On
use Rattle.perimeter_core.specs.declared.marks.Own.{Own}
use Rattle.perimeter_core.specs.declared.marks.Own.TheVariants.{Free, Out, Granted}
use Rattle.perimeter_core.specs.History.{Element}
use Rattle.histories.specs.Elements.{number_of}

abbrev pub is_fast : Mark → Bool
is_fast (On.Fast p e) = true
is_fast _ = false

-- the last of these is a Fast
abbrev pub ends_fast : List Element → Bool
ends_fast [] = false
ends_fast (e ∷ []) = is_fast e.mark
ends_fast (e ∷ x ∷ es) = ends_fast (x ∷ es)

-- the owner came by Fast, and has made nothing since
abbrev pub is_lone : Own → List Element → Bool
is_lone Free H = false
is_lone (Out p) H = ends_fast (only number_of p H)
is_lone (Granted p) H = false

-- the room of an owner's buffer: that of a squeue's buffers, but an owner by Fast has none
abbrev pub buffer_of : ℕ → Bool → Option ℕ
buffer_of room lone = if lone then None else Some room
