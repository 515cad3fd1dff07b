-- Where the blocks of connections are at the start.
use Rattle.std.specs.Prelude.{◌≡◌, ℕ, ◌%◌, ◌<◌, ◌==◌, List, length}
use Rattle.turn_gate.specs.History.{Each}
use Rattle.perimeter_core.specs.Perimeter.{is_here}
use Rattle.perimeter_core.specs.History.{Limits, start}
use Rattle.squeue_state.specs.Naming.{Named, setting_of}

-- at the start each connection is here at the squeue of its first home
abbrev pub StartAtHome : {R : Type 0} → (R → Limits) → ℕ → List (Named R) → Type 0
StartAtHome limits squeues ss =
    Each (λ s. (c : ℕ) → c < length s.given.starts → is_here (start (setting_of limits s.given)) c ≡ (c % squeues == s.given.number)) ss
