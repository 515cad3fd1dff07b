-- With which notes the block of a connection came to its squeues.
use Rattle.std.specs.Prelude.{◌≡◌, ℕ, ◌*◌, List, Some}
use Rattle.perimeter_core.specs.Deeds.{fed}
use Rattle.histories.specs.Endings.{Ending}
use Rattle.histories.specs.Stays.{Stay, stay}

-- Stay s of the connection began with a note of s times `spread` feeds: it moves on after so many
abbrev pub AreNoted : ℕ → List Ending → ℕ → Type 0
AreNoted spread hs c = (s : ℕ) (v : Stay) → stay hs c s ≡ Some v → fed v.note ≡ s * spread
