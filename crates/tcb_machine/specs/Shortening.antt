-- A path takes no longer segments than so many bytes of text (RFC 1191, 3): from then on none is sent that is longer.
use Rattle.std.specs.Prelude.{ℕ, ◌≡◌, ◌≤◌, false, max, min}
use Rattle.tcb_machine.specs.BlockState.{Block}
use Rattle.tcb_machine.specs.Limits.{least_mss}
use Rattle.tcb_machine.specs.Numbering.{IsNumbered}
use Rattle.tcb_machine.specs.Room.{StreamsBelow}
use Rattle.tcb_machine.specs.States.{is_listen}
use Rattle.tcb_machine.specs.Validity.{IsValid}

unfoldable pub shortening : ℕ → Block → Block
shortening most b = record b { agreed = record b.agreed { mss = min b.agreed.mss (max least_mss most) } }

-- laws: segments get no longer, and what holds of a block holds of it then

abbrev pub ShorteningLengthensNone : Type 0
ShorteningLengthensNone = (most : ℕ) (b : Block) → (shortening most b).agreed.mss ≤ b.agreed.mss

abbrev pub ShorteningKeepsValid : Type 0
ShorteningKeepsValid = (most : ℕ) (b : Block) → is_listen b.state ≡ false → IsValid b → IsValid (shortening most b)

abbrev pub ShorteningKeepsNumbers : Type 0
ShorteningKeepsNumbers = (most : ℕ) (b : Block) → IsNumbered b → IsNumbered (shortening most b)

abbrev pub ShorteningAddsNothing : Type 0
ShorteningAddsNothing = (limit most : ℕ) (b : Block) → StreamsBelow limit b → StreamsBelow limit (shortening most b)
