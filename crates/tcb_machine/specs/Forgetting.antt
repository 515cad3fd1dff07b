-- Text behind a gap is forgotten: none of it was acknowledged, so a receiver may (RFC 9293, 3.10.7.4), and the peer sends it again.
use Rattle.std.specs.Prelude.{ℕ, ◌≡◌, ◌+◌, ◌≤◌, length}
use Rattle.byte_queues.specs.ReceiveQueue.{front, without_ahead}
use Rattle.tcb_machine.specs.BlockState.{Block, held_in, rcv_nxt, rcv_wnd}
use Rattle.tcb_machine.specs.Numbering.{IsNumbered}
use Rattle.tcb_machine.specs.Room.{StreamsBelow}
use Rattle.tcb_machine.specs.Validity.{IsValid}

unfoldable pub forgetting : Block → Block
forgetting b = record b { recv = without_ahead b.recv }

-- laws: the acknowledgement number and the window stay, what is held is in order or our own, and what holds of a block holds of it then

abbrev pub ForgettingKeepsNumber : Type 0
ForgettingKeepsNumber = (b : Block) → rcv_nxt (forgetting b) ≡ rcv_nxt b

abbrev pub ForgettingKeepsWindow : Type 0
ForgettingKeepsWindow = (b : Block) → rcv_wnd (forgetting b) ≡ rcv_wnd b

abbrev pub ForgettingHoldsOrder : Type 0
ForgettingHoldsOrder = (b : Block) → held_in (forgetting b) ≡ front b.recv.got + length b.out

abbrev pub ForgettingHoldsLess : Type 0
ForgettingHoldsLess = (b : Block) → held_in (forgetting b) ≤ held_in b

abbrev pub ForgettingKeepsValid : Type 0
ForgettingKeepsValid = (b : Block) → IsValid b → IsValid (forgetting b)

abbrev pub ForgettingKeepsNumbers : Type 0
ForgettingKeepsNumbers = (b : Block) → IsNumbered b → IsNumbered (forgetting b)

abbrev pub ForgettingAddsNothing : Type 0
ForgettingAddsNothing = (most : ℕ) (b : Block) → StreamsBelow most b → StreamsBelow most (forgetting b)
