-- The pump of a service that answers requests one after another. A request stays in the receive queue until it is whole; while an answer is
-- under way nothing is taken.
use Rattle.std.specs.Prelude.{◌≡◌, ℕ, ◌+◌, nat_le, Bool, true, false, List, [], ◌++◌, length, take, drop, Option, None, Some, suc, zero, if◌then◌else◌}
use Rattle.byte_queues.specs.ReceiveQueue.{next_bytes, ready_of}
use Rattle.byte_queues.specs.SendQueue.{room_of}
use Rattle.tcb_machine.specs.BlockState.{Block}
use Rattle.tcb_machine.specs.CallAnswers.{close_in}
use Rattle.tcb_machine.specs.Validity.{left_by}
use Rattle.echo_services.specs.Closing.{is_close_wait, throws}
use Rattle.echo_services.specs.Pumping.{may_offer}
use Rattle.page_service.specs.declared.phase.Phase.{Phase}
use Rattle.page_service.specs.declared.phase.Phase.TheVariants.{Reads, Answers, Ends}
use Rattle.page_service.specs.Protocol.{Protocol, KeptAll}

-- how many turns a pump has at most. It never needs as many: an answer takes two, and 64 bytes of the room, which is 65,535 at most
abbrev pub most_turns : ℕ
most_turns = 4096

-- what was received and isn't taken, up to the first gap
abbrev pub waiting : Block → List ℕ
waiting b = next_bytes (ready_of b.recv) b.recv

-- what is left is thrown away, and our FIN is wanted (CLOSE: RFC 9293, 3.10.4)
abbrev pub closes : Block → Block
closes b = left_by (close_in b.state (throws (ready_of b.recv) b)).verdict

-- what a turn leaves: another one follows, or none until more comes or there is more room
pub data Turn (A : Type 0) : Type 0 where
  goes : Phase A → Block → Turn A
  rests : Phase A → Block → Turn A

-- as the code says it
abbrev pub said : {A : Type 0} → Bool → Phase A → Block → Turn A
said true w b = goes w b
said false w b = rests w b

abbrev pub then_on : {A : Type 0} → (Phase A → Block → Phase A × Block) → Turn A → Phase A × Block
then_on f (goes w b) = f w b
then_on f (rests w b) = (w, b)

module _ {A : Type 0} (p : Protocol A) where
  -- what is left of an answer, of which so many bytes were offered, and as much of it as there is room for
  abbrev pub left_from : A → ℕ → List ℕ
  left_from a given = drop given (p.text a)

  abbrev pub more_of : A → ℕ → Block → List ℕ
  more_of a given b = take (room_of b.out) (left_from a given)

  abbrev pub behind : A → Phase A
  behind a = if p.keeps a then Reads else Ends

  -- the answer goes on as far as there is room
  abbrev pub gives : A → ℕ → Block → Turn A
  gives a given b =
      let now = given + length (more_of a given b) in
      said (nat_le (length (p.text a)) now) (if nat_le (length (p.text a)) now then behind a else Answers a now) (record b { out = b.out ++ more_of a given b })

  -- a whole request is taken; where none is and the peer has closed, all is over
  abbrev pub reads : Option (A × ℕ) → Block → Turn A
  reads (Some found) b = goes (Answers found.0 0) (throws found.1 b)
  reads None b = if is_close_wait b.state then goes Ends b else rests Reads b

  abbrev pub turn : Phase A → Block → Turn A
  turn Reads b = reads (p.answers b.clock (waiting b)) b
  turn (Answers a given) b = gives a given b
  turn Ends b = rests Ends (closes b)

  unfoldable pub turns : ℕ → Phase A → Block → Phase A × Block
  turns zero w b = (w, b)
  turns (suc n) w b = then_on (turns n) (turn w b)

  -- a pump: where our FIN is wanted, what comes is thrown away
  unfoldable pub pump : Phase A → Block → Phase A × Block
  pump w b =
      if b.fin_wanted then (w, throws (ready_of b.recv) b)
      else (if may_offer b.state then turns most_turns w b else (w, b))

  -- what is left of the answer under way
  abbrev pub left_of : Phase A → List ℕ
  left_of Reads = []
  left_of (Answers a given) = left_from a given
  left_of Ends = []

  -- where another request may follow, all that was taken are requests that have their answers
  abbrev pub Open : List ℕ → List ℕ → Phase A → Type 0
  Open times read Reads = KeptAll p times read
  Open times read (Answers a given) = p.keeps a ≡ true → KeptAll p times read
  Open times read Ends = Unit {0}

  -- Nothing waits that could go: no whole request is there, and the peer hasn't closed; or an answer is under way, and there is no room; or
  -- all is over
  abbrev pub RestsAt : Phase A → Block → Type 0
  RestsAt Reads b = (p.answers b.clock (waiting b) ≡ None) × (is_close_wait b.state ≡ false)
  RestsAt (Answers a given) b = room_of b.out ≡ 0
  RestsAt Ends b = (b.fin_wanted ≡ true) × (ready_of b.recv ≡ 0)
