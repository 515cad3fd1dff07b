-- The character generator (as RFC 864, with a pattern of its own): what comes is thrown away, and a pattern is offered, which goes on
-- where it stood.
use Rattle.std.specs.Prelude.{ℕ, ◌+◌, ◌-◌, ◌%◌, min, List, [], ◌∷◌, ◌++◌, suc, zero}
use Rattle.byte_queues.specs.ReceiveQueue.{ready_of}
use Rattle.byte_queues.specs.SendQueue.{room_of}
use Rattle.tcb_machine.specs.BlockState.{Block}
use Rattle.tcb_machine.specs.CallAnswers.{wants_fin}
use Rattle.tcb_machine.specs.declared.kinds.State.{State}
use Rattle.tcb_machine.specs.declared.kinds.State.TheVariants.{Listen, SynReceived, Established, FinWait1, FinWait2, CloseWait, Closing, LastAck, TimeWait}
use Rattle.echo_services.specs.Closing.{throws}
use Rattle.echo_services.specs.Limits.{most_given}

-- byte i of the pattern: the printable characters of ASCII, from the space to the tilde, again and again
abbrev pub pattern : ℕ → ℕ
pattern i = 32 + i % 95

-- n bytes of the pattern, from number i on
abbrev pub pattern_from : ℕ → ℕ → List ℕ
pattern_from i zero = []
pattern_from i (suc n) = pattern i ∷ pattern_from (i + 1) n

-- how many bytes are offered where so many were: as many as there is room for, and as are left
abbrev pub next_given : ℕ → Block → ℕ
next_given given b = min (room_of b.out) (most_given - given)

-- in ESTABLISHED the next bytes of the pattern are offered; where the peer has closed, our FIN is wanted
abbrev pub gives_in : State → ℕ → Block → Block
gives_in Listen given b = b
gives_in SynReceived given b = b
gives_in Established given b = record b { out = b.out ++ pattern_from given (next_given given b) }
gives_in FinWait1 given b = b
gives_in FinWait2 given b = b
gives_in CloseWait given b = wants_fin LastAck b
gives_in Closing given b = b
gives_in LastAck given b = b
gives_in TimeWait given b = b

-- a pump, where so many bytes were offered before
unfoldable pub chargen : ℕ → Block → Block
chargen given b = gives_in b.state given (throws (ready_of b.recv) b)

-- how many bytes were offered then
abbrev pub given_in : State → ℕ → Block → ℕ
given_in Listen given b = given
given_in SynReceived given b = given
given_in Established given b = given + next_given given b
given_in FinWait1 given b = given
given_in FinWait2 given b = given
given_in CloseWait given b = given
given_in Closing given b = given
given_in LastAck given b = given
given_in TimeWait given b = given

unfoldable pub given_after : ℕ → Block → ℕ
given_after given b = given_in b.state given b
