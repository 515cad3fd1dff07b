-- Daytime (RFC 867): a text is sent, and then our FIN, whether the peer has closed or not; what comes is thrown away.
use Rattle.std.specs.Prelude.{ℕ, nat_le, List, ◌++◌, length, take, drop, if◌then◌else◌}
use Rattle.byte_queues.specs.ReceiveQueue.{ready_of}
use Rattle.byte_queues.specs.SendQueue.{room_of}
use Rattle.tcb_machine.specs.BlockState.{Block, offered}
use Rattle.tcb_machine.specs.CallAnswers.{wants_fin}
use Rattle.tcb_machine.specs.declared.kinds.State.{State}
use Rattle.tcb_machine.specs.declared.kinds.State.TheVariants.{Listen, SynReceived, Established, FinWait1, FinWait2, CloseWait, Closing, LastAck, TimeWait}
use Rattle.echo_services.specs.Closing.{throws}

-- as much of the text is offered as there is room for, behind what was offered of it
abbrev pub tells : List ℕ → Block → Block
tells text b = record b { out = b.out ++ take (room_of b.out) (drop (offered b) text) }

-- once all of it is offered, our FIN is wanted
abbrev pub closes : State → List ℕ → Block → Block
closes state text b = if nat_le (length text) (offered b) then wants_fin state b else b

abbrev pub tells_in : State → List ℕ → Block → Block
tells_in Listen text b = b
tells_in SynReceived text b = b
tells_in Established text b = closes FinWait1 text (tells text b)
tells_in FinWait1 text b = b
tells_in FinWait2 text b = b
tells_in CloseWait text b = closes LastAck text (tells text b)
tells_in Closing text b = b
tells_in LastAck text b = b
tells_in TimeWait text b = b

unfoldable pub daytime : List ℕ → Block → Block
daytime text b = tells_in b.state text (throws (ready_of b.recv) b)
