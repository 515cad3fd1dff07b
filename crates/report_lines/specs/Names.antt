-- The words of a report.
use Rattle.std.specs.Prelude.{ℕ, List, codes}
use Rattle.tcb_machine.specs.declared.kinds.State.{State}
use Rattle.tcb_machine.specs.declared.kinds.State.TheVariants.{Listen, SynReceived, Established, FinWait1, FinWait2, CloseWait, Closing, LastAck, TimeWait}

-- RFC 9293, 3.3.2
unfoldable pub state_word : State → List ℕ
state_word Listen = codes "LISTEN"
state_word SynReceived = codes "SYN-RECEIVED"
state_word Established = codes "ESTABLISHED"
state_word FinWait1 = codes "FIN-WAIT-1"
state_word FinWait2 = codes "FIN-WAIT-2"
state_word CloseWait = codes "CLOSE-WAIT"
state_word Closing = codes "CLOSING"
state_word LastAck = codes "LAST-ACK"
state_word TimeWait = codes "TIME-WAIT"
