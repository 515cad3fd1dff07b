-- The states of a connection (RFC 9293, 3.3.2), and what is read off one.
use Rattle.std.specs.Prelude.{Bool, true, false}
use Rattle.tcb_machine.specs.declared.kinds.State.{State}
use Rattle.tcb_machine.specs.declared.kinds.State.TheVariants.{Listen, SynReceived, Established, FinWait1, FinWait2, CloseWait, Closing, LastAck, TimeWait}

-- the peer's FIN was consumed
abbrev pub is_consumed : State → Bool
is_consumed Listen = false
is_consumed SynReceived = false
is_consumed Established = false
is_consumed FinWait1 = false
is_consumed FinWait2 = false
is_consumed CloseWait = true
is_consumed Closing = true
is_consumed LastAck = true
is_consumed TimeWait = true

abbrev pub is_listen : State → Bool
is_listen Listen = true
is_listen SynReceived = false
is_listen Established = false
is_listen FinWait1 = false
is_listen FinWait2 = false
is_listen CloseWait = false
is_listen Closing = false
is_listen LastAck = false
is_listen TimeWait = false
