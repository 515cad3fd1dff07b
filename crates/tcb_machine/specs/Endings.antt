-- Why a connection is over, and its block back in LISTEN: read off its state before and after, and off what it was given.
use Rattle.std.specs.Prelude.{Bool, not, ◌&&◌, Option, None, Some, if◌then◌else◌}
use Rattle.segment_codec.specs.declared.packet.Seg.{Seg}
use Rattle.tcb_machine.specs.BlockState.{has}
use Rattle.segment_codec.specs.ControlBits.{rst, syn}
use Rattle.tcb_machine.specs.States.{is_listen}
use Rattle.tcb_machine.specs.TcpStep.{is_time_wait}
use Rattle.tcb_machine.specs.declared.kinds.Ending.{Ending}
use Rattle.tcb_machine.specs.declared.kinds.Ending.TheVariants as ending
use Rattle.tcb_machine.specs.declared.kinds.State.{State}

-- it is over after a step, and wasn't before
abbrev pub is_over : State → State → Bool
is_over before after = not (is_listen before) && is_listen after

-- a segment ends a connection by its RST, by its SYN, or by acknowledging our FIN (RFC 9293, 3.10.7.4)
abbrev pub ending_by : Seg → Ending
ending_by s = if has s.flags rst then ending.Reset else if has s.flags syn then ending.SynAgain else ending.LastAck

abbrev pub ending_by_segment : State → Seg → State → Option Ending
ending_by_segment before s after = if is_over before after then Some (ending_by s) else None

-- the time ends one in TIME-WAIT, else when all retransmissions were made (3.10.8)
abbrev pub ending_in : State → Ending
ending_in before = if is_time_wait before then ending.TimeWaitOver else ending.GaveUp

abbrev pub ending_by_time : State → State → Option Ending
ending_by_time before after = if is_over before after then Some (ending_in before) else None
