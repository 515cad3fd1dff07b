-- What services have in common: what is ready is thrown away, and our FIN follows the peer's.
use Rattle.std.specs.Prelude.{ℕ, ◌==◌, ◌&&◌, not, Bool, true, false, if◌then◌else◌}
use Rattle.byte_queues.specs.ReceiveQueue.{ready_of, without}
use Rattle.tcb_machine.specs.BlockState.{Block}
use Rattle.tcb_machine.specs.CallAnswers.{wants_fin}
use Rattle.tcb_machine.specs.declared.kinds.State.{State}
use Rattle.tcb_machine.specs.declared.kinds.State.TheVariants.{Listen, SynReceived, Established, FinWait1, FinWait2, CloseWait, Closing, LastAck, TimeWait}

abbrev pub throws : ℕ → Block → Block
throws n b = record b { recv = without n b.recv }

abbrev pub is_close_wait : State → Bool
is_close_wait Listen = false
is_close_wait SynReceived = false
is_close_wait Established = false
is_close_wait FinWait1 = false
is_close_wait FinWait2 = false
is_close_wait CloseWait = true
is_close_wait Closing = false
is_close_wait LastAck = false
is_close_wait TimeWait = false

-- where the peer has closed and nothing is ready, our FIN is wanted too
abbrev pub ends : Block → Block
ends b = if is_close_wait b.state && ((ready_of b.recv == 0) && not b.fin_wanted) then wants_fin LastAck b else b
