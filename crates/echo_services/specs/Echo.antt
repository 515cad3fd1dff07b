-- Echo (RFC 862): what is received comes back, byte for byte, as far as there is room.
use Rattle.std.specs.Prelude.{ℕ, min, Bool, true, false, ◌++◌}
use Rattle.byte_queues.specs.ReceiveQueue.{ready_of, next_bytes, without}
use Rattle.byte_queues.specs.SendQueue.{room_of}
use Rattle.tcb_machine.specs.BlockState.{Block}
use Rattle.tcb_machine.specs.declared.kinds.State.{State}
use Rattle.tcb_machine.specs.declared.kinds.State.TheVariants.{Listen, SynReceived, Established, FinWait1, FinWait2, CloseWait, Closing, LastAck, TimeWait}
use Rattle.echo_services.specs.Closing.{ends, throws}

abbrev pub echoes : ℕ → Block → Block
echoes n b = record b { recv = without n b.recv; out = b.out ++ next_bytes n b.recv }

abbrev pub echoes_in : State → Block → Block
echoes_in Listen b = b
echoes_in SynReceived b = b
echoes_in Established b = echoes (min (ready_of b.recv) (room_of b.out)) b
echoes_in FinWait1 b = b
echoes_in FinWait2 b = b
echoes_in CloseWait b = echoes (min (ready_of b.recv) (room_of b.out)) b
echoes_in Closing b = b
echoes_in LastAck b = b
echoes_in TimeWait b = b

-- where our FIN is wanted, what comes is thrown away
abbrev pub moves : Bool → Block → Block
moves true b = throws (ready_of b.recv) b
moves false b = echoes_in b.state b

abbrev pub echo : Block → Block
echo b = ends (moves b.fin_wanted b)
