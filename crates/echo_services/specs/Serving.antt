-- What a block and its service do with entries. A service is what its pump makes of a block, by what it keeps from one pump to the next.
use Rattle.std.specs.Prelude.{ℕ, List, [], ◌∷◌}
use Rattle.segment_codec.specs.declared.packet.Seg.{Seg}
use Rattle.tcb_machine.specs.BlockState.{Block}
use Rattle.tcb_machine.specs.Output.{output}
use Rattle.tcb_machine.specs.TcpStep.{Verdict, over, go, on, tcp_segment}
use Rattle.tcb_machine.specs.Timers.{tcp_time}
use Rattle.tcb_machine.specs.CallAnswers.{tcp_call}
use Rattle.tcb_machine.specs.declared.kinds.Call.{Call}

-- pump and output, where a step of the block lets them follow
abbrev pub followed : (Block → Block) → Verdict → Block
followed pump (over b) = b
followed pump (go b) = output (pump b)
followed pump (on b) = b

-- what the service keeps then, by what it keeps after a pump
abbrev pub kept : {S : Type 0} → (S → Block → S) → S → Verdict → S
kept after s (over b) = s
kept after s (go b) = after s b
kept after s (on b) = s

pub data Entry : Type 0 where
  -- its time, the hint for our initial sequence number, and its text
  segment : ℕ → ℕ → Seg → List ℕ → Entry
  time : ℕ → Entry
  asks : Call → Entry

abbrev pub enters : (Block → Block) → Entry → Block → Block
enters pump (segment now iss s text) b = followed pump (tcp_segment now iss s text b)
enters pump (time to) b = tcp_time to b
enters pump (asks call) b = followed pump (tcp_call call b).verdict

-- one connection's entries, one after another, where the service keeps nothing
abbrev pub serves : (Block → Block) → List Entry → Block → Block
serves pump [] b = b
serves pump (e ∷ es) b = serves pump es (enters pump e b)
