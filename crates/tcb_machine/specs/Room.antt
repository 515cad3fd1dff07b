-- How far the two streams of a connection have come, and how far a segment may still take them.
use Rattle.std.specs.Prelude.{ℕ, ◌+◌, ◌<◌, List}
use Rattle.byte_queues.specs.ReceiveQueue.{next_of}
use Rattle.segment_codec.specs.declared.packet.Seg.{Seg}
use Rattle.tcb_machine.specs.BlockState.{Block, offered}
use Rattle.tcb_machine.specs.CallAnswers.{tcp_call}
use Rattle.tcb_machine.specs.Output.{output}
use Rattle.tcb_machine.specs.TcpStep.{tcp_segment}
use Rattle.tcb_machine.specs.Timers.{tcp_time, retransmits}
use Rattle.tcb_machine.specs.Validity.{IsValid, left_by}
use Rattle.tcb_machine.specs.declared.kinds.Call.{Call}
use Rattle.tcb_machine.specs.Limits.{most_streamed, segment_growth}

-- the number of the next byte to come, and the count of bytes offered, both since LISTEN
abbrev pub StreamsBelow : ℕ → Block → Type 0
StreamsBelow most b = (next_of b.recv < most) × (offered b < most)

-- a block takes a segment as long as both are below the limit
abbrev pub HasRoom : Block → Type 0
HasRoom b = StreamsBelow most_streamed b

-- laws: where both streams stand below a number, a segment takes neither 2^21 further, and nothing else takes one further
abbrev pub SegmentAddsLittle : Type 0
SegmentAddsLittle =
    (most now iss : ℕ) (s : Seg) (text : List ℕ) (b : Block) → IsValid b → StreamsBelow most b
    → StreamsBelow (most + segment_growth) (left_by (tcp_segment now iss s text b))

abbrev pub TimeAddsNothing : Type 0
TimeAddsNothing = (most to : ℕ) (b : Block) → StreamsBelow most b → StreamsBelow most (tcp_time to b)

abbrev pub CallAddsNothing : Type 0
CallAddsNothing = (most : ℕ) (call : Call) (b : Block) → StreamsBelow most b → StreamsBelow most (left_by (tcp_call call b).verdict)

abbrev pub OutputAddsNothing : Type 0
OutputAddsNothing = (most : ℕ) (b : Block) → StreamsBelow most b → StreamsBelow most (output b)

abbrev pub ResendAddsNothing : Type 0
ResendAddsNothing = (most : ℕ) (b : Block) → StreamsBelow most b → StreamsBelow most (retransmits b.state b)
