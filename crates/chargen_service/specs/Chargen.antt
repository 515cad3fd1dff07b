-- A connection's block with the character generator behind it: what is done with the segments and times that it is given.
use Rattle.std.specs.Prelude.{ℕ, List, [], ◌∷◌}
use Rattle.segment_codec.specs.declared.packet.Seg.{Seg}
use Rattle.tcb_machine.specs.BlockState.{Block, new_block}
use Rattle.tcb_machine.specs.Output.{output}
use Rattle.tcb_machine.specs.TcpStep.{Verdict, over, go, on, tcp_segment}
use Rattle.tcb_machine.specs.Timers.{tcp_time}
use Rattle.echo_services.specs.Chargen.{chargen, given_after}

-- a block, and how many bytes were offered in its life
pub record Generating : Type 0 where
  pub block : Block
  pub given : ℕ

abbrev pub new_generating : Generating
new_generating = record { block = new_block; given = 0 }

-- a pump of the generator
unfoldable pub pump : Generating → Generating
pump x = record { block = chargen x.given x.block; given = given_after x.given x.block }

abbrev pub outputs : Generating → Generating
outputs x = record x { block = output x.block }

-- pump and output, where a step of the block lets them follow
abbrev pub followed : ℕ → Verdict → Generating
followed given (over b) = record { block = b; given = given }
followed given (go b) = outputs (pump (record { block = b; given = given }))
followed given (on b) = record { block = b; given = given }

-- what a block is given: a segment with its time, the hint for our initial sequence number, and its text; or a time
pub data Entry : Type 0 where
  segment : ℕ → ℕ → Seg → List ℕ → Entry
  time : ℕ → Entry

abbrev pub enters : Entry → Generating → Generating
enters (segment now iss s text) x = followed x.given (tcp_segment now iss s text x.block)
enters (time to) x = record x { block = tcp_time to x.block }

abbrev pub serves : List Entry → Generating → Generating
serves [] x = x
serves (e ∷ es) x = serves es (enters e x)
