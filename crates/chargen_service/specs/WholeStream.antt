-- Serving with all that was offered in the block's life, of which the block keeps what isn't acknowledged.
use Rattle.std.specs.Prelude.{ℕ, ◌-◌, List, [], ◌∷◌, ◌++◌, take, if◌then◌else◌}
use Rattle.tcb_machine.specs.BlockState.{Block}
use Rattle.tcb_machine.specs.States.{is_listen}
use Rattle.tcb_machine.specs.TcpStep.{Verdict, over, go, on, tcp_segment}
use Rattle.tcb_machine.specs.Timers.{tcp_time}
use Rattle.chargen_service.specs.Chargen.{Generating, new_generating, pump, outputs, Entry, segment, time}

pub record Whole : Type 0 where
  pub now : Generating
  -- the bytes that were offered and have left the block, since they were acknowledged or their connection was over
  pub gone : List ℕ

-- all bytes offered, in order
abbrev pub all_offered : Whole → List ℕ
all_offered w = w.gone ++ w.now.block.out

-- what leaves the send side where a step takes a block to another: all where the connection is over
abbrev pub leaves : Block → Block → List ℕ
leaves b c = if is_listen c.state then b.out else take (c.acked - b.acked) b.out

abbrev pub follows : Whole → Generating → Whole
follows w x = record { now = x; gone = w.gone ++ leaves w.now.block x.block }

abbrev pub whole_followed : Whole → Verdict → Whole
whole_followed w (over b) = follows w (record w.now { block = b })
whole_followed w (on b) = follows w (record w.now { block = b })
whole_followed w (go b) =
    let x : Generating = record w.now { block = b } in
    follows (follows (follows w x) (pump x)) (outputs (pump x))

abbrev pub whole_enters : Entry → Whole → Whole
whole_enters (segment now iss s text) w = whole_followed w (tcp_segment now iss s text w.now.block)
whole_enters (time to) w = follows w (record w.now { block = tcp_time to w.now.block })

abbrev pub whole_serves : List Entry → Whole → Whole
whole_serves [] w = w
whole_serves (e ∷ es) w = whole_serves es (whole_enters e w)

abbrev pub whole_new : Whole
whole_new = record { now = new_generating; gone = [] }
