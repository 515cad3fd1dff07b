-- Serving with the whole streams since LISTEN beside the block, of which the block keeps what isn't taken and what isn't acknowledged.
use Rattle.std.specs.Prelude.{◌≡◌, ℕ, ◌-◌, List, [], ◌∷◌, ◌++◌, map, take, length, Some, if◌then◌else◌}
use Rattle.byte_queues.specs.ReceiveQueue.{Cells, next_bytes}
use Rattle.tcb_machine.specs.BlockState.{Block, new_block}
use Rattle.tcb_machine.specs.CallAnswers.{tcp_call}
use Rattle.tcb_machine.specs.Output.{output}
use Rattle.tcb_machine.specs.States.{is_listen}
use Rattle.tcb_machine.specs.TcpStep.{Verdict, over, go, on, tcp_segment}
use Rattle.tcb_machine.specs.Timers.{tcp_time}
use Rattle.tcb_machine.specs.Validity.{IsAskable}
use Rattle.tcb_machine.specs.declared.kinds.Call.{Call}
use Rattle.tcb_machine.specs.declared.kinds.Call.TheVariants as call
use Rattle.echo_services.specs.Serving.{Entry, segment, time, asks}

pub record Whole : Type 0 where
  pub block : Block
  -- the bytes that the service took, and the bytes that were acknowledged
  pub read : List ℕ
  pub confirmed : List ℕ

-- the byte at each position of the peer's stream, and all bytes offered
abbrev pub received : Whole → Cells
received w = map (λ x. Some x) w.read ++ w.block.recv.got

abbrev pub all_offered : Whole → List ℕ
all_offered w = w.confirmed ++ w.block.out

-- the block after a step, and with it what left it; in LISTEN all is as new
abbrev pub follows : Whole → Block → Whole
follows w b = record {
  block = b;
  read = if is_listen b.state then [] else w.read ++ next_bytes (b.recv.taken - w.block.recv.taken) w.block.recv;
  confirmed = if is_listen b.state then [] else w.confirmed ++ take (b.acked - w.block.acked) w.block.out;
}

abbrev pub whole_followed : (Block → Block) → Whole → Verdict → Whole
whole_followed pump w (over b) = follows w b
whole_followed pump w (go b) = follows (follows (follows w b) (pump b)) (output (pump b))
whole_followed pump w (on b) = follows w b

abbrev pub whole_enters : (Block → Block) → Entry → Whole → Whole
whole_enters pump (segment now iss s text) w = whole_followed pump w (tcp_segment now iss s text w.block)
whole_enters pump (time to) w = follows w (tcp_time to w.block)
whole_enters pump (asks call) w = whole_followed pump w (tcp_call call w.block).verdict

abbrev pub whole_serves : (Block → Block) → List Entry → Whole → Whole
whole_serves pump [] w = w
whole_serves pump (e ∷ es) w = whole_serves pump es (whole_enters pump e w)

abbrev pub whole_new : Whole
whole_new = record { block = new_block; read = []; confirmed = [] }

-- the lists beside a block have as many bytes as it counts
pub record IsBeside (w : Whole) : Type 0 where
  pub read : length w.read ≡ w.block.recv.taken
  pub confirmed : length w.confirmed ≡ w.block.acked

-- a call's receive space fits 16 bits
abbrev pub IsEntry : Entry → Type 0
IsEntry (segment now iss s text) = Unit {0}
IsEntry (time to) = Unit {0}
IsEntry (asks call) = IsAskable call

abbrev pub AreEntries : List Entry → Type 0
AreEntries [] = Unit {0}
AreEntries (e ∷ es) = IsEntry e × AreEntries es

-- entries between two segments
abbrev pub AreBetween : List Entry → Type 0
AreBetween [] = Unit {0}
AreBetween (segment now iss s text ∷ es) = ⊥
AreBetween (time to ∷ es) = AreBetween es
AreBetween (asks call ∷ es) = IsAskable call × AreBetween es

-- no program closes
abbrev pub IsNotClose : Call → Type 0
IsNotClose call.Close = ⊥
IsNotClose call.Status = Unit {0}
IsNotClose (call.Buffer n) = Unit {0}

abbrev pub IsNoClose : Entry → Type 0
IsNoClose (segment now iss s text) = Unit {0}
IsNoClose (time to) = Unit {0}
IsNoClose (asks c) = IsNotClose c

abbrev pub HasNoClose : List Entry → Type 0
HasNoClose [] = Unit {0}
HasNoClose (e ∷ es) = IsNoClose e × HasNoClose es
