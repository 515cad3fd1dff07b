-- One connection served on one thread: the acts of an order, one after another, from a new block.
use Rattle.std.specs.Prelude.{◌≡◌, ℕ, ◌+◌, ◌<◌, ◌≤◌, ◌^◌, Bool, false, List, [], ◌∷◌, ◌++◌, length, slice_get, Some, IfSome, ◌⊎◌}
use Rattle.std.specs.Option.{option_map, option_map_or}
use Rattle.perimeter_core.specs.declared.entries.Act.{Act}
use Rattle.perimeter_core.specs.declared.entries.Act.TheVariants as act
use Rattle.conn_classifier.specs.declared.kinds.Item.{Item}
use Rattle.conn_classifier.specs.declared.kinds.Item.TheVariants as item
use Rattle.conn_classifier.specs.Plan.{PlanOf, items_in, text_of, time_of}
use Rattle.byte_queues.specs.ReceiveQueue.{next_of}
use Rattle.tcb_machine.specs.BlockState.{Block, new_block, offered}
use Rattle.tcb_machine.specs.TcpStep.{tcp_segment}
use Rattle.tcb_machine.specs.Timers.{tcp_time}
use Rattle.tcb_machine.specs.CallAnswers.{tcp_call}
use Rattle.tcb_machine.specs.declared.kinds.Answer.{Answer}
use Rattle.tcb_machine.specs.declared.kinds.Call.{Call}
use Rattle.echo_services.specs.Pump.{pump}
use Rattle.echo_services.specs.Serving.{followed}
use Rattle.echo_services.specs.declared.service.Service.{Service}
use Rattle.conn_blocks.specs.declared.stages.Stage.{Stage}
use Rattle.conn_blocks.specs.CallLists.{CallLists, calls_of, call_at}
use Rattle.conn_blocks.specs.Limits.{callers}
use Rattle.conn_blocks.specs.Services.{service_in}

-- an item with its text
abbrev pub receives : Service → Item → List ℕ → Block → Block
receives service (item.Time at) text b = tcp_time at b
receives service (item.Segment at rec iss seg) text b = followed (pump service) (tcp_segment at iss seg text b)

-- a block, and the answers so far: thread, number, answer
pub record Serving : Type 0 where
  pub block : Block
  pub answers : List (ℕ × ℕ × Answer)

abbrev pub asks : Service → ℕ → ℕ → Call → Serving → Serving
asks service j k call s = record {
  block = followed (pump service) (tcp_call call s.block).verdict;
  answers = s.answers ++ (j, k, (tcp_call call s.block).answer) ∷ [];
}

-- one act on connection c, whose service is given
abbrev pub serves_act : PlanOf → CallLists → ℕ → Service → Act → Serving → Serving
serves_act p calls c service (act.Feed n) s =
    option_map_or (λ x. record s { block = receives service x (text_of p.file x) s.block }) (slice_get (items_in p c) n) s
serves_act p calls c service (act.Call j k) s = option_map_or (λ x. asks service j k x.1 s) (call_at calls j k) s

abbrev pub serves : PlanOf → CallLists → ℕ → Service → List Act → Serving → Serving
serves p calls c service [] s = s
serves p calls c service (a ∷ order) s = serves p calls c service order (serves_act p calls c service a s)

unfoldable pub serve : PlanOf → CallLists → ℕ → List Act → Serving
serve p calls c order = serves p calls c (service_in p c) order (record { block = new_block; answers = [] })

-- an act is a call that there is, on connection c
abbrev pub IsCallOn : CallLists → ℕ → Act → Type 0
IsCallOn calls c (act.Feed n) = ⊥
IsCallOn calls c (act.Call j k) = (j < callers) × (k < length (calls_of calls j)) × IfSome (call_at calls j k) (λ x. x.0 ≡ c)

-- an act can be served on connection c: its item, or its call, is there
abbrev pub IsActOf : PlanOf → CallLists → ℕ → Act → Type 0
IsActOf p calls c (act.Feed n) = n < length (items_in p c)
IsActOf p calls c (act.Call j k) = IsCallOn calls c (act.Call j k)

-- the feeds' numbers rise, from n on
abbrev pub FeedsRise : ℕ → List Act → Type 0
FeedsRise n [] = Unit {0}
FeedsRise n (act.Feed m ∷ order) = (n ≤ m) × FeedsRise (m + 1) order
FeedsRise n (act.Call j k ∷ order) = FeedsRise n order

-- what all connections of a run have in common
pub record OriginOf : Type 0 where
  pub plan : PlanOf
  pub calls : CallLists

-- a connection of a plan, with the calls of the threads
pub record ConnectionOf : Type 0 where
  pub plan : PlanOf
  pub calls : CallLists
  pub c : ℕ

-- what a block is to the layers above; whose it is, the stage of each call, by number and then by thread, and how many acts and answers there is room for
pub record BlockOf : Type 0 where
  pub of : ConnectionOf
  pub service : Service
  pub tcb : Block
  pub order : List Act
  pub answers : List (ℕ × ℕ × Answer)
  pub short : Bool
  pub stages : List Stage
  pub order_room : ℕ
  pub answers_room : ℕ

-- the clock is 0, or the time of an item before number n
abbrev pub ClockIsPast : PlanOf → ℕ → ℕ → ℕ → Type 0
ClockIsPast p c n clock = (clock ≡ 0) ⊎ ((m : ℕ) × (m < n) × (option_map time_of (slice_get (items_in p c) m) ≡ Some clock))

-- an act may be served at this clock
abbrev pub IsTimely : PlanOf → ℕ → Act → ℕ → Type 0
IsTimely p c (act.Feed n) clock = ClockIsPast p c n clock
IsTimely p c (act.Call j k) clock = Unit {0}

-- a feed sets the clock, a call doesn't
abbrev pub SetsClock : PlanOf → ℕ → Act → ℕ → ℕ → Type 0
SetsClock p c (act.Feed n) old new = option_map time_of (slice_get (items_in p c) n) ≡ Some new
SetsClock p c (act.Call j k) old new = new ≡ old

-- what an act that is served leaves as it was
abbrev pub SameOrder : BlockOf → BlockOf → Type 0
SameOrder new old = (new.service ≡ old.service) × (new.order ≡ old.order) × (new.stages ≡ old.stages) × (new.order_room ≡ old.order_room)
    × (old.answers_room ≤ new.answers_room) × (new.of ≡ old.of)

abbrev pub serving_of : BlockOf → Serving
serving_of b = record { block = b.tcb; answers = b.answers }

-- an act was done to a block that isn't short, and all of it
pub record IsDone (p : PlanOf) (calls : CallLists) (c : ℕ) (a : Act) (old new : BlockOf) : Type 0 where
  pub before : old.short ≡ false
  pub step : serving_of new ≡ serves_act p calls c old.service a (serving_of old)
  pub clock : SetsClock p c a old.tcb.clock new.tcb.clock
  pub received : next_of new.tcb.recv ≤ next_of old.tcb.recv + 2 ^ 20
  pub offered_more : offered new.tcb ≤ offered old.tcb + 2 ^ 16
