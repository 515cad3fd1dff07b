-- A block that gets its acts one by one, and holds a call back until the thread's earlier ones on the connection were made.
use Rattle.std.specs.Prelude.{◌≡◌, ℕ, ◌+◌, ◌*◌, ◌<◌, ◌≤◌, ◌^◌, Bool, true, false, List, [], ◌∷◌, ◌++◌, length, get_or, replicate}
use Rattle.std.specs.List.{AllByRecursion, list_all, range_with_len}
use Rattle.perimeter_core.specs.declared.entries.Act.{Act}
use Rattle.perimeter_core.specs.declared.entries.Act.TheVariants as act
use Rattle.byte_queues.specs.ReceiveQueue.{next_of}
use Rattle.tcb_machine.specs.BlockState.{new_block, offered}
use Rattle.conn_classifier.specs.Limits.{most_items}
use Rattle.conn_classifier.specs.Plan.{PlanOf, items_in}
use Rattle.conn_blocks.specs.Limits.{callers, most_calls}
use Rattle.conn_blocks.specs.declared.stages.Stage.{Stage}
use Rattle.conn_blocks.specs.declared.stages.Stage.TheVariants as stage
use Rattle.conn_blocks.specs.CallLists.{CallLists, calls_of}
use Rattle.conn_blocks.specs.ServeOrder.{BlockOf, ClockIsPast, IsActOf, serve, serving_of}
use Rattle.conn_blocks.specs.Services.{service_in}
use Rattle.perimeter_core.specs.Deeds.{feed_numbers}
use Rattle.conn_blocks.specs.Orders.{numbers_on, call_numbers, has_call, settle}

-- how many calls of all threads are on connection c
abbrev pub calls_on : CallLists → ℕ → ℕ
calls_on calls c = length (numbers_on calls c 0) + length (numbers_on calls c 1) + length (numbers_on calls c 2) + length (numbers_on calls c 3)

-- the stage of call k of thread j
abbrev pub stage_at : List Stage → ℕ → ℕ → Stage
stage_at stages j k = get_or stages (4 * k + j) stage.Unasked

abbrev pub is_held_back : Stage → Bool
is_held_back stage.Held = true
is_held_back _ = false

abbrev pub is_made : Stage → Bool
is_made stage.Made = true
is_made _ = false

-- whether these calls of thread j were made
abbrev pub all_made : List Stage → ℕ → List ℕ → Bool
all_made stages j ks = list_all (λ k. is_made (stage_at stages j k)) ks

-- the stage of a call that was made or not, and came or not
abbrev pub stage_of : Bool → Bool → Stage
stage_of true came = stage.Made
stage_of false true = stage.Held
stage_of false false = stage.Unasked

-- each call's stage is what these acts and the block's order say
abbrev pub Fits : CallLists → List Act → BlockOf → Type 0
Fits calls came b = (j k : ℕ) → j < callers → k < length (calls_of calls j) → stage_at b.stages j k ≡ stage_of (has_call j k b.order) (has_call j k came)

-- one list begins another
pub record Begins (front whole : List ℕ) : Type 0 where
  pub rest : List ℕ
  pub joined : whole ≡ front ++ rest

-- of each thread an order has the first calls on the connection, in order and once
abbrev pub HasFirstCalls : CallLists → ℕ → List Act → Type 0
HasFirstCalls calls c order = (j : ℕ) → Begins (call_numbers j order) (numbers_on calls c j)

-- how many feeds a block has had
abbrev pub fed : BlockOf → ℕ
fed b = length (feed_numbers b.order)

-- what holds of a block that isn't short: it is what serving its order gives
pub record IsSound (p : PlanOf) (calls : CallLists) (c : ℕ) (b : BlockOf) : Type 0 where
  pub served : serving_of b ≡ serve p calls c b.order
  pub clock : ClockIsPast p c (fed b) b.tcb.clock
  pub received_most : next_of b.tcb.recv ≤ length b.order * 2 ^ 20
  pub offered_most : offered b.tcb ≤ length b.order * 2 ^ 16

-- the feeds of the order are the first items, its calls each thread's first ones on the connection, and there is room for all
pub record IsSettled (p : PlanOf) (calls : CallLists) (c : ℕ) (b : BlockOf) : Type 0 where
  pub of : b.of ≡ record { plan = p; calls = calls; c = c }
  pub threads : length calls ≡ callers
  pub service : b.service ≡ service_in p c
  pub feeds : feed_numbers b.order ≡ range_with_len 0 (fed b)
  pub few_feeds : fed b ≤ length (items_in p c)
  pub asked : (j : ℕ) → Begins (call_numbers j b.order) (numbers_on calls c j)
  pub few_items : length (items_in p c) ≤ most_items
  pub few_calls : calls_on calls c ≤ most_calls
  pub room : length (items_in p c) + calls_on calls c ≤ b.order_room
  pub answers_room : calls_on calls c ≤ b.answers_room
  pub table : (j k : ℕ) → j < callers → k < length (calls_of calls j) → 4 * k + j < length b.stages
  pub sound : b.short ≡ false → IsSound p calls c b

-- the block has had these acts: its order is what settling keeps of them, and it holds back the calls that settling still holds
pub record StandsFor (p : PlanOf) (calls : CallLists) (c : ℕ) (came : List Act) (b : BlockOf) : Type 0 where
  pub acts : AllByRecursion (IsActOf p calls c) came
  pub settled : IsSettled p calls c b
  pub order : b.order ≡ settle calls c came
  pub stages : Fits calls came b

-- a new block
pub record IsNew (p : PlanOf) (calls : CallLists) (c : ℕ) (b : BlockOf) : Type 0 where
  pub of : b.of ≡ record { plan = p; calls = calls; c = c }
  pub service : b.service ≡ service_in p c
  pub tcb : b.tcb ≡ new_block
  pub order : b.order ≡ []
  pub answers : b.answers ≡ []
  pub short : b.short ≡ false
  pub stages : (longest : ℕ) × (b.stages ≡ replicate (4 * longest) stage.Unasked) × ((j : ℕ) → j < callers → length (calls_of calls j) ≤ longest)
  pub threads : length calls ≡ callers
  pub few_items : length (items_in p c) ≤ most_items
  pub few_calls : calls_on calls c ≤ most_calls
  pub room : length (items_in p c) + calls_on calls c ≤ b.order_room
  pub answers_room : calls_on calls c ≤ b.answers_room

-- an act comes next in an order: the next item, or the thread's next call on the connection
abbrev pub ComesNext : PlanOf → CallLists → ℕ → List Act → Act → Type 0
ComesNext p calls c order (act.Feed n) = (n ≡ length (feed_numbers order)) × (n < length (items_in p c))
ComesNext p calls c order (act.Call j k) = (j < callers) × Begins (call_numbers j order ++ k ∷ []) (numbers_on calls c j)
