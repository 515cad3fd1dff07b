-- What a stream stands for, and which items its state is made of.
use Rattle.std.specs.Prelude.{◌≡◌, ◌-◌, ◌%◌, ◌^◌, ◌≤◌, ℕ, List, [], ◌∷◌, ◌++◌, length, replicate}
use Rattle.std.proofs.Common.{Global}
use Rattle.perimeter_core.specs.declared.entries.Act.{Act}
use Rattle.perimeter_core.specs.History.{Limits}
use Rattle.perimeter_core.specs.Deeds.{fed}
use Rattle.rtrb.specs.declared.consumer.Consumer.{Consumer}
use Rattle.rtrb.specs.declared.AnyItems.{AnyItems}
use Rattle.rtrb.specs.Ring.{SameConsumer, received}
use Rattle.squeue_streams.specs.declared.streams.Stream.{Stream}
use Rattle.squeue_streams.specs.declared.streams.Streams.{Streams}

-- by these steps the items, one after another, lead from one state to another
abbrev pub Takes : {T S : Type 0} → (S → T → S → Type 0) → S → List T → S → Type 0
Takes step from [] to = to ≡ from
Takes {T} {S} step from (x ∷ xs) to = (next : S) × step from x next × Takes step next xs to

module _ {T S : Type 0} where
  -- the end of the stream's ring that pops
  abbrev pub input_of : Stream T S → Consumer T Global AnyItems
  input_of stream = stream.input

  abbrev pub state_of : Stream T S → S
  state_of stream = stream.state

  -- how many items were ever popped, modulo 2^64
  abbrev pub count_of : Stream T S → ℕ
  count_of stream = stream.count

  -- all items that were ever popped, oldest first
  abbrev pub items_of : Stream T S → List T
  items_of stream = received stream.input

  -- a stream has had as many feeds as it counts since it was put in, and at least as many items were ever popped
  pub record HasTaken (stream : Stream T S) (had : List Act) : Type 0 where
    pub feeds : fed had ≡ stream.had
    pub popped : stream.had ≤ length (received stream.input)

  -- The state of stream c is what the steps make of all items that were popped, in order, from one in which it may begin with this end of
  -- a ring, of which it still holds the same end; and the stream counts these items
  pub record IsStreamOf {O : Type 0} (begins : O → ℕ → Consumer T Global AnyItems → S → Type 0)
      (step : O → S → T → S → Type 0) (o : O) (c : ℕ) (stream : Stream T S) : Type 0 where
    pub first : S
    pub first_input : Consumer T Global AnyItems
    pub begun : begins o c first_input first
    pub its_ring : SameConsumer first_input stream.input
    pub taken : Takes (step o) first (received stream.input) stream.state
    pub counted : stream.count ≡ length (received stream.input) % 2 ^ 64

  -- one item was popped off the same ring, and taken
  pub record TakesOne (step : S → T → S → Type 0) (from to : Stream T S) : Type 0 where
    pub item : T
    pub ring : SameConsumer from.input to.input
    pub popped : received to.input ≡ received from.input ++ item ∷ []
    pub taken : step from.state item to.state

  -- The stream has taken some items more, and no feed: it stands for what it stood for, and is still that of each number of which it was
  pub record HasTakenMore {O : Type 0} (begins : O → ℕ → Consumer T Global AnyItems → S → Type 0)
      (step : O → S → T → S → Type 0) (o : O) (from to : Stream T S) : Type 0 where
    pub ring : SameConsumer from.input to.input
    pub stands : (had : List Act) → HasTaken from had → HasTaken to had
    pub its : (c : ℕ) → IsStreamOf begins step o c from → IsStreamOf begins step o c to

module _ {X H T S O : Type 0} where
  -- what is made of the items, and how many streams there are
  abbrev pub steps_of : Streams X H T S O → X
  steps_of r = r.steps

  abbrev pub streams_of : Streams X H T S O → ℕ
  streams_of r = r.count

  -- the calls that there may be: stream, thread and number
  abbrev pub calls_of : Streams X H T S O → List (ℕ × ℕ × ℕ)
  calls_of r = r.calls.items

-- each stream may have so many feeds after it was put in, and leaves so often
abbrev pub most_feeds : ℕ
most_feeds = 2 ^ 32 - 1

abbrev pub most_leaves : ℕ
most_leaves = 2 ^ 52

abbrev pub limits_of : {X H T S O : Type 0} → Streams X H T S O → Limits
limits_of r = record { feeds = replicate (streams_of r) most_feeds; leaves = replicate (streams_of r) most_leaves; calls = calls_of r }
