-- What a thread knows of its pass, and of the streams that come and go by it.
use Rattle.std.proofs.Common.{Global}
use Rattle.std.specs.Prelude.{◌≡◌, ◌≢◌, ℕ, ◌+◌, ◌%◌, ◌≤◌, ◌<◌, true, false, List, length, slice_index}
use Rattle.rtrb.specs.declared.AnyItems.{AnyItems}
use Rattle.rtrb.specs.declared.consumer.Consumer.{Consumer}
use Rattle.rtrb.specs.declared.producer.Producer.{Producer}
use Rattle.rtrb.specs.Ring.{IsPair, SameProducer, sent}
use Rattle.turn_gate.specs.Passes.{IsPassOf, number, seen}
use Rattle.turn_gate.specs.declared.pass.Pass.{Pass}
use Rattle.perimeter_core.specs.Perimeter.{Idle, is_here}
use Rattle.perimeter_core.specs.History.{Element, Limits, ask_quota, feed_quota, run}
use Rattle.perimeter_core.specs.Deeds.{due, times_left}
use Rattle.perimeter_core.specs.Legal.{asks_by, feeds_by}
use Rattle.histories.specs.Elements.{number_of}
use Rattle.squeue_state.specs.Naming.{Named, setting_of}
use Rattle.squeue_state.specs.declared.guarded.Life.{Life}
use Rattle.conn_migrate.specs.Moving.{IsKept}
use Rattle.squeue_streams.specs.Taking.{most_feeds}
use Rattle.stream_stays.specs.declared.stay.Stay.{Stay}
use Rattle.stream_stays.specs.declared.stay.Vacant.{Vacant}

module _ {T : Type 0} where
  -- the number of the stream, and how often it may still leave a squeue
  abbrev pub stream_of : Stay T → ℕ
  stream_of s = s.stream

  abbrev pub leaves_of : Stay T → ℕ
  leaves_of s = s.leaves

  -- how many items were pushed since the stay began, and how many of their feeds are entered
  abbrev pub pushed_of : Stay T → ℕ
  pushed_of s = s.pushed

  abbrev pub entered_of : Stay T → ℕ
  entered_of s = s.entered

  -- the end of its ring that pushes
  abbrev pub producer_of : Stay T → Producer T Global AnyItems
  producer_of s = s.producer

  -- all items that were ever pushed, oldest first; and those that were pushed before the stay began
  abbrev pub sent_of : Stay T → List T
  sent_of s = sent s.producer

  abbrev pub before_of : Stay T → List T
  before_of s = sent s.first.value

  -- the same stay of the same stream, by the same ring
  pub record SameStay (a b : Stay T) : Type 0 where
    pub ring : SameProducer a.producer b.producer
    pub stream : stream_of b ≡ stream_of a
    pub leaves : leaves_of b ≡ leaves_of a
    pub before : before_of b ≡ before_of a

  -- a stay of the stream, in which nothing was pushed yet
  pub record IsBegun {S : Type 0} (vacant : Vacant T S) (stay : Stay T) : Type 0 where
    pub ring : producer_of stay ≡ vacant.producer
    pub stream : stream_of stay ≡ vacant.stream
    pub leaves : leaves_of stay ≡ vacant.leaves
    pub before : before_of stay ≡ sent vacant.producer
    pub none : (pushed_of stay ≡ 0) × (entered_of stay ≡ 0)

-- with whichever end of a ring stream c may begin, this is the other end of that ring
abbrev pub IsOfRing : {T S O : Type 0} → (O → ℕ → Consumer T Global AnyItems → S → Type 0) → O → ℕ → Producer T Global AnyItems → Type 0
IsOfRing {T} {S} begins o c producer = (input : Consumer T Global AnyItems) (first : S) → begins o c input first → IsPair producer input

module _ {R : Type 0} (limits : R → Limits) (s : Named R) where
  -- After what the pass has seen it may enter so many feeds and ask so often: it isn't closed, owner, granted or waiting
  pub record HasLife (life : Life) (p : Pass Element) : Type 0 where
    pub pass : IsPassOf number_of s.gate p
    pub no_worker : number p < length s.given.quotas
    pub idle : Idle (run (setting_of limits s.given) (seen p)) (number p)
    pub feeds : feeds_by (number p) (seen p) + life.feeds ≤ feed_quota (setting_of limits s.given) (number p)
    pub asks : asks_by (number p) (seen p) + life.asks ≤ ask_quota (setting_of limits s.given) (number p)

  -- The pass is that of the ring of stream c, of which no part is here; it may have so many feeds, and leave so often
  pub record IsAway (p : Pass Element) (c often : ℕ) : Type 0 where
    pub ring : number p ≡ c % s.given.rings
    pub range : c < length s.given.starts
    pub away : is_here (run (setting_of limits s.given) (seen p)) c ≡ false
    pub numbers : most_feeds ≤ slice_index (limits s.given.first).feeds c
    pub leaves : times_left c (seen p) + often ≤ slice_index (limits s.given.first).leaves c

  -- The pass is that of the stream's ring; its part is here, and as many feeds of it are entered as the stay counts
  pub record StaysAt {T : Type 0} (p : Pass Element) (stay : Stay T) : Type 0 where
    pub ring : number p ≡ stream_of stay % s.given.rings
    pub range : stream_of stay < length s.given.starts
    pub here : is_here (run (setting_of limits s.given) (seen p)) (stream_of stay) ≡ true
    pub due : due (seen p) (stream_of stay) ≡ entered_of stay
    pub numbers : most_feeds ≤ slice_index (limits s.given.first).feeds (stream_of stay)
    pub leaves : times_left (stream_of stay) (seen p) + leaves_of stay ≤ slice_index (limits s.given.first).leaves (stream_of stay)

  -- of the other streams of the ring nothing has changed
  abbrev pub LeavesOthers : ℕ → Pass Element → Pass Element → Type 0
  LeavesOthers c from to = (d : ℕ) → d ≢ c → number from ≡ d % s.given.rings → IsKept (setting_of limits s.given) d (seen from) (seen to)
