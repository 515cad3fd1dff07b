-- What a ring knows of its pass at one squeue.
use Rattle.std.specs.Prelude.{◌≡◌, ℕ, ◌+◌, ◌*◌, ◌%◌, ◌^◌, ◌<◌, ◌≤◌, true, List, length, slice_index}
use Rattle.rtrb.specs.Ring.{SameConsumer, SameProducer, received, sent}
use Rattle.turn_gate.specs.Passes.{IsPassOf, number, seen}
use Rattle.turn_gate.specs.declared.pass.Pass.{Pass}
use Rattle.perimeter_core.specs.Perimeter.{Idle, is_here}
use Rattle.perimeter_core.specs.History.{Element, Limits, ask_quota, feed_quota, run, start}
use Rattle.perimeter_core.specs.Deeds.{due, times_left}
use Rattle.perimeter_core.specs.Legal.{asks_by, feeds_by}
use Rattle.histories.specs.Elements.{number_of}
use Rattle.squeue_state.specs.Naming.{Named, setting_of}
use Rattle.shard_rings.specs.declared.cell.Cell.{Cell}

module _ {T : Type 0} where
  -- all that was sent by a lane, and all that came back, oldest first
  abbrev pub sent_of : Cell T → List T
  sent_of c = sent c.end.output

  abbrev pub came_of : Cell T → List T
  came_of c = received c.end.back

  -- it is of the same lane
  abbrev pub SameEnd : Cell T → Cell T → Type 0
  SameEnd a b = SameProducer a.end.output b.end.output × SameConsumer a.end.back b.end.back

  -- nothing was sent or entered there
  pub record IsBeside (a b : Cell T) : Type 0 where
    pub output : b.end.output ≡ a.end.output
    pub entered : b.entered ≡ a.entered
    pub back : SameConsumer a.end.back b.end.back

module _ {R : Type 0} (limits : R → Limits) (s : Named R) where
  -- The squeue serves this ring: its part is here at the start, and it has feeds, asks and leaves enough for a life of 2^50 parcels
  pub record Serves (ring : ℕ) : Type 0 where
    pub its_ring : ring ≡ ring % s.given.rings
    pub no_worker : ring < length s.given.quotas
    pub range : ring < length s.given.starts
    pub begins : is_here (start (setting_of limits s.given)) ring ≡ true
    pub numbers : 2 ^ 31 ≤ slice_index (limits s.given.first).feeds ring
    pub leaves : 2 ^ 50 + 1 ≤ slice_index (limits s.given.first).leaves ring
    pub feeds : 2 ^ 50 ≤ feed_quota (setting_of limits s.given) ring
    pub asks : 2 ^ 51 + 2 ≤ ask_quota (setting_of limits s.given) ring

  -- After what the pass has seen, which is this ring's, the ring's part is here with n feeds, and the ring entered so many feeds in all. It
  -- was put in anew only behind feeds, and with two asks each time
  pub record IsAt (ring n fed : ℕ) (p : Pass Element) : Type 0 where
    pub pass : IsPassOf number_of s.gate p
    pub is_number : number p ≡ ring
    pub idle : Idle (run (setting_of limits s.given) (seen p)) ring
    pub here : is_here (run (setting_of limits s.given) (seen p)) ring ≡ true
    pub next : due (seen p) ring ≡ n
    pub left : times_left ring (seen p) + n ≤ fed
    pub asks : asks_by ring (seen p) ≤ 2 * times_left ring (seen p)
    pub feeds : feeds_by ring (seen p) ≡ fed
