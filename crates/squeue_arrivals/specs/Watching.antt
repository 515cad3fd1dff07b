-- What is seen of a squeue's parts while they are served.
use Rattle.std.specs.Prelude.{◌≡◌, ℕ, ◌+◌, ◌%◌, ◌^◌, ◌<◌, ◌≤◌, Bool, true, false, Option, List, IfSome, IsSome, length}
use Rattle.turn_gate.specs.History.{Begins}
use Rattle.turn_gate.specs.Passes.{IsPassOf, number, seen}
use Rattle.turn_gate.specs.declared.pass.Pass.{Pass}
use Rattle.perimeter_core.specs.declared.entries.Act.{Act}
use Rattle.perimeter_core.specs.Blocks.{Blocks, peri}
use Rattle.perimeter_core.specs.Deeds.{fed}
use Rattle.perimeter_core.specs.History.{Element, Limits, Setting, ask_quota, run}
use Rattle.perimeter_core.specs.Legal.{Legal, asks_by}
use Rattle.perimeter_core.specs.Perimeter.{Idle}
use Rattle.placed_parts.specs.Standing.{PlacesStand}
use Rattle.histories.specs.Elements.{number_of}
use Rattle.squeue_state.specs.Naming.{Named, setting_of}
use Rattle.squeue_streams.specs.declared.streams.Stream.{Stream}
use Rattle.squeue_streams.specs.Taking.{count_of, items_of, state_of}
use Rattle.squeue_arrivals.specs.Arriving.{IsMadeOf, IsServedIn}
use Rattle.squeue_arrivals.specs.declared.served.ServedSource.{ServedSource}
use Rattle.squeue_arrivals.specs.declared.watching.Watched.{Watched}
use Rattle.squeue_arrivals.specs.declared.watching.WatchedEnd.{WatchedEnd}

-- After what the pass has seen it may look n times
pub record MayLook {R : Type 0} (limits : R → Limits) (s : Named R) (n : ℕ) (p : Pass Element) : Type 0 where
  pub pass : IsPassOf number_of s.gate p
  pub no_worker : number p < length s.given.quotas
  pub idle : Idle (run (setting_of limits s.given) (seen p)) (number p)
  pub asks : asks_by (number p) (seen p) + n ≤ ask_quota (setting_of limits s.given) (number p)

module _ {W T S : Type 0} (begins : W → S → Type 0) (step : W → S → T → S → Type 0) (work : W) where
  -- A part to which this was done has taken items, one at least for each feed. Its state is made of these, and it counts them
  pub record IsPartOf (stream : Stream T S) (had : List Act) : Type 0 where
    pub feeds : fed had ≤ length (items_of stream)
    pub made : IsMadeOf begins step work (items_of stream) (state_of stream)
    pub counted : count_of stream ≡ length (items_of stream) % 2 ^ 64

  -- these parts are at the squeue whose blocks are these, and no others
  abbrev pub ArePartsOf : List (Option (Stream T S)) → Blocks → Type 0
  ArePartsOf parts blocks = PlacesStand (λ c stream had. IsPartOf stream had) parts blocks

  module _ {A : Type 0} (Says : List (Option (Stream T S)) → A → Type 0) (at : Setting) where
    -- what was seen, as Says tells it, is of parts that stand for what the history did, which is legal
    pub record IsSeenOf (H : List Element) (seen : A) : Type 0 where
      pub legal : Legal at H
      pub parts : List (Option (Stream T S))
      pub stand : ArePartsOf parts (peri at H)
      pub says : Says parts seen

    abbrev pub HasLooked : List Element → Option A → Type 0
    HasLooked H last = IfSome last (IsSeenOf H)

    -- By pass k it was looked so many times in H, and there was one look at least where there were to be some. What was seen last is of
    -- the beginning of H that the last of these looks has found
    pub record SawLast (k looks : ℕ) (H : List Element) (last : Option A) : Type 0 where
      pub before : List Element
      pub is_beginning : Begins before H
      pub there : asks_by k before ≡ looks
      pub no_more : asks_by k H ≡ looks
      pub some : 0 < looks → IsSome last
      pub looked : HasLooked before last

    -- so it is of what the pass has seen of who looked
    abbrev pub HasWatched : ℕ → Watched A → Type 0
    HasWatched looks w = SawLast (number w.pass.value) looks (seen w.pass.value) w.last

  -- somebody looked so at a squeue, if anybody did, by the pass behind those of its rings
  abbrev pub WasWatched : {A : Type 0} → (List (Option (Stream T S)) → A → Type 0) → ℕ → Bool → WatchedEnd A → Type 0
  WasWatched Says looks true e = SawLast Says e.end.setting e.end.setting.rings looks e.end.history e.last
  WasWatched Says looks false e = Unit {0}

module _ {W T S A O Z : Type 0} (begins : W → S → Type 0) (step : W → S → T → S → Type 0) (origin : A → O) (given : A → List (ℕ × T)) (is_over : A → Type 0)
    (work : W) (most : ℕ) (Says : List (Option (Stream T S)) → Z → Type 0) (looks : ℕ) (watched : Bool) where
  -- a source is served so in the history of a squeue, at which somebody looked so, if anybody did
  abbrev pub ServedWith : WatchedEnd Z → ℕ → A → ServedSource A T S → Type 0
  ServedWith e k source left = IsServedIn begins step origin given is_over work most e.end k source left × WasWatched begins step work Says looks watched e
