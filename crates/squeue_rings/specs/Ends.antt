-- What rings and application threads know by their passes when they are done.
use Rattle.std.specs.Prelude.{◌≡◌, ℕ, ◌+◌, ◌%◌, ◌<◌, ◌==◌, Option, List, [], length}
use Rattle.turn_gate.specs.History.{Each}
use Rattle.turn_gate.specs.Passes.{IsPassOf, number, seen}
use Rattle.turn_gate.specs.declared.pass.Pass.{Pass}
use Rattle.perimeter_core.specs.declared.entries.Feed.{Feed}
use Rattle.perimeter_core.specs.Perimeter.{is_here}
use Rattle.perimeter_core.specs.History.{Element, Limits, run}
use Rattle.perimeter_core.specs.Deeds.{due}
use Rattle.squeue_state.specs.Naming.{Named, setting_of}
use Rattle.histories.specs.Elements.{number_of}
use Rattle.histories.specs.Stays.{IsLinked}
use Rattle.squeue_serve.specs.Places.{AtEach, Holds}
use Rattle.histories.specs.Noted.{AreNoted}
use Rattle.histories.specs.Runs.{brought, place}
use Rattle.squeue_rings.specs.Seen.{seen_ends}
use Rattle.squeue_rings.specs.Made.{made_in, once_on}
use Rattle.squeue_rings.specs.OwnMarks.{EachOwn, OfThread, OfWorker}

module _ {R : Type 0} (limits : R → Limits) where
  -- A ring's pass knows that each of the ring's connections is here exactly where its last feed of the list is at home, and that all
  -- its feeds were entered
  pub record RingEnds (squeues spread r : ℕ) (list : List Feed) (s : Named R) (x : Pass Element) : Type 0 where
    pub pass : IsPassOf number_of s.gate x
    pub is_number : number x ≡ r
    pub here : (c : ℕ) → r ≡ c % s.given.rings → c < length s.given.starts
        → is_here (run (setting_of limits s.given) (seen x)) c ≡ (place squeues spread c list == s.given.number)
    pub next : (c : ℕ) → r ≡ c % s.given.rings → c < length s.given.starts → place squeues spread c list ≡ s.given.number → due (seen x) c ≡ brought c list

  -- its passes of all squeues do, and its connections went from stay to stay, each with the feeds that were due
  pub record RingsEnd (squeues spread r : ℕ) (list : List Feed) (ss : List (Named R)) (places : List (Option (Pass Element))) : Type 0 where
    pub each : AtEach (λ s o. Holds (RingEnds squeues spread r list s) o) ss places
    pub linked : (c : ℕ) → Each (λ (s : Named R). (r ≡ c % s.given.rings) × (c < length s.given.starts)) ss → IsLinked (seen_ends limits ss places) c
    pub noted : (c : ℕ) → Each (λ (s : Named R). (r ≡ c % s.given.rings) × (c < length s.given.starts)) ss → AreNoted spread (seen_ends limits ss places) c

-- the pass is that of application thread j
pub record CallerEnds {R : Type 0} (j : ℕ) (s : Named R) (x : Pass Element) : Type 0 where
  pub pass : IsPassOf number_of s.gate x
  pub is_number : number x ≡ s.given.rings + j

-- the thread's passes of all squeues know that each of its calls, which are on these connections, was made once, and no other
pub record CallersEnd {R : Type 0} (j : ℕ) (conns : List ℕ) (ss : List (Named R)) (places : List (Option (Pass Element))) : Type 0 where
  pub each : AtEach (λ s o. Holds (CallerEnds j s) o) ss places
  pub made : (c k : ℕ) → made_in c j k places ≡ once_on conns c k

module _ {R : Type 0} (limits : R → Limits) where
  -- by what each of its passes has seen, the thread left only with its calls, one behind the other, or where a block was gone
  abbrev pub CallersKeep : ℕ → List (Named R) → List (Option (Pass Element)) → Type 0
  CallersKeep j ss places = AtEach (λ s o. Holds (λ x. EachOwn (OfThread (setting_of limits s.given) j) (s.given.rings + j) [] (seen x)) o) ss places

  -- the worker's pass, of number n, has worked: wherever it left, it left nothing
  pub record WorkerEnds (n : ℕ) (s : Named R) (x : Pass Element) : Type 0 where
    pub pass : IsPassOf number_of s.gate x
    pub is_number : number x ≡ n
    pub exact : EachOwn (OfWorker (setting_of limits s.given)) n [] (seen x)
