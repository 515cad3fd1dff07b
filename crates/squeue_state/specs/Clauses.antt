-- The clauses of a squeue's calls.
use Rattle.std.specs.Prelude.{Bool, false, ◌≡◌, ◌≤◌, ◌+◌, ℕ, Option, Some, None, is_some, List, [], ◌∷◌, ◌++◌, length, slice_index_or}
use Rattle.turn_gate.specs.History.{Begins, only}
use Rattle.turn_gate.specs.Passes.{IsPassOf, freed_once, turns_of, waited, number, seen, mine, steps}
use Rattle.turn_gate.specs.Helds.{IsHeldOf, held_number, held_seen, held_mine, held_steps, held_value}
use Rattle.turn_gate.specs.Gates.{gate_id, first_of}
use Rattle.turn_gate.specs.declared.pass.Pass.{Pass}
use Rattle.turn_gate.specs.declared.held.Held.{Held}
use Rattle.turn_gate.specs.declared.gate.Gate.{Gate}
use Rattle.perimeter_core.specs.declared.resident.Resident.{Ghosts}
use Rattle.perimeter_core.specs.declared.entries.Act.{Act}
use Rattle.perimeter_core.specs.declared.marks.SynchAct.{SynchAct}
use Rattle.perimeter_core.specs.Perimeter.{processed, unprocessed}
use Rattle.perimeter_core.specs.History.{Element, Setting, Limits, worker, run}
use Rattle.perimeter_core.specs.Legal.{Legal}
use Rattle.perimeter_core.specs.Ending.{IsOver}
use Rattle.perimeter_core.specs.Blocks.{Blocks, peri, with_feeds, with_act}
use Rattle.perimeter_core.specs.declared.entries.Entry.{Entry}
use Rattle.perimeter_core.specs.declared.entries.Entry.TheVariants as Entry'
use Rattle.perimeter_core.specs.declared.marks.Kind.{Kind}
use Rattle.histories.specs.Limits.{most_room}
use Rattle.squeue_state.specs.declared.guarded.Guarded.{Guarded}
use Rattle.squeue_state.specs.Naming.{Given, Named, Turned, Handed, setting_of}
use Rattle.squeue_state.specs.Behind.{given_of, Behind, Noted}
use Rattle.histories.specs.Elements.{number_of}
use Rattle.squeue_state.specs.Lone.{is_lone, buffer_of}

-- which squeue a gate is the gate of
abbrev pub named_of : {R : Type 0} → Gate (Guarded R) Kind Element → Named R
named_of g = record { gate = gate_id g; given = given_of (first_of g) }

module _ {R P O : Type 0} (G : Ghosts R P O) where
  -- the gate of this squeue is held, and its value stands for the history
  abbrev pub IsTurnOf : Named R → Held (Guarded R) Kind Element → Type 0
  IsTurnOf s h =
      IsHeldOf number_of s.gate h × Behind G s.given (held_value h).inner (held_seen h)
      × Noted s.given (held_value h).traced (held_value h).trace (held_seen h)

abbrev pub turned_of : {R : Type 0} → Named R → Held (Guarded R) Kind Element → Turned R
turned_of s h = record { squeue = s; number = held_number h; found = held_seen h; mine = held_mine h; made = held_steps h }

-- The turn has found a legal history, which goes on from what the pass has seen with elements of others. The pass keeps its
-- steps on the lock word, and has not freed the lock since
pub record Found {R : Type 0} (limits : R → Limits) (s : Named R) (p : Pass Element) (u : Turned R) : Type 0 where
  pub squeue : u.squeue ≡ s
  pub same_number : u.number ≡ number p
  pub same_mine : u.mine ≡ mine p
  pub goes_on : Begins (seen p) u.found
  pub legal : Legal (setting_of limits s.given) u.found
  pub own : only number_of u.number u.found ≡ u.mine
  pub no_turn_yet : waited (steps p) u.made
  -- so what is queued can be counted in 32 bits
  pub few : (length (run (setting_of limits s.given) u.found).hand + length (run (setting_of limits s.given) u.found).chain ≤ s.given.room)
      × (s.given.room ≤ most_room)

-- the pass afterwards has seen what the turn found and then the element, and made one more step, which freed the lock
pub record Marked {R : Type 0} (u : Turned R) (e : Element) (p : Pass Element) : Type 0 where
  pub is_pass : IsPassOf number_of u.squeue.gate p
  pub same_number : number p ≡ u.number
  pub now_seen : seen p ≡ u.found ++ e ∷ []
  pub now_mine : mine p ≡ u.mine ++ e ∷ []
  pub one_step : freed_once u.made (steps p)

-- the turn left no mark, and made one more step, which freed the lock
pub record Unmarked {R : Type 0} (u : Turned R) (p : Pass Element) : Type 0 where
  pub is_pass : IsPassOf number_of u.squeue.gate p
  pub same_number : number p ≡ u.number
  pub now_seen : seen p ≡ u.found
  pub now_mine : mine p ≡ u.mine
  pub one_step : freed_once u.made (steps p)

-- the room of the owner's buffer, where it has one
abbrev pub owners_room : {R : Type 0} → (R → Limits) → Given R → List Element → Option ℕ
owners_room limits g h = buffer_of g.room (is_lone (run (setting_of limits g) h).own h)

-- the hand is what is left of the squeue's hand
pub record IsLeft {R : Type 0} (limits : R → Limits) (g : Given R) (h : List Element) (hand : Handed) : Type 0 where
  pub is_left : hand.left ≡ unprocessed (length hand.left) (run (setting_of limits g) h).hand
  pub has_room : hand.room ≡ owners_room limits g h

-- the hand is the squeue's whole hand
pub record IsWhole {R : Type 0} (limits : R → Limits) (g : Given R) (h : List Element) (hand : Handed) : Type 0 where
  pub is_whole : hand.left ≡ (run (setting_of limits g) h).hand
  pub has_room : hand.room ≡ owners_room limits g h

-- what the resident stands for when all but what is left of the hand is processed, and the act is done
abbrev pub peri_left : {R : Type 0} → (R → Limits) → Given R → List Element → Handed → SynchAct → List Act → Blocks
peri_left limits g h hand act note =
    with_act act note (with_feeds (processed (length hand.left) (run (setting_of limits g) h).hand) (peri (setting_of limits g) h))

-- the first entry of a list
abbrev pub first_entry : List Entry → Option Entry
first_entry [] = None
first_entry (e ∷ es) = Some e

-- the pass whose Ask stands first
abbrev pub asker : List Entry → ℕ
asker [] = 0
asker (Entry'.Feed c n ∷ es) = 0
asker (Entry'.Ask j ∷ es) = j

-- the pass left one mark in one turn, which found a legal history that goes on from what the pass had seen with elements of
-- others
pub record Added {R : Type 0} (limits : R → Limits) (s : Named R) (p : Pass Element) (e : Element) (q : Pass Element) : Type 0 where
  pub found : List Element
  pub goes_on : Begins (seen p) found
  pub legal : Legal (setting_of limits s.given) found
  pub own : only number_of (number p) found ≡ mine p
  pub is_pass : IsPassOf number_of s.gate q
  pub same_number : number q ≡ number p
  pub now_seen : seen q ≡ found ++ e ∷ []
  pub now_mine : mine q ≡ mine p ++ e ∷ []
  pub one_turn : turns_of (steps q) ≡ turns_of (steps p) + 1

-- the worker's pass has seen the end
abbrev pub HasSeenEnd : Setting → Pass Element → Type 0
HasSeenEnd S p = number p ≡ worker S → IsOver S (run S (seen p))

-- each pass has seen a beginning of the history, and made what carries its number
abbrev pub Knows : List Element → Pass Element → Type 0
Knows H p = Begins (seen p) H × (only number_of (number p) H ≡ mine p)

-- what a new squeue was made with, and which blocks are here at its start
pub record IsMade {R : Type 0} (stands : R → Blocks → Type 0) (size : R → ℕ) (number rings : ℕ) (quotas : List (ℕ
    × ℕ)) (traced : Bool) (room : ℕ) (first : R) (g : Given R) : Type 0 where
  pub its_number : g.number ≡ number
  pub its_rings : g.rings ≡ rings
  pub its_quotas : g.quotas ≡ quotas
  pub its_trace : g.traced ≡ traced
  pub its_room : g.room ≡ room
  pub its_first : g.first ≡ first
  pub its_conns : length g.starts ≡ size first
  pub its_blocks : (blocks : Blocks) (c : ℕ) → stands first blocks → slice_index_or g.starts c false ≡ is_some (blocks c)

-- the resident stands for empty lists
abbrev pub StandsEmpty : (Blocks → Type 0) → Type 0
StandsEmpty stands = (blocks : Blocks) × stands blocks × ((c : ℕ) (had : List Act) → blocks c ≡ Some had → had ≡ [])
