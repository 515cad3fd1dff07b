-- A look written out, for parts of any kind: a ring brings two feeds of the only connection, and then a thread looks.
use Rattle.std.specs.Prelude.{◌≡◌, ◌+◌, true, Option, Some, List, [], ◌∷◌, ◌++◌}
use Rattle.turn_gate.specs.Passes.{IsPassOf, number, seen}
use Rattle.turn_gate.specs.declared.pass.Pass.{Pass}
use Rattle.perimeter_core.specs.declared.entries.Act.{Act}
use Rattle.perimeter_core.specs.declared.entries.Act.TheVariants as Did
use Rattle.perimeter_core.specs.declared.entries.Entry.TheVariants.{Feed, Ask}
use Rattle.perimeter_core.specs.declared.marks.SynchAct.TheVariants as Done
use Rattle.perimeter_core.specs.declared.marks.Mark.TheVariants as On
use Rattle.perimeter_core.specs.History.{Element, Setting, plain, run}
use Rattle.perimeter_core.specs.Legal.{asks_by}
use Rattle.perimeter_core.specs.Perimeter.{Idle}
use Rattle.placed_parts.specs.Placing.{limits_of, origin_of, parts_of}
use Rattle.placed_parts.specs.declared.parts.Parts.{Ghosts}
use Rattle.placed_parts.specs.declared.places.Places.{Places}
use Rattle.histories.specs.Elements.{number_of}
use Rattle.squeue_state.specs.Naming.{Named, setting_of}
use Rattle.squeue_drain.specs.Draining.{GoesOn}
use Rattle.synch_enter.specs.Seeing.{HasSeen}
use Rattle.squeue_pool.specs.Placed.{as_resident}

-- the ring may enter its two feeds, and the thread look once
abbrev pub setting : Setting
setting = record {
  rings = 1;
  quotas = (2, 0) ∷ (0, 1) ∷ [];
  starts = true ∷ [];
  limits = record { feeds = 2 ∷ []; leaves = 0 ∷ []; calls = [] };
}

-- the ring brings both feeds at once, finds the squeue free, and processes them; then the thread comes, looks, and leaves
abbrev pub before : List Element
before = plain (On.Claim 0 (Feed 0 0 ∷ Feed 0 1 ∷ [])) ∷ plain (On.Leave 0 0 Done.None) ∷ []

abbrev pub after : List Element
after = before ++ plain (On.Claim 1 (Ask 1 ∷ [])) ∷ plain (On.Leave 1 0 Done.None) ∷ []

abbrev pub order : List Act
order = Did.Feed 0 ∷ Did.Feed 1 ∷ []

module _ {S P O : Type 0} (G : Ghosts S P O) (s : Named (Places S P O G)) where
  -- The pass of the thread has seen the one history before, and the other one afterwards. The squeue's resident has the part of the
  -- connection, which has had both feeds
  pub record IsLooked (r : Places S P O G) (part : P) (from to : Pass Element) : Type 0 where
    pub setting_is : setting_of limits_of s.given ≡ setting
    pub is_pass : IsPassOf number_of s.gate to
    pub numbers : (number from ≡ 1) × (number to ≡ 1)
    pub saw : (seen from ≡ before) × (seen to ≡ after)
    pub same : (limits_of r ≡ limits_of s.given.first) × (origin_of r ≡ origin_of s.given.first)
    pub lies : parts_of r ≡ Some part ∷ []
    pub stands : G.is_part_of (origin_of r) 0 part × G.part_stands part order

  -- what a look promises, where it reads off all parts
  pub record HasLooked (from to : Pass Element) (parts : List (Option P)) : Type 0 where
    pub goes_on : GoesOn limits_of s from to
    pub has_seen : HasSeen (as_resident G) s (λ r ps. parts_of r ≡ ps) (seen to) parts
    pub idle : Idle (run (setting_of limits_of s.given) (seen to)) (number to)
    pub asks : asks_by (number to) (seen to) ≡ asks_by (number from) (seen from) + 1
