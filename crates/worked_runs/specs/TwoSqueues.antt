-- A run with a move written out: two squeues, one ring, and one connection whose two items are at home at one squeue each.
use Rattle.std.specs.Prelude.{ℕ, true, false, Bool, List, [], ◌∷◌}
use Rattle.perimeter_core.specs.declared.entries.Act.TheVariants as Did
use Rattle.perimeter_core.specs.declared.entries.Entry.TheVariants.{Feed, Ask}
use Rattle.perimeter_core.specs.declared.marks.SynchAct.TheVariants as Done
use Rattle.perimeter_core.specs.declared.marks.Mark.TheVariants as On
use Rattle.perimeter_core.specs.History.{Element, Setting, plain}
use Rattle.histories.specs.declared.mode.Mode.TheVariants as Mode'
use Rattle.histories.specs.Endings.{Ending}
use Rattle.conn_classifier.specs.Plan.{PlanOf}
use Rattle.ring_quotas.specs.declared.setup.Setup.{Setup}
use Rattle.ring_threads.specs.Served.{ServedOf}
use Rattle.worked_runs.specs.OneSqueue.{block, no_trace}

abbrev pub setup : Setup
setup = record { squeues = 2; rings = 1; mode = Mode'.Process; budget = 64; spread = 1; trace = false }

-- the ring enters a feed and an ask at each squeue; the block may leave the first one
abbrev pub setting_with : Bool → ℕ → Setting
setting_with here leaves = record {
  rings = 1;
  quotas = (1, 1) ∷ (0, 0) ∷ (0, 0) ∷ (0, 0) ∷ (0, 0) ∷ [];
  starts = here ∷ [];
  limits = record { feeds = 2 ∷ []; leaves = leaves ∷ []; calls = [] };
}

abbrev pub first_setting : Setting
first_setting = setting_with true 1

abbrev pub second_setting : Setting
second_setting = setting_with false 0

-- the block has its first item here, and goes
abbrev pub first_history : List Element
first_history =
    plain (On.Fast 0 (Feed 0 0)) ∷ plain (On.Leave 0 0 Done.None) ∷ plain (On.Claim 0 (Ask 0 ∷ [])) ∷ plain (On.Leave 0 0 (Done.Out 0))
    ∷ plain (On.Close 0) ∷ plain (On.Close 1) ∷ plain (On.Close 2) ∷ plain (On.Close 3) ∷ plain (On.Close 4) ∷ []

-- it comes with a note of what was done to it, and has its second one
abbrev pub second_history : List Element
second_history =
    plain (On.Claim 0 (Ask 0 ∷ [])) ∷ record { mark = On.Leave 0 0 (Done.In 0); note = Did.Feed 0 ∷ [] } ∷ plain (On.Fast 0 (Feed 0 1))
    ∷ plain (On.Leave 0 0 Done.None)
    ∷ plain (On.Close 0) ∷ plain (On.Close 1) ∷ plain (On.Close 2) ∷ plain (On.Close 3) ∷ plain (On.Close 4) ∷ []

abbrev pub first : Ending
first = record { number = 0; setting = first_setting; history = first_history }

abbrev pub second : Ending
second = record { number = 1; setting = second_setting; history = second_history }

abbrev pub both : List Ending
both = first ∷ second ∷ []

abbrev pub served : PlanOf → ServedOf
served p = record { blocks = block p ∷ []; ended = both; traces = no_trace ∷ no_trace ∷ [] }
