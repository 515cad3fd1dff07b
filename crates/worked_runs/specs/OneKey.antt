-- Work by key written out, for parts of any kind: one squeue, one ring that brings two feeds of the only connection, and nobody calls.
use Rattle.std.specs.Prelude.{◌≡◌, ℕ, true, List, [], ◌∷◌, Some}
use Rattle.perimeter_core.specs.declared.entries.Act.{Act}
use Rattle.perimeter_core.specs.declared.entries.Act.TheVariants as Did
use Rattle.perimeter_core.specs.declared.entries.Entry.TheVariants.{Feed}
use Rattle.perimeter_core.specs.declared.marks.SynchAct.TheVariants as Done
use Rattle.perimeter_core.specs.declared.marks.Mark.TheVariants as On
use Rattle.perimeter_core.specs.History.{Element, Limits, Setting, plain}
use Rattle.placed_parts.specs.Placing.{parts_of, shared_of}
use Rattle.placed_parts.specs.declared.parts.Parts.{Ghosts}
use Rattle.placed_parts.specs.declared.places.Places.{Places}
use Rattle.histories.specs.Endings.{Ending}
use Rattle.squeue_pool.specs.declared.served.ServedParts.{ServedParts}
use Rattle.squeue_pool.specs.ServedParts.{counts_of}
use Rattle.worked_runs.specs.OneCall.{no_trace}

-- the connection has two feeds
abbrev pub counts : List ℕ
counts = 2 ∷ []

abbrev pub limits : Limits
limits = record { feeds = counts; leaves = 0 ∷ []; calls = [] }

abbrev pub setting : Setting
setting = record { rings = 1; quotas = (2, 0) ∷ []; starts = true ∷ []; limits = limits }

-- the ring brings one feed after the other, and finds the squeue free each time
abbrev pub history : List Element
history =
    plain (On.Fast 0 (Feed 0 0)) ∷ plain (On.Leave 0 0 Done.None) ∷ plain (On.Fast 0 (Feed 0 1)) ∷ plain (On.Leave 0 0 Done.None)
    ∷ plain (On.Close 0) ∷ []

abbrev pub ending : Ending
ending = record { number = 0; setting = setting; history = history }

-- the same with one feed less
abbrev pub too_short : Ending
too_short = record {
  number = 0;
  setting = setting;
  history = plain (On.Fast 0 (Feed 0 0)) ∷ plain (On.Leave 0 0 Done.None) ∷ plain (On.Close 0) ∷ [];
}

abbrev pub order : List Act
order = Did.Feed 0 ∷ Did.Feed 1 ∷ []

module _ {S P O : Type 0} (G : Ghosts S P O) (end : Ending) where
  -- This is what is left of the squeue at an end, with its residents when it was made and then: what the parts share lets the connection have
  -- these feeds, and its part was new, and stands for both
  pub record IsLeftOf (v : ServedParts S P O G) (first last : Places S P O G) (new part : P) : Type 0 where
    pub counts_are : counts_of v ≡ counts
    pub left : v.left.items ≡ record { resident = last; end = end; trace = no_trace } ∷ []
    pub limits_are : G.limits v.shared ≡ limits
    pub shared_first : shared_of first ≡ v.shared
    pub shared_last : shared_of last ≡ v.shared
    pub lies : parts_of first ≡ Some new ∷ []
    pub is_new : G.is_part_of (G.origin v.shared) 0 new × G.part_stands new []
    pub lies_then : parts_of last ≡ Some part ∷ []
    pub stands : G.is_part_of (G.origin v.shared) 0 part × G.part_stands part order
