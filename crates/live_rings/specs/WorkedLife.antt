-- A connection that lived, written out: it begins, hears one frame, and leaves.
use Rattle.std.specs.Prelude.{false, List, [], ◌∷◌}
use Rattle.sq_base.specs.declared.kinds.Tuple.{Tuple}
use Rattle.perimeter_core.specs.declared.entries.Entry.TheVariants.{Ask, Feed}
use Rattle.perimeter_core.specs.declared.marks.Mark.TheVariants as On
use Rattle.perimeter_core.specs.declared.marks.SynchAct.TheVariants as Done
use Rattle.perimeter_core.specs.History.{Element, Setting, plain}
use Rattle.live_server.specs.Told.{Told}
use Rattle.live_server.specs.Told.Told.{begins, hears}

-- what it was told
abbrev pub told : Tuple → List Told
told t = begins t ∷ hears t ∷ []

-- a squeue with one ring and one place, at which no part is at the start
abbrev pub setting : Setting
setting = record {
  rings = 1;
  quotas = (2, 2) ∷ [];
  starts = false ∷ [];
  limits = record { feeds = 2 ∷ []; leaves = 1 ∷ []; calls = [] };
}

-- the ring puts the part in, enters a feed for the beginning and one for the frame, takes the part out, and closes; the worker sees the end
abbrev pub history : List Element
history =
    plain (On.Claim 0 (Ask 0 ∷ []))
    ∷ plain (On.Leave 0 0 (Done.In 0))
    ∷ plain (On.Fast 0 (Feed 0 0))
    ∷ plain (On.Leave 0 0 Done.None)
    ∷ plain (On.Fast 0 (Feed 0 1))
    ∷ plain (On.Leave 0 0 Done.None)
    ∷ plain (On.Claim 0 (Ask 0 ∷ []))
    ∷ plain (On.Leave 0 0 (Done.Out 0))
    ∷ plain (On.Close 0)
    ∷ []
