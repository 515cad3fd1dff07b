-- A run written out, for parts of any kind: one squeue, one ring that brings two feeds of the only connection, and one thread that calls it.
use Rattle.std.proofs.Common.{arith}
use Rattle.std.specs.Prelude.{◌≡◌, ℕ, true, false, List, [], ◌∷◌, Some}
use Rattle.perimeter_core.specs.declared.entries.Act.{Act}
use Rattle.perimeter_core.specs.declared.entries.Act.TheVariants as Did
use Rattle.perimeter_core.specs.declared.entries.Entry.TheVariants.{Feed, Ask}
use Rattle.perimeter_core.specs.declared.marks.SynchAct.TheVariants as Done
use Rattle.perimeter_core.specs.declared.marks.Mark.TheVariants as On
use Rattle.perimeter_core.specs.History.{Element, Setting, plain}
use Rattle.placed_parts.specs.Placing.{parts_of, shared_of}
use Rattle.placed_parts.specs.declared.parts.Parts.{Ghosts}
use Rattle.placed_parts.specs.declared.places.Places.{Places}
use Rattle.histories.specs.declared.mode.Mode.TheVariants as Mode'
use Rattle.histories.specs.Endings.{Ending}
use Rattle.squeue_state.specs.Told.{Traced}
use Rattle.squeue_pool.specs.Calls.{limits_for}
use Rattle.squeue_pool.specs.Finishing.{FinishedOf}
use Rattle.squeue_pool.specs.declared.pool.Pool.{Pool}

abbrev pub pool : Pool
pool = record {
  pace = record {
    homes = record { squeues = 1; spread = 0; some = omega arith };
    mode = Mode'.Process;
    budget = 64;
    spends = omega arith;
  };
  rings = 1;
  trace = false;
}

-- the connection has two feeds, and the only thread calls it once
abbrev pub counts : List ℕ
counts = 2 ∷ []

abbrev pub calls : List (List ℕ)
calls = (0 ∷ []) ∷ []

-- the ring may enter its feeds, and ask twice before each; the thread asks for its call, and once more for each time that the block may leave
abbrev pub setting : Setting
setting = record {
  rings = 1;
  quotas = (2, 4) ∷ (0, 3) ∷ [];
  starts = true ∷ [];
  limits = limits_for counts calls;
}

-- the ring brings both feeds at once, finds the squeue free, and processes them; then the thread comes, and calls
abbrev pub history : List Element
history =
    plain (On.Claim 0 (Feed 0 0 ∷ Feed 0 1 ∷ [])) ∷ plain (On.Leave 0 0 Done.None)
    ∷ plain (On.Claim 1 (Ask 1 ∷ [])) ∷ plain (On.Leave 1 0 (Done.Call 0 0 0))
    ∷ plain (On.Close 0) ∷ plain (On.Close 1) ∷ []

abbrev pub ending : Ending
ending = record { number = 0; setting = setting; history = history }

-- what was done to the block
abbrev pub order : List Act
order = Did.Feed 0 ∷ Did.Feed 1 ∷ Did.Call 0 0 ∷ []

abbrev pub no_trace : Traced
no_trace = record { marks = []; entries = []; mark_room = 0; entry_room = 0 }

abbrev pub finished : {P : Type 0} → P → FinishedOf P
finished part = record { parts = Some part ∷ []; ended = ending ∷ []; traces = no_trace ∷ [] }

module _ {S P O : Type 0} (G : Ghosts S P O) (shared : S) (first last : Places S P O G) where
  -- These are the resident of the squeue when it was made and when it has ended: what the parts share lets the connection have these feeds
  -- and this call, and its part was new, and stands for what was done
  pub record AreResidents (new part : P) : Type 0 where
    pub limits : G.limits shared ≡ limits_for counts calls
    pub shared_first : shared_of first ≡ shared
    pub shared_last : shared_of last ≡ shared
    pub lies : parts_of first ≡ Some new ∷ []
    pub is_new : G.is_part_of (G.origin shared) 0 new × G.part_stands new []
    pub lies_then : parts_of last ≡ Some part ∷ []
    pub stands : G.is_part_of (G.origin shared) 0 part × G.part_stands part order
