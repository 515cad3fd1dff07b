-- Work that arrives written out, for items and sources of any kind: a source gives one item, whose key gets a part, and somebody looks.
use Rattle.std.specs.Prelude.{◌≡◌, ℕ, false, None, List, [], ◌∷◌, ◌++◌}
use Rattle.perimeter_core.specs.declared.entries.Entry.TheVariants.{Feed, Ask}
use Rattle.perimeter_core.specs.declared.marks.SynchAct.TheVariants as Done
use Rattle.perimeter_core.specs.declared.marks.Mark.TheVariants as On
use Rattle.perimeter_core.specs.History.{Element, Setting, plain}
use Rattle.histories.specs.Endings.{Ending}
use Rattle.squeue_streams.specs.declared.streams.Stream.{Stream}
use Rattle.squeue_streams.specs.Taking.{count_of, items_of, state_of}
use Rattle.squeue_arrivals.specs.declared.served.ServedSource.{ServedSource}

-- the ring may enter a feed, and ask as the part comes and goes; who looks may ask once
abbrev pub setting : Setting
setting = record {
  rings = 1;
  quotas = (1, 2) ∷ (0, 1) ∷ (0, 0) ∷ [];
  starts = false ∷ [];
  limits = record { feeds = 1 ∷ []; leaves = 1 ∷ []; calls = [] };
}

-- the ring puts the part in, its item comes, and then the one who looks
abbrev pub looked : List Element
looked =
    plain (On.Claim 0 (Ask 0 ∷ [])) ∷ plain (On.Leave 0 0 (Done.In 0)) ∷ plain (On.Fast 0 (Feed 0 0)) ∷ plain (On.Leave 0 0 Done.None)
    ∷ plain (On.Claim 1 (Ask 1 ∷ [])) ∷ plain (On.Leave 1 0 Done.None) ∷ []

-- and the ring takes the part out; all close
abbrev pub closed : List Element
closed =
    plain (On.Claim 0 (Ask 0 ∷ [])) ∷ plain (On.Leave 0 0 (Done.Out 0)) ∷ plain (On.Close 0) ∷ plain (On.Close 1) ∷ plain (On.Close 2) ∷ []

abbrev pub ending : Ending
ending = record { number = 0; setting = setting; history = looked ++ closed }

-- what is left of a source that gave one item, of this key
pub record GaveOne {T S A O : Type 0} (origin : A → O) (given : A → List (ℕ × T)) (is_over : A → Type 0) (source : A) (left : ServedSource A T S) (key : ℕ) (item : T) : Type 0 where
  pub gave : given left.source ≡ given source ++ (key, item) ∷ []
  pub same : origin left.source ≡ origin source
  pub over : is_over left.source
  pub refused : left.refused ≡ None

module _ {W T S : Type 0} (begins : W → S → Type 0) (step : W → S → T → S → Type 0) (work : W) where
  -- by an item a state comes from one in which a key may begin
  pub record ComesBy (item : T) (from to : S) : Type 0 where
    pub begun : begins work from
    pub taken : step work from item to

  -- a part that has taken this item
  pub record HasItsItem (stream : Stream T S) (item : T) (from : S) : Type 0 where
    pub items : items_of stream ≡ item ∷ []
    pub state : ComesBy item from (state_of stream)
    pub counted : count_of stream ≡ 1
