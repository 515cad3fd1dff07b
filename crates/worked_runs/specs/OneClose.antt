-- A place that is closed written out, for items and steps of any kind: its ring brings one item, and then takes the part out.
use Rattle.std.specs.Prelude.{◌≡◌, ℕ, ◌+◌, true, List, [], ◌∷◌}
use Rattle.std.proofs.Common.{Global}
use Rattle.rtrb.specs.declared.AnyItems.{AnyItems}
use Rattle.rtrb.specs.declared.consumer.Consumer.{Consumer}
use Rattle.rtrb.specs.Ring.{SameConsumer}
use Rattle.perimeter_core.specs.declared.entries.Entry.TheVariants.{Feed, Ask}
use Rattle.perimeter_core.specs.declared.marks.SynchAct.TheVariants as Done
use Rattle.perimeter_core.specs.declared.marks.Mark.TheVariants as On
use Rattle.perimeter_core.specs.Deeds.{acts, fed}
use Rattle.perimeter_core.specs.History.{Element, Setting, plain}
use Rattle.squeue_streams.specs.Taking.{IsStreamOf, count_of, input_of, items_of, state_of}
use Rattle.stream_stays.specs.Staying.{leaves_of, pushed_of, sent_of}
use Rattle.stream_stays.specs.declared.stay.Stay.{Stay}
use Rattle.stream_stays.specs.declared.stay.Vacant.{Vacant}

-- the ring may enter a feed, and ask once
abbrev pub setting : Setting
setting = record {
  rings = 1;
  quotas = (1, 1) ∷ [];
  starts = true ∷ [];
  limits = record { feeds = 1 ∷ []; leaves = 1 ∷ []; calls = [] };
}

abbrev pub history : List Element
history =
    plain (On.Fast 0 (Feed 0 0)) ∷ plain (On.Leave 0 0 Done.None) ∷ plain (On.Claim 0 (Ask 0 ∷ [])) ∷ plain (On.Leave 0 0 (Done.Out 0)) ∷ []

-- the same without the feed
abbrev pub unfed : List Element
unfed = plain (On.Claim 0 (Ask 0 ∷ [])) ∷ plain (On.Leave 0 0 (Done.Out 0)) ∷ []

module _ {T S O : Type 0} (begins : O → ℕ → Consumer T Global AnyItems → S → Type 0) (step : O → S → T → S → Type 0) (o : O) (stay : Stay T) (vacant : Vacant T S) where
  -- the stay had one item, which its part, taken out, has taken from this state, in which it began with this end of a ring
  pub record IsClosed (item : T) (from : S) (input : Consumer T Global AnyItems) : Type 0 where
    pub leaves : (leaves_of stay ≡ 1) × (vacant.leaves ≡ 0)
    pub pushed : pushed_of stay ≡ 1
    pub items : sent_of stay ≡ item ∷ []
    pub begun : begins o 0 input from
    pub its_ring : SameConsumer input (input_of vacant.part)
    pub taken : (items_of vacant.part ≡ item ∷ []) × step o from item (state_of vacant.part)
    pub counted : count_of vacant.part ≡ 1

  -- what a close promises of a place that was open, in this history
  pub record HasClosed (H : List Element) : Type 0 where
    pub leaves : leaves_of stay ≡ vacant.leaves + 1
    pub feeds : fed (acts setting H 0) ≡ pushed_of stay
    pub all : items_of vacant.part ≡ sent_of stay
    pub made : IsStreamOf begins step o 0 vacant.part
