-- Keys at their places: with what each begins, and what an item does there.
use Rattle.std.specs.Prelude.{◌≡◌, ℕ, All, Some, List, slice_get}
use Rattle.std.proofs.Common.{Global}
use Rattle.rtrb.specs.declared.AnyItems.{AnyItems}
use Rattle.rtrb.specs.declared.consumer.Consumer.{Consumer}
use Rattle.squeue_streams.specs.declared.streams.Stream.{Stream}
use Rattle.squeue_streams.specs.Taking.{input_of, state_of}
use Rattle.squeue_arrivals.specs.declared.steps.Keyed.{Keyed}

module _ {W T S : Type 0} where
  -- what is made of items, and the streams with which a run begins, by number
  abbrev pub work_of : Keyed W T S → W
  work_of o = o.steps

  abbrev pub first_of : Keyed W T S → List (Stream T S)
  first_of o = o.first.value.items

  -- stream c begins with this end of a ring, and in this state
  pub record IsFirst (o : Keyed W T S) (c : ℕ) (input : Consumer T Global AnyItems) (state : S) : Type 0 where
    pub stream : Stream T S
    pub its_number : slice_get (first_of o) c ≡ Some stream
    pub its_input : input_of stream ≡ input
    pub its_state : state_of stream ≡ state

  -- a key may begin with each of these streams
  abbrev pub AreBegun : (W → S → Type 0) → Keyed W T S → Type 0
  AreBegun begins o = All (λ stream. begins (work_of o) (state_of stream)) (first_of o)

  -- what one item does to a state
  abbrev pub Tells : (W → S → T → S → Type 0) → Keyed W T S → S → T → S → Type 0
  Tells step o = step (work_of o)
