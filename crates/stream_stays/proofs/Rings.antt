-- The two ends of a ring, and what was made of its items.
use Rattle.std.proofs.Common.{Global, ℕ, sym, ◌∙◌}
use Rattle.rtrb.specs.declared.AnyItems.{AnyItems}
use Rattle.rtrb.specs.declared.consumer.Consumer.{Consumer}
use Rattle.rtrb.specs.declared.producer.Producer.{Producer}
use Rattle.rtrb.specs.Ring.{IsPair, SameConsumer, SameProducer}
use Rattle.squeue_streams.specs.declared.streams.Stream.{Stream}
use Rattle.squeue_streams.specs.Taking.{IsStreamOf, input_of}
use Rattle.stream_stays.specs.Staying.{IsOfRing}

module _ {T : Type 0} where
  -- who has one end has it also where the other one went on
  pub pair_on : (p : Producer T Global AnyItems) (a b : Consumer T Global AnyItems) → IsPair p a → SameConsumer a b → IsPair p b
  pair_on p a b x y = (y.0.0 ∙ x.0, y.0.1 ∙ x.1, y.0.2 ∙ x.2, y.0.3 ∙ x.3)

  pub pair_by : (p q : Producer T Global AnyItems) (a : Consumer T Global AnyItems) → IsPair p a → SameProducer p q → IsPair q a
  pair_by p q a x y = (x.0 ∙ sym y.0.0, x.1 ∙ sym y.0.1, x.2 ∙ sym y.0.2, x.3 ∙ sym y.0.3)

  module _ {S O : Type 0} (begins : O → ℕ → Consumer T Global AnyItems → S → Type 0) where
    pub of_ring : (o : O) (c : ℕ) (p q : Producer T Global AnyItems) → SameProducer p q → IsOfRing begins o c p → IsOfRing begins o c q
    of_ring o c p q same is = λ input first begun. pair_by p q input (is input first begun) same

    module _ (step : O → S → T → S → Type 0) (o : O) (c : ℕ) (a : Stream T S) (is : IsStreamOf begins step o c a) where
      -- the part of a stream has the other end of its ring
      pub its_pair : (p : Producer T Global AnyItems) → IsOfRing begins o c p → IsPair p (input_of a)
      its_pair p ring = pair_on p is.first_input (input_of a) (ring is.first_input is.first is.begun) is.its_ring
