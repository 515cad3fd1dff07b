-- Parts that answered, and the same without what they needed for that.
use Rattle.std.proofs.Common.{Global}
use Rattle.std.specs.Prelude.{◌≡◌, ◌++◌, ℕ, Option, None, Some, List, map}
use Rattle.rtrb.specs.declared.AnyItems.{AnyItems}
use Rattle.rtrb.specs.declared.consumer.Consumer.{Consumer}
use Rattle.rtrb.specs.declared.producer.Producer.{Producer}
use Rattle.rtrb.specs.Ring.{IsPair, received, sent}
use Rattle.squeue_arrivals.specs.declared.served.KeyPart.{KeyPart}
use Rattle.squeue_arrivals.specs.declared.served.Refused.{Refused}
use Rattle.squeue_answers.specs.declared.rings.AnswerRings.{AnswerRings}
use Rattle.squeue_answers.specs.declared.steps.Answerer.{Answerer}
use Rattle.squeue_answers.specs.declared.steps.Asked.{Asked}
use Rattle.squeue_answers.specs.Rings.{Out, input_at}

module _ {A : Type 0} where
  -- this is the other end of the key's ring
  abbrev pub MayCompareAt : AnswerRings A → ℕ → Out A → Type 0
  MayCompareAt r k o = (input : Consumer A Global AnyItems) (out : Producer A Global AnyItems) → input_at r k ≡ Some input → o ≡ Some out → IsPair out input

  -- all that was pushed there came, or is still to come
  abbrev pub IsComparedAt : AnswerRings A → ℕ → Out A → Type 0
  IsComparedAt r k o =
      (input : Consumer A Global AnyItems) (out : Producer A Global AnyItems) → input_at r k ≡ Some input → o ≡ Some out
      → (left : List A) × (received input ++ left ≡ sent out)

module _ {S A : Type 0} where
  abbrev pub plain_part : KeyPart (Answerer S A) → KeyPart S
  plain_part p = record { key = p.key; state = p.state.state }

  abbrev pub plain_parts : List (KeyPart (Answerer S A)) → List (KeyPart S)
  plain_parts parts = map plain_part parts

  -- the part pushes into the ring of its key
  abbrev pub MayCompare : AnswerRings A → KeyPart (Answerer S A) → Type 0
  MayCompare r p = MayCompareAt r p.key p.state.out

  abbrev pub IsCompared : AnswerRings A → KeyPart (Answerer S A) → Type 0
  IsCompared r p = IsComparedAt r p.key p.state.out

module _ {T A : Type 0} where
  abbrev pub plain_refused : Option (Refused (Asked T A)) → Option (Refused T)
  plain_refused None = None
  plain_refused (Some r) = Some (record { key = r.key; item = r.item.item; cause = r.cause })
