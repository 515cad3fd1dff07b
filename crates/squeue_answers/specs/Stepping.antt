-- What an item makes of a key's state that answers it.
use Rattle.std.proofs.Common.{Global}
use Rattle.std.specs.Prelude.{◌≡◌, Option, None, Some, [], ◌∷◌, ◌++◌}
use Rattle.rtrb.specs.declared.AnyItems.{AnyItems}
use Rattle.rtrb.specs.declared.producer.Producer.{Producer}
use Rattle.rtrb.specs.Ring.{SameProducer, sent}
use Rattle.squeue_answers.specs.declared.steps.Answerer.{Answerer}
use Rattle.squeue_answers.specs.declared.steps.Asked.{Asked}

-- the first end that there is, if any
abbrev pub or_else : {P : Type 0} → Option P → Option P → Option P
or_else (Some p) other = Some p
or_else None other = other

-- the answer was pushed into this ring; where there is none it is lost
abbrev pub IsPushed : {A : Type 0} → A → Option (Producer A Global AnyItems) → Option (Producer A Global AnyItems) → Type 0
IsPushed a (Some p) (Some q) = SameProducer p q × (sent q ≡ sent p ++ a ∷ [])
IsPushed a (Some p) None = ⊥
IsPushed a None out = out ≡ None

-- a key begins in one of these states, and nowhere its answers go
pub record Begins {A S : Type 0} (begins : S → Type 0) (s : Answerer S A) : Type 0 where
  pub begun : begins s.state
  pub nowhere : s.out ≡ None

-- the item made this of the state with some answer, which was pushed into the ring that the item carries, else into that of the state
pub record Steps {T A S : Type 0} (step : S → T → A → S → Type 0) (s : Answerer S A) (x : Asked T A) (next : Answerer S A) : Type 0 where
  pub answer : A
  pub made : step s.state x.item answer next.state
  pub pushed : IsPushed answer (or_else x.out s.out) next.out
