-- From sources that were served to sources whose items were answered.
use Rattle.std.specs.Prelude.{◌≡◌, ℕ, false, List, []}
use Rattle.histories.specs.Endings.{Ending}
use Rattle.squeue_arrivals.specs.Arriving.{IsServed, IsServedIn}
use Rattle.squeue_arrivals.specs.declared.served.ServedSource.{ServedSource}
use Rattle.squeue_answers.specs.declared.serving.AnsweredSource.{AnsweredSource}
use Rattle.squeue_answers.specs.declared.steps.Answerer.{Answerer}
use Rattle.squeue_answers.specs.declared.steps.Asked.{Asked}
use Rattle.squeue_answers.specs.Answering.{IsAnswered, IsAnsweredIn}
use Rattle.squeue_answers.specs.Asking.{AskingOf, new_asking}
use Rattle.squeue_answers.specs.Stepping.{Begins, Steps}

module _ {V W T A S X K O : Type 0} (steps_of : V → W) (begins : W → S → Type 0) (step : W → S → T → A → S → Type 0) (origin : X → O) (given : X → List (ℕ × T))
    (is_over : X → Type 0) (got : K → List A) (work : V) (most : ℕ) where
  -- a source with its sink is served
  abbrev pub IsServedSource : AskingOf X K T A → ServedSource (AskingOf X K T A) (Asked T A) (Answerer S A) → Type 0
  IsServedSource =
      IsServed {O = O × X × K} (λ w. Begins (begins (steps_of w))) (λ w. Steps (step (steps_of w))) (λ s. (origin s.source, s.first, s.quiet)) (λ s. s.given)
      (λ s. is_over s.source × (s.waiting ≡ []) × (s.stopped ≡ false)) work most

  abbrev pub IsServedSourceIn : Ending → ℕ → AskingOf X K T A → ServedSource (AskingOf X K T A) (Asked T A) (Answerer S A) → Type 0
  IsServedSourceIn =
      IsServedIn {O = O × X × K} (λ w. Begins (begins (steps_of w))) (λ w. Steps (step (steps_of w))) (λ s. (origin s.source, s.first, s.quiet)) (λ s. s.given)
      (λ s. is_over s.source × (s.waiting ≡ []) × (s.stopped ≡ false)) work most

  -- where it had given nothing
  abbrev pub WasServed : X × K → ServedSource (AskingOf X K T A) (Asked T A) (Answerer S A) → Type 0
  WasServed source left = IsServedSource (new_asking source.0 source.1) left

  abbrev pub WasServedIn : Ending → ℕ → X × K → ServedSource (AskingOf X K T A) (Asked T A) (Answerer S A) → Type 0
  WasServedIn end k source left = IsServedSourceIn end k (new_asking source.0 source.1) left

  -- some source with a sink is
  abbrev pub IsLeft : ServedSource (AskingOf X K T A) (Asked T A) (Answerer S A) → Type 0
  IsLeft left = (source : X × K) × WasServed source left

  -- what is left of it is then what is left of one whose items were answered
  pub record IsFinished (left : ServedSource (AskingOf X K T A) (Asked T A) (Answerer S A)) (answered : AnsweredSource X K T S) : Type 0 where
    pub whole : (source : X × K) → WasServed source left → IsAnswered begins step origin given is_over got (steps_of work) most source answered
    pub histories : (end : Ending) (k : ℕ) (source : X × K) → WasServedIn end k source left → IsAnsweredIn begins step origin given is_over got (steps_of work) most end k source answered
