-- All sources and their sinks, once they are served.
use Rattle.std.proofs.Common.{◌≡◌, ℕ, List, map, subst}
use Rattle.histories.specs.Endings.{Ending}
use Rattle.ring_groups.specs.Groups.{AllBecame, AllOfGroups}
use Rattle.squeue_arrivals.specs.declared.served.ServedSource.{ServedSource}
use Rattle.squeue_answers.specs.declared.serving.AnsweredSource.{AnsweredSource}
use Rattle.squeue_answers.specs.declared.steps.Answerer.{Answerer}
use Rattle.squeue_answers.specs.declared.steps.Asked.{Asked}
use Rattle.squeue_answers.specs.Answering.{IsAnswered, IsAnsweredIn}
use Rattle.squeue_answers.specs.Asking.{AskingOf, new_asking}
use Rattle.squeue_answers.specs.Serving.{IsFinished, IsServedSource, IsServedSourceIn, WasServed, WasServedIn}
use Rattle.squeue_answers.proofs.Became.{became_back, became_on, groups_back, groups_on}

module _ {V W T A S X K O : Type 0} (steps_of : V → W) (begins : W → S → Type 0) (step : W → S → T → A → S → Type 0) (origin : X → O) (given : X → List (ℕ × T))
    (is_over : X → Type 0) (got : K → List A) (work : V) (most : ℕ) (sources : List (X × K)) (asking : List (AskingOf X K T A))
    (lefts : List (ServedSource (AskingOf X K T A) (Asked T A) (Answerer S A))) (made : asking ≡ map (λ s. new_asking s.0 s.1) sources) where
  abbrev Served : AskingOf X K T A → ServedSource (AskingOf X K T A) (Asked T A) (Answerer S A) → Type 0
  Served = IsServedSource steps_of begins step origin given is_over got work most

  abbrev ServedIn : Ending → ℕ → AskingOf X K T A → ServedSource (AskingOf X K T A) (Asked T A) (Answerer S A) → Type 0
  ServedIn = IsServedSourceIn steps_of begins step origin given is_over got work most

  pub were_served : AllBecame Served asking lefts → AllBecame (WasServed steps_of begins step origin given is_over got work most) sources lefts
  were_served h = became_back (λ (s : X × K). new_asking s.0 s.1) Served sources lefts (subst (λ (l : List (AskingOf X K T A)). AllBecame Served l lefts) made h)

  pub all_answered : (results : List (AnsweredSource X K T S)) → AllBecame Served asking lefts → AllBecame (IsFinished steps_of begins step origin given is_over got work most) lefts results
      → AllBecame (IsAnswered begins step origin given is_over got (steps_of work) most) sources results
  all_answered results h fin =
      became_on (IsFinished steps_of begins step origin given is_over got work most) (WasServed steps_of begins step origin given is_over got work most)
      (IsAnswered begins step origin given is_over got (steps_of work) most) (λ s l r was f. f.whole s was) sources lefts results (were_served h) fin

  pub groups_answered : (zs : List Ending) (results : List (AnsweredSource X K T S)) → AllOfGroups ServedIn zs asking lefts
      → AllBecame (IsFinished steps_of begins step origin given is_over got work most) lefts results → AllOfGroups (IsAnsweredIn begins step origin given is_over got (steps_of work) most) zs sources results
  groups_answered zs results h fin =
      let back = groups_back (λ (s : X × K). new_asking s.0 s.1) ServedIn zs sources lefts (subst (λ (l : List (AskingOf X K T A)). AllOfGroups ServedIn zs l lefts) made h) in
      groups_on (IsFinished steps_of begins step origin given is_over got work most) (WasServedIn steps_of begins step origin given is_over got work most)
      (IsAnsweredIn begins step origin given is_over got (steps_of work) most) (λ z k s l r was f. f.histories z k s was) zs sources lefts results back fin
