-- A source with its sink.
use Rattle.std.specs.Prelude.{◌≡◌, ℕ, Bool, true, false, List, [], ◌∷◌, ◌++◌, map}
use Rattle.squeue_answers.specs.declared.rings.AnswerRings.{AnswerRings}
use Rattle.squeue_answers.specs.declared.steps.Asked.{Asked}
use Rattle.squeue_answers.specs.Rings.{AreAnswered, HaveWays, Out, is_stopped, keys_in, values_in, waiting_in}

module _ {T A : Type 0} where
  -- the items as their source gave them, and what they carry
  abbrev pub plain : List (ℕ × Asked T A) → List (ℕ × T)
  plain all = map (λ e. (e.0, e.1.item)) all

  abbrev pub outs_in : List (ℕ × Asked T A) → List (ℕ × Out A)
  outs_in all = map (λ e. (e.0, e.1.out)) all

  -- one more item was given behind these, or none
  abbrev pub IsBehind : Bool → List (ℕ × Asked T A) → List (ℕ × Asked T A) → Type 0
  IsBehind false front all = all ≡ front
  IsBehind true front all = (last : ℕ × Asked T A) × (all ≡ front ++ last ∷ [])

-- what contracts see of a source with its sink: both as they are, and as they were at first; the items that were given; which of them wait;
-- and whether nothing is given any more because a key found no ring
pub record AskingOf (S K T A : Type 0) : Type 0 where
  pub source : S
  pub sink : K
  pub first : S
  pub quiet : K
  pub given : List (ℕ × Asked T A)
  pub waiting : List ℕ
  pub stopped : Bool

-- nothing was given
abbrev pub new_asking : {S K T A : Type 0} → S → K → AskingOf S K T A
new_asking source sink = record { source = source; sink = sink; first = source; quiet = sink; given = []; waiting = []; stopped = false }

module _ {S K T A : Type 0} (gave : S → List (ℕ × T)) (is_over : S → Type 0) (got : K → List A) where
  -- The source gave just these items. All of them, but for one behind which nothing is given, have their ways, and some of these were
  -- answered by the sink's answers
  pub record Asks (source first : S) (sink quiet : K) (given : List (ℕ × Asked T A)) (rings : AnswerRings A) (over : Bool) : Type 0 where
    pub front : List (ℕ × Asked T A)
    pub done : List (ℕ × A)
    pub behind : IsBehind (is_stopped rings) front given
    pub came : gave source ≡ gave first ++ plain given
    pub told : got sink ≡ got quiet ++ values_in done
    pub ways : HaveWays (outs_in front) rings
    pub answered : AreAnswered (keys_in front) done rings
    pub ended : over ≡ true → is_over source

-- All these items are answered by the sink's answers. They are the first of those that have their ways
pub record HasFinished {K T A : Type 0} (got : K → List A) (all : List (ℕ × Asked T A)) (quiet sink : K) (rings : AnswerRings A) : Type 0 where
  pub front : List (ℕ × Asked T A)
  pub behind : (more : List (ℕ × Asked T A)) × (front ≡ all ++ more)
  pub done : List (ℕ × A)
  pub told : got sink ≡ got quiet ++ values_in done
  pub ways : HaveWays (outs_in front) rings
  pub answered : AreAnswered (keys_in all) done rings
  pub none : waiting_in rings ≡ []
