-- What stands in the places where jobs keep their passes.
use Rattle.std.specs.Prelude.{◌≡◌, ℕ, ◌<◌, Option, Some, None, List, [], ◌∷◌, length}
use Rattle.turn_gate.specs.Passes.{IsPassOf, number, seen, mine}
use Rattle.turn_gate.specs.declared.pass.Pass.{Pass}
use Rattle.perimeter_core.specs.Perimeter.{Idle}
use Rattle.perimeter_core.specs.History.{Element, Limits, run, worker}
use Rattle.perimeter_core.specs.Ending.{IsOver}
use Rattle.squeue_state.specs.Naming.{Named, setting_of}
use Rattle.histories.specs.Elements.{number_of, closed_by}
use Rattle.squeue_state.specs.Clauses.{Added, HasSeenEnd}
use Rattle.squeue_drain.specs.Working.{Worked}

-- the place holds a pass, of which this is so
abbrev pub Holds : (Pass Element → Type 0) → Option (Pass Element) → Type 0
Holds P None = ⊥
Holds P (Some p) = P p

-- the pass in the place became another one, and this is so of the two
abbrev pub Became : (Pass Element → Pass Element → Type 0) → Option (Pass Element) → Option (Pass Element) → Type 0
Became P (Some p) (Some q) = P p q
Became P (Some p) None = ⊥
Became P None o = ⊥

-- there is a place for each squeue, and this is so of each squeue and its place
abbrev pub AtEach : {R A : Type 0} → (Named R → A → Type 0) → List (Named R) → List A → Type 0
AtEach P [] [] = Unit {0}
AtEach P [] (o ∷ os) = ⊥
AtEach P (s ∷ ss) [] = ⊥
AtEach P (s ∷ ss) (o ∷ os) = P s o × AtEach P ss os

-- the same of what stood in each place and what stands there now
abbrev pub AtEachTwo : {R A : Type 0} → (Named R → A → A → Type 0) → List (Named R) → List A → List A → Type 0
AtEachTwo P [] [] [] = Unit {0}
AtEachTwo P (s ∷ ss) (o ∷ os) (n ∷ ns) = P s o n × AtEachTwo P ss os ns
AtEachTwo P [] [] (n ∷ ns) = ⊥
AtEachTwo P [] (o ∷ os) ns = ⊥
AtEachTwo P (s ∷ ss) [] ns = ⊥
AtEachTwo P (s ∷ ss) (o ∷ os) [] = ⊥

module _ {R : Type 0} (limits : R → Limits) (s : Named R) where
  -- the pass isn't the worker's, and isn't closed, owner, granted or waiting
  pub record MayClose (p : Pass Element) : Type 0 where
    pub pass : IsPassOf number_of s.gate p
    pub other : number p < length s.given.quotas
    pub idle : Idle (run (setting_of limits s.given) (seen p)) (number p)

  -- it has left the mark of its closing
  abbrev pub HasClosed : Pass Element → Pass Element → Type 0
  HasClosed p q = Added limits s p (closed_by (number p)) q

  -- the pass is the worker's
  abbrev pub MayWork : Pass Element → Type 0
  MayWork p = IsPassOf number_of s.gate p × (number p ≡ worker (setting_of limits s.given))

  -- it has worked, and seen the end
  abbrev pub HasWorked : Pass Element → Pass Element → Type 0
  HasWorked p q = Worked limits s p q × IsOver (setting_of limits s.given) (run (setting_of limits s.given) (seen q))

-- the pass has this number at the squeue, and has seen nothing
pub record IsNew {R : Type 0} (p : ℕ) (s : Named R) (x : Pass Element) : Type 0 where
  pub pass : IsPassOf number_of s.gate x
  pub is_number : number x ≡ p
  pub none_seen : seen x ≡ []
  pub none_made : mine x ≡ []

-- the pass has this number at the squeue; and the worker's has seen the end
pub record MayEnd {R : Type 0} (limits : R → Limits) (p : ℕ) (s : Named R) (x : Pass Element) : Type 0 where
  pub pass : IsPassOf number_of s.gate x
  pub is_number : number x ≡ p
  pub over : HasSeenEnd (setting_of limits s.given) x
