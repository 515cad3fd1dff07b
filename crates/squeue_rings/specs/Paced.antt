-- What is so of a ring that keeps its pace: each of its marks is the one for what its turn found.
use Rattle.std.specs.Prelude.{◌≡◌, ℕ, true, Option, None, List, []}
use Rattle.turn_gate.specs.Passes.{seen}
use Rattle.turn_gate.specs.declared.pass.Pass.{Pass}
use Rattle.perimeter_core.specs.declared.marks.Mark.{Mark}
use Rattle.perimeter_core.specs.History.{Element, Limits, Setting, run}
use Rattle.squeue_state.specs.Naming.{Named, setting_of}
use Rattle.histories.specs.declared.mode.Mode.{Mode}
use Rattle.squeue_serve.specs.Places.{AtEach, Holds}
use Rattle.squeue_rings.specs.OwnMarks.{EachOwn, GoesByTable, moves_block}
use Rattle.histories.specs.Keeping.{KeepsPace, leaves_it, taken}

-- A mark of ring r behind this past: it enters feeds by the way of the table; and where the ring leaves, without having taken the
-- perimeter with feeds, and so at its own Ask, it takes a block out or puts one in
pub record OfRing (mode : Mode) (S : Setting) (r : ℕ) (past : List Element) (m : Mark) : Type 0 where
  pub way : GoesByTable mode (run S past) m
  pub moves : leaves_it m ≡ true → taken S r past ≡ None → moves_block m ≡ true

module _ (squeues spread : ℕ) (mode : Mode) (budget q : ℕ) (S : Setting) where
  -- ring r keeps it, each mark of its is the one for what its turn found, and it hasn't taken the perimeter with feeds
  pub record IsPaced (r : ℕ) (H : List Element) : Type 0 where
    pub keeps : KeepsPace squeues spread mode budget q S r H
    pub exact : EachOwn (OfRing mode S r) r [] H
    pub not_taken : taken S r H ≡ None

-- by what each pass of ring r has seen at its squeue, all this is so of the ring
abbrev pub ArePaced : {R : Type 0} → (R → Limits) → ℕ → ℕ → Mode → ℕ → ℕ → List (Named R) → List (Option (Pass Element)) → Type 0
ArePaced limits squeues spread mode budget r ss places =
    AtEach (λ s o. Holds (λ x. IsPaced squeues spread mode budget s.given.number (setting_of limits s.given) r (seen x)) o) ss places
