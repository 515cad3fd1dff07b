-- The passes of a squeue, and its worker, at the end.
use Rattle.std.proofs.Common.{ℕ, ◌+◌, ◌≤◌, Some, List, [], ◌∷◌, ◌++◌, length, arith}
use Rattle.turn_gate.specs.History.{Each}
use Rattle.turn_gate.specs.declared.pass.Pass.{Pass}
use Rattle.gate_trial.specs.Counted.{AreFrom}
use Rattle.perimeter_core.specs.History.{Element, Limits}
use Rattle.squeue_state.specs.Naming.{Named, setting_of}
use Rattle.histories.specs.Elements.{number_of}
use Rattle.squeue_state.specs.Clauses.{HasSeenEnd}
use Rattle.squeue_bench.specs.Places.{HasSeenOver}

module _ {R : Type 0} (limits : R → Limits) where
  -- passes that aren't the worker's, and then the worker's, which has seen the end
  pub seen_end : (s : Named R) (k : ℕ) (ps : List (Pass Element)) (p : Pass Element) → AreFrom number_of s.gate k ps → k + length ps ≤ length s.given.quotas → HasSeenOver limits s (Some p) → Each (HasSeenEnd (setting_of limits s.given)) (ps ++ p ∷ [])
  seen_end s k [] p f l over = (λ is. over, tt)
  seen_end s k (x ∷ xs) p f l over = ((λ is. absurd (omega (arith, is, l, f.0.1))), seen_end s (k + 1) xs p f.1 (omega (arith, l)) over)
