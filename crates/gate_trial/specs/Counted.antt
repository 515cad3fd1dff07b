-- Passes, and jobs that have them, in order of their numbers.
use Rattle.std.specs.Prelude.{◌≡◌, ◌<◌, ℕ, ◌+◌, List, [], ◌∷◌, length, slice_index_or}
use Rattle.atomic_table.specs.Seated.{TableId}
use Rattle.turn_gate.specs.Passes.{IsPassOf, number}
use Rattle.turn_gate.specs.declared.pass.Pass.{Pass}
use Rattle.gate_trial.specs.declared.jobs.Job.{Job}
use Rattle.gate_trial.specs.Jobs.{job_number}

-- the passes of this gate with the numbers from k on
abbrev pub AreFrom : {E : Type 0} → (E → ℕ) → TableId → ℕ → List (Pass E) → Type 0
AreFrom num id k [] = Unit {0}
AreFrom num id k (p ∷ ps) = (IsPassOf num id p × (number p ≡ k)) × AreFrom num id (k + 1) ps

-- the jobs have passes with the numbers from n less one downwards
abbrev pub CountDown : {E : Type 0} → ℕ → List (Job E) → Type 0
CountDown {E} n js = (k : ℕ) (d : Job E) → k < length js → job_number (slice_index_or js k d) + k + 1 ≡ n
