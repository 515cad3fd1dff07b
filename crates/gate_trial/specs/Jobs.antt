-- Jobs that have a pass.
use Rattle.std.specs.Prelude.{◌≡◌, ◌<◌, ◌+◌, ℕ, Option, Some, None, List, length, slice_index_or}
use Rattle.atomic_table.specs.Seated.{TableId}
use Rattle.turn_gate.specs.Passes.{IsPassOf, turns_of, number, steps}
use Rattle.turn_gate.specs.declared.pass.Pass.{Pass}
use Rattle.gate_trial.specs.declared.jobs.Job.{Job}

module _ {E : Type 0} where
  abbrev pub number_in : Option (Pass E) → ℕ
  number_in (Some p) = number p
  number_in None = 0

  -- the number of the job's pass
  abbrev pub job_number : Job E → ℕ
  job_number j = number_in j.pass

  -- each job's pass has the number that it had
  abbrev pub SameNumbers : List (Job E) → List (Job E) → Type 0
  SameNumbers old new = (k : ℕ) (d : Job E) → k < length new → job_number (slice_index_or new k d) ≡ job_number (slice_index_or old k d)

  -- how often a pass has had the gate
  abbrev pub turns_in : Option (Pass E) → ℕ
  turns_in (Some p) = turns_of (steps p)
  turns_in None = 0

  -- how often the job's pass has had the gate
  abbrev pub job_turns : Job E → ℕ
  job_turns j = turns_in j.pass

  -- each job's pass has had the gate so many times more
  abbrev pub TookTurns : ℕ → List (Job E) → List (Job E) → Type 0
  TookTurns n old new = (k : ℕ) (d : Job E) → k < length new → job_turns (slice_index_or new k d) ≡ job_turns (slice_index_or old k d) + n

module _ {E : Type 0} (num : E → ℕ) (id : TableId) where
  abbrev pub has_pass : Option (Pass E) → Type 0
  has_pass (Some p) = IsPassOf num id p
  has_pass None = ⊥

  -- the job has a pass of this gate
  abbrev pub IsReady : Job E → Type 0
  IsReady j = has_pass j.pass
