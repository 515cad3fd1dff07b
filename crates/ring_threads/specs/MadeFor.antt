-- A squeue that was made for the plan, the calls and the setup of a run.
use Rattle.std.specs.Prelude.{◌≡◌, ℕ}
use Rattle.perimeter_core.specs.History.{Limits}
use Rattle.squeue_state.specs.Naming.{Named, setting_of}
use Rattle.conn_classifier.specs.Plan.{PlanOf}
use Rattle.conn_blocks.specs.CallLists.{CallLists}
use Rattle.ring_quotas.specs.Quotas.{setting_at}

-- the squeue was made with the setting of its number
abbrev pub IsMadeFor : {R : Type 0} → (R → Limits) → PlanOf → CallLists → ℕ → ℕ → ℕ → Named R → Type 0
IsMadeFor limits p calls squeues rings spread s = setting_of limits s.given ≡ setting_at p calls squeues rings spread s.given.number
