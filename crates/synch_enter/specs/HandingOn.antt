-- An owner that meets the Ask of another pass before its own.
use Rattle.std.specs.Prelude.{◌≡◌, ◌≢◌, ℕ, List, [], ◌∷◌, ◌++◌}
use Rattle.turn_gate.specs.Passes.{number, seen, mine}
use Rattle.turn_gate.specs.declared.pass.Pass.{Pass}
use Rattle.perimeter_core.specs.declared.entries.Entry.{Entry}
use Rattle.perimeter_core.specs.declared.entries.Entry.TheVariants as Entry'
use Rattle.perimeter_core.specs.Perimeter.{is_closed}
use Rattle.perimeter_core.specs.History.{Element, Limits, run}
use Rattle.squeue_state.specs.Naming.{Named, setting_of}
use Rattle.histories.specs.Elements.{granted_by}
use Rattle.squeue_drain.specs.declared.owner.Owner.{Owner}
use Rattle.squeue_drain.specs.Draining.{GoesOn}
use Rattle.squeue_drain.specs.Owning.{state_of}

-- an Ask of another pass stands first
abbrev pub AskIsNext : {R : Type 0} → Owner R → Type 0
AskIsNext o = (j : ℕ) × (rest : List Entry) × (o.hand.left ≡ Entry'.Ask j ∷ rest) × (j ≢ number o.pass)

-- the owner granted to another pass
pub record HandedOn {R : Type 0} (limits : R → Limits) (s : Named R) (o : Owner R) (to : Pass Element) : Type 0 where
  pub goes_on : GoesOn limits s o.pass to
  pub granted_to : ℕ
  pub rest : ℕ
  pub other : granted_to ≢ number o.pass
  pub now_mine : mine to ≡ mine o.pass ++ granted_by (number o.pass) granted_to rest ∷ []
  pub closed : is_closed (run (setting_of limits s.given) (seen to)) (number o.pass) ≡ is_closed (state_of limits s o) (number o.pass)
