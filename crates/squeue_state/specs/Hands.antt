-- What contracts see of a hand, and how it goes back.
use Rattle.std.specs.Prelude.{◌≡◌, ◌<◌, ◌≤◌, ◌+◌, ◌^◌, ℕ, Option, Some, None, [], ◌∷◌, drop, Vec, vec_len, vec_capacity}
use Rattle.perimeter_core.specs.declared.entries.Entry.{Entry}
use Rattle.perimeter_core.specs.declared.entries.Entry.TheVariants as Entry'
use Rattle.squeue_state.specs.declared.hand.Taken.{Taken}
use Rattle.squeue_state.specs.declared.hand.Taken.TheVariants.{One, Many}
use Rattle.squeue_state.specs.Naming.{Handed}
use Rattle.squeue_state.specs.Behind.{HasEmpty}

-- one feed lies in no buffer
abbrev pub handed : Taken → Handed
handed (One None) = record { left = []; room = None }
handed (One (Some f)) = record { left = Entry'.Feed f.c f.n ∷ []; room = None }
handed (Many entries at) = record { left = drop at entries.items; room = Some (vec_capacity entries) }

abbrev pub IsCounted : Taken → Type 0
IsCounted (One f) = Unit {0}
IsCounted (Many entries at) = (at ≤ vec_len entries) × (vec_len entries < 2 ^ 32)

-- so many entries go back before so many that are queued: in their buffer, or none do
abbrev pub GoBack : Option ℕ → ℕ → ℕ → Type 0
GoBack None left queued = left ≡ 0
GoBack (Some room) left queued = left + queued ≤ room

-- of two buffers with room for n entries the chain is one, and the other is the hand's, or lies empty in the gate
abbrev pub AreBuffers : {A : Type 0} → ℕ → Option ℕ → ℕ → Option (Vec Entry A) → Type 0
AreBuffers n None chain spare = (n ≡ chain) × HasEmpty n spare
AreBuffers n (Some room) chain spare = (n ≡ chain) × (n ≡ room)
