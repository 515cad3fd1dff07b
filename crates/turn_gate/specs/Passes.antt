-- What contracts see of a pass.
use Rattle.std.specs.Prelude.{◌≡◌, ◌≢◌, ◌<◌, ◌+◌, ℕ, false, List, [], ◌∷◌, ◌++◌, None, ◌/◌, ◌*◌}
use Rattle.atomic_table.specs.Seated.{TableId}
use Rattle.turn_gate.specs.History.{only, Each, Has}
use Rattle.turn_gate.specs.Rule.{row, view}
use Rattle.turn_gate.specs.declared.views.Row.{Row}
use Rattle.turn_gate.specs.declared.views.View.{View}
use Rattle.turn_gate.specs.declared.views.LockStep.{LockStep}
use Rattle.turn_gate.specs.declared.views.LockStep.TheVariants.{Draw, Exchange, Load, Serve}
use Rattle.turn_gate.specs.declared.pass.Pass.{Pass}
use Rattle.turn_gate.specs.declared.pass.Missed.{Missed}

-- how often the lock was freed by these steps
abbrev pub turns_of : List LockStep → ℕ
turns_of [] = 0
turns_of (Draw w ∷ ss) = turns_of ss
turns_of (Load w ∷ ss) = turns_of ss
turns_of (Exchange e w ∷ ss) = turns_of ss
turns_of (Serve w ∷ ss) = turns_of ss + 1

-- the call made some steps on the lock word, and freed the lock by none of them
abbrev pub waited : List LockStep → List LockStep → Type 0
waited before after = (rest : List LockStep) × (after ≡ before ++ rest) × (turns_of rest ≡ 0)

-- the call made two steps on the lock word: it loaded it, and then made an exchange from 256 times the ticket that was
-- served in the word loaded, which found just that
abbrev pub hit : List LockStep → List LockStep → Type 0
hit before after = (w : ℕ) × (after ≡ before ++ Load w ∷ Exchange (w / 256 * 256) (w / 256 * 256) ∷ [])

-- the call made one step on the lock word, and served the next ticket by it
abbrev pub freed_once : List LockStep → List LockStep → Type 0
freed_once before after = (w : ℕ) × (after ≡ before ++ Serve w ∷ [])

module _ {E : Type 0} where
  -- the one view of a badge, and the one row of a view; where there is none, one that knows nothing
  abbrev pub view_in : List (View E) → View E
  view_in [] = view [] None false []
  view_in (v ∷ vs) = v

  abbrev pub own : List (Row E) → Row E
  own [] = row 0 [] []
  own (r ∷ rs) = r

  abbrev pub row_of : Pass E → Row E
  row_of p = let r = own (view_in p.badge.views).rows in row p.number r.seen r.mine

  -- its number among the passes of its gate
  abbrev pub number : Pass E → ℕ
  number p = (row_of p).number

  -- a beginning of the gate's history
  abbrev pub seen : Pass E → List E
  seen p = (row_of p).seen

  -- the elements in it that carry the pass's number
  abbrev pub mine : Pass E → List E
  mine p = (row_of p).mine

  -- the pass's steps on the lock word
  abbrev pub steps : Pass E → List LockStep
  steps p = (view_in p.badge.views).steps

  -- the pass belongs to this gate, has no ticket, and its own elements are those of its number in what it has seen
  abbrev pub IsPassOf : (E → ℕ) → TableId → Pass E → Type 0
  IsPassOf num id p = (p.badge.table_id ≡ id) × (p.badge.views ≡ view (row (number p) (seen p) (mine p) ∷ []) None false (steps p) ∷ [])
      × (only num (number p) (seen p) ≡ mine p)

  -- passes of this gate with the numbers from k on, which have seen nothing
  abbrev pub AreFresh : (E → ℕ) → TableId → ℕ → List (Pass E) → Type 0
  AreFresh num id k [] = Unit {0}
  AreFresh num id k (p ∷ ps) = (IsPassOf num id p × (number p ≡ k) × (seen p ≡ []) × (mine p ≡ []) × (steps p ≡ [])) × AreFresh num id (k + 1) ps

  -- all passes of this gate, which has n of them
  abbrev pub AreAll : (E → ℕ) → TableId → ℕ → List (Pass E) → Type 0
  AreAll num id n ps = Each (IsPassOf num id) ps × ((q : ℕ) → q < n → Has (λ p. number p ≡ q) ps)

  -- the pass q is the pass p, which knows no more than it did
  abbrev pub IsReturned : (E → ℕ) → TableId → Pass E → Pass E → Type 0
  IsReturned num id p q = IsPassOf num id q × (number q ≡ number p) × (seen q ≡ seen p) × (mine q ≡ mine p)

  -- the call made two steps on the lock word: it loaded it, and then made an exchange from 256 times the ticket that
  -- was served in the word loaded, which found another number
  abbrev pub missed : List LockStep → Missed E → Type 0
  missed before m = (w : ℕ) × (steps m.pass ≡ before ++ Load w ∷ Exchange m.expected m.found ∷ []) × (m.expected ≡ w / 256 * 256) × (m.found ≢ m.expected)
