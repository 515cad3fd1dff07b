-- What a squeue is made with, and where the blocks of connections are at first.
use Rattle.std.proofs.Common.{◌≡◌, ℕ, ◌%◌, ◌<◌, ◌==◌, ◌&&◌, Bool, true, false, if◌then◌else◌, Option, Some, None, Result, Ok, IfOk, is_some, List, [], refl, sym, subst, arith}
use Rattle.std.specs.Prelude.{nat_lt}
use Rattle.std.proofs.lemmas.Bool.Decides.{nat_tests}
use Rattle.perimeter_core.specs.declared.entries.Act.{Act}
use Rattle.perimeter_core.specs.Blocks.{Blocks as Had}
use Rattle.squeue_state.specs.Clauses.{StandsEmpty}
use Rattle.placed_parts.specs.Standing.{first_here}

pub from_ok : {A E : Type 0} (P : A → Type 0) (r : Result A E) (x : A) → r ≡ Ok x → IfOk r P → P x
from_ok {A = A} {E = E} P r x is h = subst (λ (r : Result A E). IfOk r P) is h

-- which connections are here at first
abbrev started : Bool → Option (List Act)
started b = if b then Some [] else None

started_is : (b : Bool) → is_some (started b) ≡ b
started_is true = refl
started_is false = refl

pub first_flag : (n q squeues c : ℕ) → c < n → is_some (first_here n q squeues c) ≡ (c % squeues == q)
first_flag n q squeues c lt = let t : nat_lt c n ≡ true = grind (arith, nat_tests) in rw t (started_is (c % squeues == q))

pub stands_empty : (n q squeues : ℕ) (stands : Had → Type 0) → stands (first_here n q squeues) → StandsEmpty stands
stands_empty n q squeues stands h = (first_here n q squeues, h, λ c had. by (nat_lt c n && (c % squeues == q)) had)
  where
    by : (b : Bool) (had : List Act) → (if b then Some [] else None) ≡ Some had → had ≡ []
    by true had e = let same : [] ≡ had = cc e in sym same
    by false had e = cc e
