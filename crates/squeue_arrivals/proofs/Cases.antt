-- What is so of an answer that is known.
use Rattle.std.proofs.Common.{◌≡◌, Option, Some, Result, Ok, Err, subst}
use Rattle.std.specs.Prelude.{IfSome, MatchResult}

pub of_some : {X : Type 0} (P : X → Type 0) (o : Option X) (x : X) → o ≡ Some x → IfSome o P → P x
of_some P o x is h = let Q : Option _ → Type 0 = λ r. IfSome r P in subst Q is h

pub of_ok : {X E : Type 0} (P : X → Type 0) (Q : E → Type 0) (r : Result X E) (x : X) → r ≡ Ok x → MatchResult r P Q → P x
of_ok P Q r x is h = let M : Result _ _ → Type 0 = λ r. MatchResult r P Q in subst M is h

pub of_err : {X E : Type 0} (P : X → Type 0) (Q : E → Type 0) (r : Result X E) (e : E) → r ≡ Err e → MatchResult r P Q → Q e
of_err P Q r e is h = let M : Result _ _ → Type 0 = λ r. MatchResult r P Q in subst M is h
