-- A text that was told to an end, and one that was written, or a front of it where a write failed.
use Rattle.std.specs.Prelude.{◌≡◌, ℕ, List, MatchResult, Result}
use Rattle.std.specs.Io.KnownBytes.{Appends}
use Rattle.sq_base.specs.Ends.{AppendsProperly, End, MetNoFault, Rose}
use Rattle.sq_base.specs.declared.ends.Failed.{Failed}
use Rattle.text_digits.specs.Told.{Told, more}

-- a text of this kind was told behind what was told before
pub record HasTold (Is : List ℕ → Type 0) (old new : Told) : Type 0 where
  pub text : List ℕ
  pub is : Is text
  pub told : new ≡ more old text

-- the text was written whole, and no write failed; or one failed, and a front of the text was written that isn't all of it
abbrev pub Wrote : End → List ℕ → Result (Unit {0}) Failed → Type 0
Wrote out text r = MatchResult r (λ _. Appends out.was out.is text × MetNoFault out)
    (λ _. AppendsProperly out.was out.is text × Rose out.faults_were out.faults_are)

-- a text of this kind was written so
pub record IsWritten (Is : List ℕ → Type 0) (out : End) (r : Result (Unit {0}) Failed) : Type 0 where
  pub text : List ℕ
  pub is : Is text
  pub wrote : Wrote out text r
