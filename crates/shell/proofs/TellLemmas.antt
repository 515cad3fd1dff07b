-- Lines that are told piece by piece.
use Rattle.std.proofs.Common.{◌≡◌, ℕ, ◌+◌, List, ◌++◌, Option, inl, inr, length, take, subst, sym, arith, ◌∙◌, length-append}
use Rattle.std.proofs.KnownBytes.{Appends-trans}
use Rattle.std.proofs.Math.Seq.{take-append-add}
use Rattle.std.proofs.lemmas.List.{take-append-le}
use Rattle.std.specs.Io.KnownBytes.{Appends}
use Rattle.sq_base.specs.Ends.{AppendsProperly, Rose}
use Rattle.shell.specs.Telling.{TellsLine}

-- a front that isn't all of the beginning isn't all of the whole
pub stops_early : (was is : Option (List ℕ)) (a b : List ℕ) → AppendsProperly was is a → AppendsProperly was is (a ++ b)
stops_early was is a b (n, few, front) =
    (n, omega (arith, few, length-append a b), subst (λ (bs : List ℕ). Appends was is bs) (sym (take-append-le n a b (omega (arith, few)))) front)

-- and neither is the beginning with such a front of the rest
pub stops_later : (was mid is : Option (List ℕ)) (a b : List ℕ) → Appends was mid a → AppendsProperly mid is b → AppendsProperly was is (a ++ b)
stops_later was mid is a b whole (n, few, front) = (
  length a + n,
  omega (arith, few, length-append a b),
  subst (λ (bs : List ℕ). Appends was is bs) (sym (take-append-add a b n)) (Appends-trans was mid is a (take n b) whole front),
)

-- behind a beginning that was appended without a fault the rest was told
pub tells_behind : (was mid is : Option (List ℕ)) (f g h : ℕ) (a b : List ℕ) → Appends was mid a → g ≡ f
    → TellsLine (record { was = mid; is = is; faults_were = g; faults_are = h }) b → TellsLine (record { was = was; is = is; faults_were = f; faults_are = h }) (a ++ b)
tells_behind was mid is f g h a b whole same (inl (none, rest)) = inl (none ∙ same, Appends-trans was mid is a b whole rest)
tells_behind was mid is f g h a b whole same (inr (rose, front)) = inr (subst (λ (n : ℕ). Rose n h) same rose, stops_later was mid is a b whole front)
