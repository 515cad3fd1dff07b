-- What was written of a text that is written in pieces.
use Rattle.std.specs.Prelude.{◌≡◌, ℕ, ◌+◌, ◌-◌, ◌<◌, Option, None, Some, List, [], ◌++◌, length, take}
use Rattle.std.specs.Coded.{Coded-set, coded_list, coded_ℕ, Unit-prop, le_prop, ×_prop}
use Rattle.std.specs.Io.KnownBytes.{Appends}
use Rattle.sq_base.specs.Ends.{Rose}
use Rattle.text_digits.specs.Told.{Told}

-- the text that was told, and what was written of it before a write failed
pub record Telling : Type 0 where
  pub told : Told
  pub written : List ℕ

-- nothing yet: the name of the reference that is written through, what is there, and the faults so far
abbrev pub told_first : ℕ → Option (List ℕ) → ℕ → Telling
told_first place was faults = record { told = record { place = place; was = was; faults = faults; text = [] }; written = [] }

-- no write failed, and what isn't written of the text is kept
abbrev pub IsWhole : Telling → Option (List ℕ) → ℕ → List ℕ → Type 0
IsWhole t is faults kept = Appends t.told.was is t.written × (t.told.text ≡ t.written ++ kept) × (faults ≡ t.told.faults)

-- known bytes grew by a front of the text that isn't all of it
abbrev pub HasFront : Option (List ℕ) → Option (List ℕ) → List ℕ → Type 0
HasFront None is text = 0 < length text
HasFront (Some x) None text = ⊥
HasFront (Some x) (Some y) text = (y ≡ x ++ take (length y - length x) text) × (length y < length x + length text)

-- a write failed
abbrev pub IsCut : Told → Option (List ℕ) → ℕ → Type 0
IsCut t is faults = HasFront t.was is t.text × Rose t.faults faults

same_prop : (xs ys : List ℕ) → IsProp (xs ≡ ys)
same_prop xs ys = Coded-set (coded_list coded_ℕ) xs ys

pub Appends-prop : (a b : Option (List ℕ)) (bs : List ℕ) → IsProp (Appends a b bs)
Appends-prop None b bs = Unit-prop
Appends-prop (Some x) None bs = λ p q. absurd p
Appends-prop (Some x) (Some y) bs = same_prop y (x ++ bs)

pub HasFront-prop : (a b : Option (List ℕ)) (bs : List ℕ) → IsProp (HasFront a b bs)
HasFront-prop None b bs = le_prop
HasFront-prop (Some x) None bs = λ p q. absurd p
HasFront-prop (Some x) (Some y) bs = ×_prop (same_prop y (x ++ take (length y - length x) bs)) le_prop
