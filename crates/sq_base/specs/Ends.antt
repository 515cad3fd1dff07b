-- What a call does to the bytes of a source or a sink and to its count of faults.
use Rattle.std.specs.Prelude.{◌≡◌, ℕ, ◌+◌, ◌-◌, ◌^◌, ◌<◌, ◌≤◌, min, Option, List, length, take}
use Rattle.std.specs.Io.KnownBytes.{Appends, Keeps}

-- the next value of a count of 64 bits, which stays at its last number
abbrev pub raised : ℕ → ℕ
raised n = min (n + 1) (2 ^ 64 - 1)

-- A count rose: it is larger, or it stands at its last number.
abbrev pub Rose : ℕ → ℕ → Type 0
Rose old new = raised old ≤ new

-- known bytes grew by a front of bs that isn't all of bs
abbrev pub AppendsProperly : Option (List ℕ) → Option (List ℕ) → List ℕ → Type 0
AppendsProperly old new bs = (n : ℕ) × (n < length bs) × Appends old new (take n bs)

-- an end before and after the call: its bytes, where they are known, and its count of faults
pub record End : Type 0 where
  pub was : Option (List ℕ)
  pub is : Option (List ℕ)
  pub faults_were : ℕ
  pub faults_are : ℕ

-- the end of a source or a sink of this kind, from what it was and what it is
abbrev pub end_of : {X : Type 0} → (X → Option (List ℕ)) → (X → ℕ) → X → X → End
end_of bytes faults old new = record { was = bytes old; is = bytes new; faults_were = faults old; faults_are = faults new }

-- no read or write failed there, not even one that was tried again
abbrev pub MetNoFault : End → Type 0
MetNoFault end = end.faults_are ≡ end.faults_were

-- nothing happened there
pub record IsUntouched (end : End) : Type 0 where
  pub bytes : Keeps end.was end.is
  pub faults : MetNoFault end
