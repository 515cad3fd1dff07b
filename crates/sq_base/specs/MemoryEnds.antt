-- What a source or a sink over memory does at its next calls.
use Rattle.std.specs.Prelude.{ℕ, Bool, List, nat_eq}
use Rattle.std.specs.List.{list_any}

-- the bytes that are left, the most that a call gives, the calls that fail, the number of the next call, and the faults so far
pub record MemInput : Type 0 where
  pub left : List ℕ
  pub piece : ℕ
  pub fails : List ℕ
  pub call : ℕ
  pub faults : ℕ

-- the bytes written, the room for all, the most that a call takes, the calls that fail, the number of the next call, and the faults so far
pub record MemOutput : Type 0 where
  pub written : List ℕ
  pub room : ℕ
  pub piece : ℕ
  pub fails : List ℕ
  pub call : ℕ
  pub faults : ℕ

-- this call is among those that fail
abbrev pub is_failing : List ℕ → ℕ → Bool
is_failing fails call = list_any (nat_eq call) fails
