-- Traces in which each place is a number that a program can count to.
use Rattle.std.specs.Prelude.{◌≡◌, ℕ, ◌+◌, ◌<◌, ◌^◌, List, Some, slice_get}
use Rattle.squeue_state.specs.Told.{Traced}
use Rattle.squeue_state.specs.declared.trace.TraceMark.{TraceMark}
use Rattle.squeue_state.specs.declared.trace.TraceMark.TheVariants as Told

-- so is the place behind the last entry that the mark names
abbrev pub HasEnd : TraceMark → Type 0
HasEnd (Told.Fill p first len) = first + len < 2 ^ 64
HasEnd (Told.Claim p first len) = first + len < 2 ^ 64
HasEnd _ = Unit {0}

abbrev pub IsCountable : Traced → Type 0
IsCountable t = (i : ℕ) (m : TraceMark) → slice_get t.marks i ≡ Some m → HasEnd m

abbrev pub AreCountable : List Traced → Type 0
AreCountable ts = (q : ℕ) (t : Traced) → slice_get ts q ≡ Some t → IsCountable t
