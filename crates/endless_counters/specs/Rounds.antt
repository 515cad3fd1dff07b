-- Which amounts a ring gives: 0 to 999, round after round.
use Rattle.std.specs.Prelude.{◌≡◌, ℕ, ◌*◌, ◌%◌, ◌<◌, ◌≤◌, Some, List, length, slice_get}

-- the first k amounts of all rounds, each with the key 0
pub record AreRounds (k : ℕ) (given : List (ℕ × ℕ)) : Type 0 where
  pub count : length given ≡ k
  pub each : (i : ℕ) → i < k → slice_get given i ≡ Some (0, i % 1000)

-- whole rounds were given, one at least, and no fewer than so many
pub record HasDone (least : ℕ) (given : List (ℕ × ℕ)) : Type 0 where
  pub rounds : ℕ
  pub some : 1 ≤ rounds
  pub enough : least ≤ rounds
  pub are : AreRounds (rounds * 1000) given
