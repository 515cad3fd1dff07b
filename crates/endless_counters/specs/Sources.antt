-- The source of a ring.
use Rattle.std.specs.Prelude.{ℕ, List}
use Rattle.squeue_arrivals.specs.Giving.{given_by}
use Rattle.endless_counters.specs.declared.source.Amounts.{Amounts}
use Rattle.endless_counters.specs.declared.source.Stint.{Stint}

module _ {W : Type 0} where
  -- its stint, and what it gave, with its key
  abbrev pub stint_of : Amounts W → Stint
  stint_of s = s.stint

  abbrev pub amounts_by : Amounts W → List (ℕ × ℕ)
  amounts_by s = given_by s.given
