-- Sources that make their items, and what is made of them.
use Rattle.std.specs.Prelude.{◌≡◌, ℕ, All, List, length}
use Rattle.ring_groups.specs.Groups.{AllBecame}
use Rattle.squeue_arrivals.specs.Giving.{given_by}
use Rattle.squeue_arrivals.specs.declared.served.ServedSource.{ServedSource}
use Rattle.arriving_counters.specs.Counting.{HasCounted}
use Rattle.arrivals_bench.specs.declared.made.MadeItems.{MadeItems}

-- how many items it makes, and has made
abbrev pub items_in : MadeItems → ℕ
items_in m = m.items

abbrev pub count_in : MadeItems → ℕ
count_in m = m.count

-- There were so many sources, each of so many items; each has made items, and there is a part for each key among them, and no other,
-- whose state is the sum of that key's amounts modulo 2^64
pub record AreServed (producers keys items : ℕ) (left : List (ServedSource MadeItems ℕ ℕ)) : Type 0 where
  pub sources : List MadeItems
  pub many : length sources ≡ producers
  pub each : All (λ m. items_in m ≡ items) sources
  pub served : AllBecame (HasCounted items_in (λ m. given_by m.given) (λ m. count_in m ≡ items_in m) keys) sources left
