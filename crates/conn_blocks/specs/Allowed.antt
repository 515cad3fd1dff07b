-- What the blocks of a squeue may have: the items of each connection as feeds, its moves by the homes, and all calls that there are.
use Rattle.std.specs.Prelude.{ℕ, suc, List, [], ◌∷◌, ◌++◌, length, map}
use Rattle.std.specs.List.{range_with_len}
use Rattle.tcb_machine.specs.declared.kinds.Call.{Call}
use Rattle.perimeter_core.specs.History.{Limits}
use Rattle.conn_classifier.specs.Plan.{PlanOf, items_in}
use Rattle.conn_blocks.specs.CallLists.{CallLists}
use Rattle.histories.specs.Homes.{times_leaving}

-- the calls of thread j, numbered from k on: connection, thread, number
abbrev pub named_from : ℕ → ℕ → List (ℕ × Call) → List (ℕ × ℕ × ℕ)
named_from j k [] = []
named_from j k (x ∷ xs) = (x.0, j, k) ∷ named_from j (suc k) xs

-- the calls of the threads from number j on
abbrev pub all_from : ℕ → CallLists → List (ℕ × ℕ × ℕ)
all_from j [] = []
all_from j (l ∷ ls) = named_from j 0 l ++ all_from (suc j) ls

abbrev pub all_calls : CallLists → List (ℕ × ℕ × ℕ)
all_calls calls = all_from 0 calls

-- how many feeds each connection has
abbrev pub feed_limits : PlanOf → List ℕ
feed_limits p = map (λ c. length (items_in p c)) (range_with_len 0 (length p.tuples))

-- what is allowed at squeue k of so many, where a connection moves after each `spread` feeds
abbrev pub limits_in : PlanOf → CallLists → ℕ → ℕ → ℕ → Limits
limits_in p calls k squeues spread = record {
  feeds = feed_limits p;
  leaves = map (λ c. times_leaving squeues spread k c (length (items_in p c))) (range_with_len 0 (length p.tuples));
  calls = all_calls calls;
}
