-- The calls of the application threads: by thread, and each thread's in order.
use Rattle.std.specs.Prelude.{◌≡◌, ℕ, ◌+◌, ◌≤◌, List, [], ◌∷◌, length, map, get_or, slice_get, Option}
use Rattle.tcb_machine.specs.declared.kinds.Call.{Call}
use Rattle.conn_blocks.specs.Limits.{callers, most_calls}

-- by thread: each call's connection, and what is asked
abbrev pub CallLists : Type 0
CallLists = List (List (ℕ × Call))

abbrev pub calls_of : CallLists → ℕ → List (ℕ × Call)
calls_of calls j = get_or calls j []

-- the connections of the calls of thread j, in order
abbrev pub conns_called : CallLists → ℕ → List ℕ
conns_called calls j = map (λ x. x.0) (calls_of calls j)

-- the same of all threads: there are few
pub record AreConnsOf (calls : CallLists) (conns : List (List ℕ)) : Type 0 where
  pub are : conns ≡ map (λ l. map (λ x. x.0) l) calls
  pub threads : length conns ≡ callers
  pub few : (j : ℕ) → length (get_or conns j []) ≤ most_calls

-- call k of thread j
abbrev pub call_at : CallLists → ℕ → ℕ → Option (ℕ × Call)
call_at calls j k = slice_get (calls_of calls j) k

-- how many there are
abbrev pub call_count : CallLists → ℕ
call_count [] = 0
call_count (l ∷ ls) = length l + call_count ls
