-- Settled and whole orders of a connection. Threads make their calls one after another; where acts come out of order, a call waits for those before it.
use Rattle.std.specs.Prelude.{◌≡◌, ℕ, ◌==◌, ◌&&◌, nat_lt, not, suc, Bool, false, List, []}
use Rattle.std.specs.Prelude.{◌∷◌, ◌++◌, length, map, filter, take_while, IsPermutation, if◌then◌else◌}
use Rattle.std.specs.List.{list_any, list_all, range_with_len}
use Rattle.perimeter_core.specs.declared.entries.Act.{Act}
use Rattle.perimeter_core.specs.declared.entries.Act.TheVariants as act
use Rattle.perimeter_core.specs.Deeds.{feed_numbers}
use Rattle.tcb_machine.specs.declared.kinds.Call.{Call}
use Rattle.conn_classifier.specs.Plan.{PlanOf, items_in}
use Rattle.conn_blocks.specs.CallLists.{CallLists, calls_of}

-- the numbers, from n on, of those calls that are on connection c
abbrev pub numbers_from : ℕ → ℕ → List (ℕ × Call) → List ℕ
numbers_from n c [] = []
numbers_from n c (x ∷ xs) = if x.0 == c then n ∷ numbers_from (suc n) c xs else numbers_from (suc n) c xs

-- the numbers of the calls of thread j that are on connection c
abbrev pub numbers_on : CallLists → ℕ → ℕ → List ℕ
numbers_on calls c j = numbers_from 0 c (calls_of calls j)

-- the calls of thread j in an order
abbrev pub call_numbers : ℕ → List Act → List ℕ
call_numbers j [] = []
call_numbers j (act.Feed n ∷ acts) = call_numbers j acts
call_numbers j (act.Call i k ∷ acts) = if i == j then k ∷ call_numbers j acts else call_numbers j acts

-- the feeds of all items in order, and the calls of each thread on the connection in order, each once
pub record IsWhole (p : PlanOf) (calls : CallLists) (c : ℕ) (order : List Act) : Type 0 where
  pub feeds : feed_numbers order ≡ range_with_len 0 (length (items_in p c))
  pub asked : (j : ℕ) → call_numbers j order ≡ numbers_on calls c j

-- the feeds of all items in order, and the calls on the connection, each once, wherever they stand
pub record IsAll (p : PlanOf) (calls : CallLists) (c : ℕ) (acts : List Act) : Type 0 where
  pub feeds : feed_numbers acts ≡ range_with_len 0 (length (items_in p c))
  pub asked : (j : ℕ) → IsPermutation (call_numbers j acts) (numbers_on calls c j)

abbrev pub is_call : ℕ → ℕ → Act → Bool
is_call j k (act.Feed n) = false
is_call j k (act.Call i m) = (i == j) && (m == k)

-- whether call k of thread j is among the acts
abbrev pub has_call : ℕ → ℕ → List Act → Bool
has_call j k acts = list_any (is_call j k) acts

-- whether call k of thread j is held back, where these acts came and these were kept
abbrev pub is_held : List Act → List Act → ℕ → ℕ → Bool
is_held came kept j k = has_call j k came && not (has_call j k kept)

-- all calls of thread j on connection c with a smaller number than k are kept
abbrev pub is_next : CallLists → ℕ → List Act → ℕ → ℕ → Bool
is_next calls c kept j k = list_all (λ i. has_call j i kept) (filter (λ i. nat_lt i k) (numbers_on calls c j))

-- call k of thread j, and the held ones that come next on connection c
abbrev pub let_go : CallLists → ℕ → List Act → List Act → ℕ → ℕ → List Act
let_go calls c came kept j k = map (act.Call j) (k ∷ take_while (is_held came kept j) (filter (λ i. nat_lt k i) (numbers_on calls c j)))

-- what is kept where one more act comes: a feed at once, a call once, and not before the thread's earlier ones
abbrev pub keeps : CallLists → ℕ → List Act → List Act → Act → List Act
keeps calls c came kept (act.Feed n) = kept ++ act.Feed n ∷ []
keeps calls c came kept (act.Call j k) =
    if has_call j k came then kept
    else if is_next calls c kept j k then kept ++ let_go calls c came kept j k
    else kept

abbrev pub settles : CallLists → ℕ → List Act → List Act → List Act → List Act
settles calls c came kept [] = kept
settles calls c came kept (a ∷ acts) = settles calls c (came ++ a ∷ []) (keeps calls c came kept a) acts

-- what is kept of these acts, in the order of keeping
unfoldable pub settle : CallLists → ℕ → List Act → List Act
settle calls c acts = settles calls c [] [] acts
