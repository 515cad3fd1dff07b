-- Each call of the lists is on a connection that is there, where that is so of the CALLs.
use Rattle.std.proofs.Common.{ℕ, ◌<◌, ◌==◌, suc, List, [], ◌∷◌, filter, map, subst, sym, ◌≡◌}
use Rattle.std.specs.Prelude.{All}
use Rattle.std.proofs.lemmas.List.Elements.{All-nil, All-cons, All-head, All-tail, All-append, All-filter, All-map}
use Rattle.tcb_machine.specs.declared.kinds.Call.{Call}
use Rattle.conn_blocks.specs.Allowed.{all_calls, all_from, named_from}
use Rattle.conn_blocks.specs.CallLists.{CallLists}
use Rattle.squeue_run.specs.CallWords.{AllThere, lists_of}
use Rattle.squeue_run.specs.declared.calls.CallWord.{CallWord}

module _ (n : ℕ) where
  abbrev IsBelow : ℕ × ℕ × ℕ → Type 0
  IsBelow call = call.0 < n

  abbrev AreBelow : List (ℕ × Call) → Type 0
  AreBelow l = All (λ call. call.0 < n) l

  words_below : (ws : List CallWord) → AllThere n ws → All (λ w. w.connection < n) ws
  words_below [] h = All-nil (λ w. w.connection < n)
  words_below (w ∷ ws) h = All-cons (λ w. w.connection < n) w ws h.0 (words_below ws h.1)

  named_below : (j k : ℕ) (l : List (ℕ × Call)) → AreBelow l → All IsBelow (named_from j k l)
  named_below j k [] h = All-nil IsBelow
  named_below j k (x ∷ l) h = All-cons IsBelow (x.0, j, k) (named_from j (suc k) l) (All-head (λ call. call.0 < n) x l h) (named_below j (suc k) l (All-tail (λ call. call.0 < n) x l h))

  lists_below : (j : ℕ) (l : List (ℕ × Call)) (ls : CallLists) → AreBelow l → All IsBelow (all_from (suc j) ls) → All IsBelow (all_from j (l ∷ ls))
  lists_below j l ls h k = All-append IsBelow (named_from j 0 l) (all_from (suc j) ls) (named_below j 0 l h) k

  -- the calls of thread j
  abbrev list_for : List CallWord → ℕ → List (ℕ × Call)
  list_for ws j = map (λ w. (w.connection, w.call)) (filter (λ w. w.thread == j) ws)

  list_below : (ws : List CallWord) (j : ℕ) → AllThere n ws → AreBelow (list_for ws j)
  list_below ws j h = All-map (λ call. call.0 < n) (λ w. (w.connection, w.call)) (filter (λ w. w.thread == j) ws) (All-filter (λ w. w.thread == j) (λ w. w.connection < n) ws (words_below ws h))

  calls_below : (ws : List CallWord) → AllThere n ws → All IsBelow (all_calls (lists_of ws))
  calls_below ws h =
      let fourth = lists_below 3 (list_for ws 3) [] (list_below ws 3 h) (All-nil IsBelow) in
      let third = lists_below 2 (list_for ws 2) (list_for ws 3 ∷ []) (list_below ws 2 h) fourth in
      let second = lists_below 1 (list_for ws 1) (list_for ws 2 ∷ list_for ws 3 ∷ []) (list_below ws 1 h) third in
      lists_below 0 (list_for ws 0) (list_for ws 1 ∷ list_for ws 2 ∷ list_for ws 3 ∷ []) (list_below ws 0 h) second

pub calls_there : (n k : ℕ) (vs ws : List CallWord) (calls : CallLists) → n ≡ k → vs ≡ ws → calls ≡ lists_of ws → AllThere n vs → All (λ call. call.0 < k) (all_calls calls)
calls_there n k vs ws calls count same by h =
    let At : ℕ → Type 0 = λ m. AllThere m vs in
    let Below : CallLists → Type 0 = λ ls. All (λ call. call.0 < k) (all_calls ls) in
    subst Below (sym by) (calls_below k ws (subst (AllThere k) same (subst At count h)))
