-- An order with each thread's first calls, in order and once, is what settling keeps of it.
use Rattle.std.proofs.Common.{◌≡◌, ℕ, ◌&&◌, not, Bool, true, false, List, [], ◌∷◌, ◌++◌, map, cond, refl, sym, ap, subst, ◌∙◌, eq-eqb, append_assoc, append-nil}
use Rattle.std.specs.Prelude.{nat_lt, filter, take_while}
use Rattle.std.specs.List.{list_all}
use Rattle.perimeter_core.specs.declared.entries.Act.{Act}
use Rattle.perimeter_core.specs.declared.entries.Act.TheVariants as act
use Rattle.conn_blocks.specs.CallLists.{CallLists, calls_of}
use Rattle.conn_blocks.specs.Holding.{HasFirstCalls}
use Rattle.conn_blocks.specs.Orders.{numbers_on, call_numbers, has_call, is_held, is_next, let_go, keeps, settles, settle}
use Rattle.conn_blocks.proofs.Rising.{Up, up_numbers, not_before, before, all_by, run_no}
use Rattle.conn_blocks.proofs.Settling.{calls_append, has_numbers}

none_held : (j : ℕ) (pre : List Act) (ys : List ℕ) → take_while (is_held pre pre j) ys ≡ []
none_held j pre [] = refl
none_held j pre (y ∷ ys) = run_no (is_held pre pre j) y ys (by (has_call j y pre))
  where
    by : (b : Bool) → (b && not b) ≡ false
    by true = refl
    by false = refl

module _ (calls : CallLists) (c : ℕ) where
  module _ (j k : ℕ) (pre : List Act) (more : List ℕ) (whole : numbers_on calls c j ≡ call_numbers j pre ++ k ∷ more) where
    rises : Up 0 (call_numbers j pre ++ k ∷ more)
    rises = subst (Up 0) whole (up_numbers c 0 (calls_of calls j))

    new : has_call j k pre ≡ false
    new = has_numbers j k pre ∙ not_before k more 0 (call_numbers j pre) rises

    smaller : filter (λ i. nat_lt i k) (numbers_on calls c j) ≡ call_numbers j pre
    smaller = ap (filter (λ i. nat_lt i k)) whole ∙ before k more 0 (call_numbers j pre) rises

    next : is_next calls c pre j k ≡ true
    next = ap (list_all (λ i. has_call j i pre)) smaller ∙ all_by (λ i. has_call j i pre) (call_numbers j pre) (λ i e. has_numbers j i pre ∙ e)

    alone : let_go calls c pre pre j k ≡ act.Call j k ∷ []
    alone = ap (λ ks. map (act.Call j) (k ∷ ks)) (none_held j pre (filter (λ i. nat_lt k i) (numbers_on calls c j)))

    call_kept : keeps calls c pre pre (act.Call j k) ≡ pre ++ act.Call j k ∷ []
    call_kept =
        ap (λ b. cond b pre (cond (is_next calls c pre j k) (pre ++ let_go calls c pre pre j k) pre)) new
        ∙ (ap (λ b. cond b (pre ++ let_go calls c pre pre j k) pre) next ∙ ap (λ l. pre ++ l) alone)

  -- the numbers of the thread's calls, from one of them on
  from_call : (j k : ℕ) (pre rest : List Act) → call_numbers j (pre ++ act.Call j k ∷ rest) ≡ call_numbers j pre ++ k ∷ call_numbers j rest
  from_call j k pre rest =
      calls_append j pre (act.Call j k ∷ rest)
      ∙ ap (λ b. call_numbers j pre ++ cond b (k ∷ call_numbers j rest) (call_numbers j rest)) (eq-eqb j j refl)

  one_kept : (pre rest : List Act) (a : Act) → HasFirstCalls calls c (pre ++ a ∷ rest) → keeps calls c pre pre a ≡ pre ++ a ∷ []
  one_kept pre rest (act.Feed n) h = refl
  one_kept pre rest (act.Call j k) h =
      let b = h j in
      call_kept j k pre (call_numbers j rest ++ b.rest)
      (b.joined ∙ (ap (λ l. l ++ b.rest) (from_call j k pre rest) ∙ append_assoc (call_numbers j pre) (k ∷ call_numbers j rest) b.rest))

  all_kept : (pre rest : List Act) → HasFirstCalls calls c (pre ++ rest) → settles calls c pre pre rest ≡ pre ++ rest
  all_kept pre [] h = sym (append-nil pre)
  all_kept pre (a ∷ rest) h =
      let joined : (pre ++ a ∷ []) ++ rest ≡ pre ++ a ∷ rest = append_assoc pre (a ∷ []) rest in
      ap (λ l. settles calls c (pre ++ a ∷ []) l rest) (one_kept pre rest a h)
      ∙ (all_kept (pre ++ a ∷ []) rest (subst (HasFirstCalls calls c) (sym joined) h) ∙ joined)

  pub settled_already : (order : List Act) → HasFirstCalls calls c order → settle calls c order ≡ order
  unfolding settle
  settled_already order h = all_kept [] order h
