-- What settling keeps: of each thread's calls on a connection the first ones, up to the first that didn't come.
use Rattle.std.proofs.Common.{◌≡◌, ℕ, ◌==◌, ◌<◌, ◌≤◌, ◌&&◌, ◌||◌, not, suc, Bool, true, false, List, [], ◌∷◌, ◌++◌, map, refl, sym, ap, subst, ◌∙◌, ◌⊎◌, inl, inr, arith, eq-eqb, append_assoc}
use Rattle.std.specs.Prelude.{nat_lt, filter, take_while, if◌then◌else◌}
use Rattle.std.specs.List.{list_all}
use Rattle.std.specs.List.{AllByRecursion}
use Rattle.std.proofs.lemmas.Bool.{eqb-true, and_parts, or_right, or_left, or_cases, both_ways, cases_lt, lt-ltb}
use Rattle.perimeter_core.specs.declared.entries.Act.{Act}
use Rattle.perimeter_core.specs.declared.entries.Act.TheVariants as act
use Rattle.conn_blocks.specs.CallLists.{CallLists, calls_of}
use Rattle.conn_blocks.specs.Orders.{numbers_on, call_numbers, is_call, has_call, is_held, is_next, let_go, keeps, settles, settle}
use Rattle.conn_blocks.proofs.Rising.{Up, has, up_numbers, up_behind, not_before, before, behind, none_below, has_append, all_by, all_at, Run, FailsFirst, run, run_yes, run_no}

module _ (j : ℕ) where
  pub calls_append : (xs ys : List Act) → call_numbers j (xs ++ ys) ≡ call_numbers j xs ++ call_numbers j ys
  calls_append [] ys = refl
  calls_append (act.Feed n ∷ xs) ys = calls_append xs ys
  calls_append (act.Call i k ∷ xs) ys = by (i == j) (calls_append xs ys)
    where
      by : (b : Bool) → call_numbers j (xs ++ ys) ≡ call_numbers j xs ++ call_numbers j ys → (if b then k ∷ call_numbers j (xs ++ ys) else call_numbers j (xs ++ ys))
          ≡ (if b then k ∷ call_numbers j xs else call_numbers j xs) ++ call_numbers j ys
      by true h = ap (λ l. k ∷ l) h
      by false h = h

  pub calls_of_thread : (ks : List ℕ) → call_numbers j (map (act.Call j) ks) ≡ ks
  calls_of_thread [] = refl
  calls_of_thread (k ∷ ks) = let same : (j == j) ≡ true = eq-eqb j j refl in rw same (ap (λ l. k ∷ l) (calls_of_thread ks))

  pub calls_of_other : (i : ℕ) → (i == j) ≡ false → (ks : List ℕ) → call_numbers j (map (act.Call i) ks) ≡ []
  calls_of_other i e [] = refl
  calls_of_other i e (k ∷ ks) = rw e (calls_of_other i e ks)

  pub has_numbers : (k : ℕ) (xs : List Act) → has_call j k xs ≡ has k (call_numbers j xs)
  has_numbers k [] = refl
  has_numbers k (act.Feed n ∷ xs) = has_numbers k xs
  has_numbers k (act.Call i m ∷ xs) = by (i == j) (has_numbers k xs)
    where
      by : (b : Bool) → has_call j k xs ≡ has k (call_numbers j xs) → ((b && (m == k)) || has_call j k xs) ≡ has k (if b then m ∷ call_numbers j xs else call_numbers j xs)
      by true h = ap (λ b. (m == k) || b) h
      by false h = h

module _ (j k : ℕ) where
  pub has_both : (xs ys : List Act) → has_call j k (xs ++ ys) ≡ (has_call j k xs || has_call j k ys)
  has_both [] ys = refl
  has_both (x ∷ xs) ys = by (is_call j k x) (has_both xs ys)
    where
      by : (b : Bool) → has_call j k (xs ++ ys) ≡ (has_call j k xs || has_call j k ys) → (b || has_call j k (xs ++ ys)) ≡ ((b || has_call j k xs) || has_call j k ys)
      by true h = refl
      by false h = h

  pub has_one : (xs : List Act) (a : Act) → has_call j k (xs ++ a ∷ []) ≡ (has_call j k xs || is_call j k a)
  has_one xs a = has_both xs (a ∷ []) ∙ ap (λ b. has_call j k xs || b) (by (is_call j k a))
    where
      by : (b : Bool) → (b || false) ≡ b
      by true = refl
      by false = refl

  -- a call is one thing
  pub is_it : (i m : ℕ) → is_call j k (act.Call i m) ≡ true → (i ≡ j) × (m ≡ k)
  is_it i m e = let parts = and_parts (i == j) (m == k) e in (eqb-true i j parts.0, eqb-true m k parts.1)

  along : (i m : ℕ) (xs : List Act) → is_call j k (act.Call i m) ≡ true → has_call i m xs ≡ true → has_call j k xs ≡ true
  along i m xs e h = let it = is_it i m e in subst (λ n. has_call j n xs ≡ true) it.1 (subst (λ n. has_call n m xs ≡ true) it.0 h)

-- of the calls that were let go each one came
module _ (j k i : ℕ) (came kept : List Act) where
  run_came : (xs : List ℕ) → has_call j k (map (act.Call i) (take_while (is_held came kept i) xs)) ≡ true → has_call j k came ≡ true
  run_came [] h = absurd (both_ways false refl h)
  run_came (x ∷ xs) h = by (is_held came kept i x) refl (run_came xs)
    where
      by : (b : Bool) → is_held came kept i x ≡ b → (has_call j k (map (act.Call i) (take_while (is_held came kept i) xs)) ≡ true → has_call j k came ≡ true) → has_call j k came ≡ true
      by false e more = absurd (both_ways false refl (subst (λ l. has_call j k (map (act.Call i) l) ≡ true) (run_no (is_held came kept i) x xs e) h))
      by true e more = first (or_cases (is_call j k (act.Call i x)) _ (subst (λ l. has_call j k (map (act.Call i) l) ≡ true) (run_yes (is_held came kept i) x xs e) h))
        where
          first : (is_call j k (act.Call i x) ≡ true) ⊎ (has_call j k (map (act.Call i) (take_while (is_held came kept i) xs)) ≡ true) → has_call j k came ≡ true
          first (inl q) = along j k i x came q (and_parts (has_call i x came) (not (has_call i x kept)) e).0
          first (inr q) = more q

-- the first of the calls that are left isn't held
abbrev pub Stuck : List Act → List Act → ℕ → List ℕ → Type 0
Stuck came kept j rest = FailsFirst (is_held came kept j) rest

pub record Waits (numbers : List ℕ) (came kept : List Act) (j : ℕ) : Type 0 where
  pub rest : List ℕ
  pub whole : numbers ≡ call_numbers j kept ++ rest
  pub stuck : Stuck came kept j rest

pub record Settling (calls : CallLists) (c : ℕ) (came kept : List Act) : Type 0 where
  pub before : (j k : ℕ) → has_call j k kept ≡ true → has_call j k came ≡ true
  pub waits : (j : ℕ) → Waits (numbers_on calls c j) came kept j

-- not held stays so, where what comes is also kept
still : (p k e m : Bool) → (p && not k) ≡ false → (e ≡ true → m ≡ true) → ((p || e) && not (k || m)) ≡ false
still true true e m h f = refl
still true false e m h f = absurd (both_ways true h refl)
still false true true m h f = refl
still false true false m h f = refl
still false false false m h f = refl
still false false true true h f = refl
still false false true false h f = absurd (both_ways false refl (f refl))

stuck_on : (came kept : List Act) (j : ℕ) (rest : List ℕ) (came_now kept_now : List Act)
    → ((k : ℕ) → is_held came kept j k ≡ false → has k rest ≡ true → is_held came_now kept_now j k ≡ false) → Stuck came kept j rest → Stuck came_now kept_now j rest
stuck_on came kept j [] came_now kept_now f h = tt
stuck_on came kept j (r ∷ rest) came_now kept_now f h = f r h (or_left (r == r) (has r rest) (eq-eqb r r refl))

module _ (calls : CallLists) (c : ℕ) (came kept : List Act) (so_far : Settling calls c came kept) where
  settling_feed : (n : ℕ) → Settling calls c (came ++ act.Feed n ∷ []) (kept ++ act.Feed n ∷ [])
  settling_feed n = record {
    before = λ j k h. or_feed j k came ∙ so_far.before j k (sym (or_feed j k kept) ∙ h);
    waits = λ j. (let w = so_far.waits j in record {
      rest = w.rest;
      whole = w.whole ∙ ap (λ l. l ++ w.rest) (sym (same_numbers j));
      stuck = stuck_on came kept j w.rest (came ++ act.Feed n ∷ []) (kept ++ act.Feed n ∷ [])
          (λ k h g. (λ i. (or_feed j k came i && not (or_feed j k kept i))) ∙ h) w.stuck;
    });
  }
    where
      plain : (b : Bool) → (b || false) ≡ b
      plain true = refl
      plain false = refl

      or_feed : (j k : ℕ) (xs : List Act) → has_call j k (xs ++ act.Feed n ∷ []) ≡ has_call j k xs
      or_feed j k xs = has_one j k xs (act.Feed n) ∙ plain (has_call j k xs)

      nothing : (l : List ℕ) → l ++ [] ≡ l
      nothing [] = refl
      nothing (x ∷ l) = ap (λ m. x ∷ m) (nothing l)

      same_numbers : (j : ℕ) → call_numbers j (kept ++ act.Feed n ∷ []) ≡ call_numbers j kept
      same_numbers j = calls_append j kept (act.Feed n ∷ []) ∙ nothing (call_numbers j kept)

  -- a call that came before
  settling_again : (i m : ℕ) → has_call i m came ≡ true → Settling calls c (came ++ act.Call i m ∷ []) kept
  settling_again i m had = record {
    before = λ j k h. same j k ∙ so_far.before j k h;
    waits = λ j. (let w = so_far.waits j in record {
      rest = w.rest;
      whole = w.whole;
      stuck = stuck_on came kept j w.rest (came ++ act.Call i m ∷ []) kept (λ k h g. ap (λ b. b && not (has_call j k kept)) (same j k) ∙ h) w.stuck;
    });
  }
    where
      same : (j k : ℕ) → has_call j k (came ++ act.Call i m ∷ []) ≡ has_call j k came
      same j k = has_one j k came (act.Call i m) ∙ by (is_call j k (act.Call i m)) refl
        where
          by : (b : Bool) → is_call j k (act.Call i m) ≡ b → (has_call j k came || b) ≡ has_call j k came
          by true e = let there = along j k i m came e had in rw there refl
          by false e = plain (has_call j k came)
            where
              plain : (b : Bool) → (b || false) ≡ b
              plain true = refl
              plain false = refl

  module _ (i m : ℕ) where
    left : List ℕ
    left = (so_far.waits i).rest

    whole : numbers_on calls c i ≡ call_numbers i kept ++ left
    unfolding left
    whole = (so_far.waits i).whole

    up : Up 0 (numbers_on calls c i)
    up = up_numbers c 0 (calls_of calls i)

    kept_are : list_all (λ k. has_call i k kept) (call_numbers i kept) ≡ true
    kept_are = all_by (λ k. has_call i k kept) (call_numbers i kept) (λ k h. has_numbers i k kept ∙ h)

    -- the first that is left is next
    first_is_next : (rest : List ℕ) → left ≡ m ∷ rest → is_next calls c kept i m ≡ true
    first_is_next rest e =
        let split : numbers_on calls c i ≡ call_numbers i kept ++ m ∷ rest = whole ∙ ap (λ l. call_numbers i kept ++ l) e in
        let rising : Up 0 (call_numbers i kept ++ m ∷ rest) = subst (Up 0) split up in
        ap (λ l. list_all (λ k. has_call i k kept) (filter (λ k. nat_lt k m) l)) split
        ∙ ap (list_all (λ k. has_call i k kept)) (before m rest 0 (call_numbers i kept) rising) ∙ kept_are

    -- a new call that is next is the first that is left
    next_is_first : has m (numbers_on calls c i) ≡ true → has_call i m kept ≡ false → is_next calls c kept i m ≡ true → (rest : List ℕ) × (left ≡ m ∷ rest)
    next_is_first on new ready = by left refl
      where
        by : (l : List ℕ) → left ≡ l → (rest : List ℕ) × (left ≡ m ∷ rest)
        by [] e = absurd (both_ways (has m (numbers_on calls c i)) (none e) on)
          where
            none : left ≡ [] → has m (numbers_on calls c i) ≡ false
            none e = ap (has m) (whole ∙ ap (λ l. call_numbers i kept ++ l) e) ∙ has_append m (call_numbers i kept) []
                ∙ ap (λ b. b || false) (sym (has_numbers i m kept) ∙ new)
        by (r ∷ rest) e = first (r == m) refl
          where
            split : numbers_on calls c i ≡ call_numbers i kept ++ r ∷ rest
            split = whole ∙ ap (λ l. call_numbers i kept ++ l) e

            rising : Up 0 (call_numbers i kept ++ r ∷ rest)
            rising = subst (Up 0) split up

            later : (r == m) ≡ false → has m rest ≡ true
            later q = sym (ap (λ b. b || ((r == m) || has m rest)) (sym (has_numbers i m kept) ∙ new) ∙ ap (λ b. b || has m rest) q)
                ∙ sym (has_append m (call_numbers i kept) (r ∷ rest)) ∙ ap (has m) (sym split) ∙ on

            less : (r == m) ≡ false → r < m
            less q = above (cases_lt r m)
              where
                above : (r < m) ⊎ (m ≤ r) → r < m
                above (inl lt) = lt
                above (inr le) = absurd (both_ways (has m rest) (none_below (suc r) m rest (up_behind 0 (call_numbers i kept) (r ∷ rest) rising).1 (omega (arith, le))) (later q))

            first : (b : Bool) → (r == m) ≡ b → (rest : List ℕ) × (left ≡ m ∷ rest)
            first true q = (rest, e ∙ ap (λ n. n ∷ rest) (eqb-true r m q))
            first false q =
                let in_numbers : has r (numbers_on calls c i) ≡ true = ap (has r) split ∙ has_append r (call_numbers i kept) (r ∷ rest)
                ∙ or_right (has r (call_numbers i kept)) (has r (r ∷ rest)) (or_left (r == r) (has r rest) (eq-eqb r r refl)) in
                let is_kept : has_call i r kept ≡ true =
                all_at (λ k. has_call i k kept) (λ k. nat_lt k m) r (numbers_on calls c i) ready in_numbers (lt-ltb r m (less q)) in
                absurd (both_ways (has r (call_numbers i kept)) (not_before r rest 0 (call_numbers i kept) rising) (sym (has_numbers i r kept) ∙ is_kept))

    pub next_split : has m (numbers_on calls c i) ≡ true → has_call i m kept ≡ false → is_next calls c kept i m ≡ true
        → (rest : List ℕ) × (numbers_on calls c i ≡ call_numbers i kept ++ m ∷ rest)
    next_split on new ready = let found = next_is_first on new ready in (found.0, whole ∙ ap (λ l. call_numbers i kept ++ l) found.1)

    -- a call that isn't next
    settling_held : is_next calls c kept i m ≡ false → Settling calls c (came ++ act.Call i m ∷ []) kept
    settling_held early = record {
      before = λ j k h. has_one j k came (act.Call i m) ∙ or_left (has_call j k came) (is_call j k (act.Call i m)) (so_far.before j k h);
      waits = λ j. (let w = so_far.waits j in record {
        rest = w.rest;
        whole = w.whole;
        stuck = on j w.rest w.whole w.stuck;
      });
    }
      where
        on : (j : ℕ) (rest : List ℕ) → numbers_on calls c j ≡ call_numbers j kept ++ rest → Stuck came kept j rest → Stuck (came ++ act.Call i m ∷ []) kept j rest
        on j [] e h = tt
        on j (r ∷ rest) e h = by (is_call j r (act.Call i m)) refl
          where
            by : (b : Bool) → is_call j r (act.Call i m) ≡ b → is_held (came ++ act.Call i m ∷ []) kept j r ≡ false
            by false q = ap (λ b. b && not (has_call j r kept)) (has_one j r came (act.Call i m) ∙ ap (λ b. has_call j r came || b) q ∙ plain (has_call j r came)) ∙ h
              where
                plain : (b : Bool) → (b || false) ≡ b
                plain true = refl
                plain false = refl
            by true q = absurd (both_ways (is_next calls c kept i m) early ready)
              where
                it : (i ≡ j) × (m ≡ r)
                it = is_it j r i m q

                split : numbers_on calls c i ≡ call_numbers i kept ++ m ∷ rest
                split = subst (λ n. numbers_on calls c n ≡ call_numbers n kept ++ m ∷ rest) (sym it.0) (e ∙ ap (λ n. call_numbers j kept ++ n ∷ rest) (sym it.1))

                rising : Up 0 (call_numbers i kept ++ m ∷ rest)
                rising = subst (Up 0) split up

                ready : is_next calls c kept i m ≡ true
                ready = ap (λ l. list_all (λ k. has_call i k kept) (filter (λ k. nat_lt k m) l)) split
                    ∙ ap (list_all (λ k. has_call i k kept)) (before m rest 0 (call_numbers i kept) rising) ∙ kept_are

    -- a call that is kept, with those behind it
    settling_next : has m (numbers_on calls c i) ≡ true → has_call i m came ≡ false → is_next calls c kept i m ≡ true
        → Settling calls c (came ++ act.Call i m ∷ []) (kept ++ let_go calls c came kept i m)
    settling_next on new ready = record {
      before = λ j k h. has_one j k came (act.Call i m) ∙ came_now j k (or_cases (has_call j k kept) (has_call j k gone) (sym (has_both j k kept gone) ∙ h));
      waits = λ j. wait j (i == j) refl;
    }
      where
        f : ℕ → Bool
        f = is_held came kept i

        behind_it : List ℕ
        behind_it = filter (λ k. nat_lt m k) (numbers_on calls c i)

        gone : List Act
        gone = let_go calls c came kept i m

        came_now : (j k : ℕ) → (has_call j k kept ≡ true) ⊎ (has_call j k (let_go calls c came kept i m) ≡ true) → (has_call j k came || is_call j k (act.Call i m)) ≡ true
        came_now j k (inl h) = or_left (has_call j k came) (is_call j k (act.Call i m)) (so_far.before j k h)
        came_now j k (inr h) = first (or_cases (is_call j k (act.Call i m)) _ h)
          where
            first : (is_call j k (act.Call i m) ≡ true) ⊎ (has_call j k (map (act.Call i) (take_while (is_held came kept i) (filter (λ k. nat_lt m k) (numbers_on calls c i)))) ≡ true)
                → (has_call j k came || is_call j k (act.Call i m)) ≡ true
            first (inl q) = or_right (has_call j k came) (is_call j k (act.Call i m)) q
            first (inr q) = or_left (has_call j k came) (is_call j k (act.Call i m)) (run_came j k i came kept (filter (λ k. nat_lt m k) (numbers_on calls c i)) q)

        not_kept : has_call i m kept ≡ false
        not_kept = by (has_call i m kept) refl
          where
            by : (b : Bool) → has_call i m kept ≡ b → b ≡ false
            by false e = refl
            by true e = absurd (both_ways (has_call i m came) new (so_far.before i m e))

        still_stuck : (j k : ℕ) → is_held came kept j k ≡ false → is_held (came ++ act.Call i m ∷ []) (kept ++ let_go calls c came kept i m) j k ≡ false
        still_stuck j k h =
            (λ n. (has_one j k came (act.Call i m) n && not (has_both j k kept (let_go calls c came kept i m) n)))
            ∙ still (has_call j k came) (has_call j k kept) (is_call j k (act.Call i m)) (has_call j k (let_go calls c came kept i m)) h
            (λ e. or_left (is_call j k (act.Call i m)) (has_call j k (map (act.Call i) (take_while (is_held came kept i) (filter (λ k. nat_lt m k) (numbers_on calls c i))))) e)

        wait : (j : ℕ) (b : Bool) → (i == j) ≡ b → Waits (numbers_on calls c j) (came ++ act.Call i m ∷ []) (kept ++ let_go calls c came kept i m) j
        wait j false q = let w = so_far.waits j in record {
          rest = w.rest;
          whole = w.whole ∙ ap (λ l. l ++ w.rest) (sym (calls_append j kept (let_go calls c came kept i m)
              ∙ ap (λ l. call_numbers j kept ++ l) (calls_of_other j i q (m ∷ take_while (is_held came kept i) (filter (λ k. nat_lt m k) (numbers_on calls c i)))) ∙ nothing (call_numbers j kept)));
          stuck = stuck_on came kept j w.rest (came ++ act.Call i m ∷ []) (kept ++ let_go calls c came kept i m) (λ k h g. still_stuck j k h) w.stuck;
        }
          where
            nothing : (l : List ℕ) → l ++ [] ≡ l
            nothing [] = refl
            nothing (x ∷ l) = ap (λ n. x ∷ n) (nothing l)
        wait j true q = subst (λ n. Waits (numbers_on calls c n) (came ++ act.Call i m ∷ []) (kept ++ let_go calls c came kept i m) n) (eqb-true i j q) own
          where
            found : (rest : List ℕ) × (left ≡ m ∷ rest)
            found = next_is_first on not_kept ready

            split : numbers_on calls c i ≡ call_numbers i kept ++ m ∷ found.0
            split = whole ∙ ap (λ l. call_numbers i kept ++ l) found.1

            rising : Up 0 (call_numbers i kept ++ m ∷ found.0)
            rising = subst (Up 0) split up

            rest_is : filter (λ k. nat_lt m k) (numbers_on calls c i) ≡ found.0
            rest_is = ap (filter (λ k. nat_lt m k)) split ∙ behind m found.0 0 (call_numbers i kept) rising

            r : Run (is_held came kept i) (filter (λ k. nat_lt m k) (numbers_on calls c i))
            r = run (is_held came kept i) (filter (λ k. nat_lt m k) (numbers_on calls c i))

            own : Waits (numbers_on calls c i) (came ++ act.Call i m ∷ []) (kept ++ let_go calls c came kept i m) i
            own = record {
              rest = r.rest;
              whole = split ∙ ap (λ l. call_numbers i kept ++ m ∷ l) (sym rest_is ∙ r.whole)
                  ∙ sym (append_assoc (call_numbers i kept) (m ∷ take_while (is_held came kept i) (filter (λ k. nat_lt m k) (numbers_on calls c i))) r.rest)
                  ∙ ap (λ l. l ++ r.rest) (sym (calls_append i kept (let_go calls c came kept i m)
                  ∙ ap (λ l. call_numbers i kept ++ l) (calls_of_thread i (m ∷ take_while (is_held came kept i) (filter (λ k. nat_lt m k) (numbers_on calls c i))))));
              stuck = stuck_on came kept i r.rest (came ++ act.Call i m ∷ []) (kept ++ let_go calls c came kept i m) (λ k h g. still_stuck i k h) r.ends;
            }

-- an act is a feed, or a call that there is on the connection
abbrev pub IsOn : CallLists → ℕ → Act → Type 0
IsOn calls c (act.Feed n) = Unit {0}
IsOn calls c (act.Call j k) = has k (numbers_on calls c j) ≡ true

pub settling_more : (calls : CallLists) (c : ℕ) (came kept : List Act) (a : Act) → IsOn calls c a → Settling calls c came kept
    → Settling calls c (came ++ a ∷ []) (keeps calls c came kept a)
settling_more calls c came kept (act.Feed n) on h = settling_feed calls c came kept h n
settling_more calls c came kept (act.Call j k) on h = by (has_call j k came) refl
  where
    next : (b : Bool) → is_next calls c kept j k ≡ b → has_call j k came ≡ false
        → Settling calls c (came ++ act.Call j k ∷ []) (if b then kept ++ let_go calls c came kept j k else kept)
    next true e new = settling_next calls c came kept h j k on new e
    next false e new = settling_held calls c came kept h j k e

    by : (b : Bool) → has_call j k came ≡ b
        → Settling calls c (came ++ act.Call j k ∷ [])
        (if b then kept else if is_next calls c kept j k then kept ++ let_go calls c came kept j k else kept)
    by true e = settling_again calls c came kept h j k e
    by false e = next (is_next calls c kept j k) refl e

pub settling_all : (calls : CallLists) (c : ℕ) (came kept acts : List Act) → AllByRecursion (IsOn calls c) acts → Settling calls c came kept
    → Settling calls c (came ++ acts) (settles calls c came kept acts)
settling_all calls c came kept [] on h = subst (λ l. Settling calls c l kept) (sym (nothing came)) h
  where
    nothing : (l : List Act) → l ++ [] ≡ l
    nothing [] = refl
    nothing (x ∷ l) = ap (λ m. x ∷ m) (nothing l)
settling_all calls c came kept (a ∷ acts) on h =
    subst (λ l. Settling calls c l (settles calls c (came ++ a ∷ []) (keeps calls c came kept a) acts)) (append_assoc came (a ∷ []) acts)
    (settling_all calls c (came ++ a ∷ []) (keeps calls c came kept a) acts on.1 (settling_more calls c came kept a on.0 h))

pub settling_none : (calls : CallLists) (c : ℕ) → Settling calls c [] []
settling_none calls c = record {
  before = λ j k h. h;
  waits = λ j. record { rest = numbers_on calls c j; whole = refl; stuck = by j (numbers_on calls c j) };
}
  where
    by : (j : ℕ) (l : List ℕ) → Stuck [] [] j l
    by j [] = tt
    by j (x ∷ l) = refl

pub settling : (calls : CallLists) (c : ℕ) (acts : List Act) → AllByRecursion (IsOn calls c) acts → Settling calls c acts (settle calls c acts)
unfolding settle
settling calls c acts on = settling_all calls c [] [] acts on (settling_none calls c)
