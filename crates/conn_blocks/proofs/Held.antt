-- What a block holds back is what settling holds.
use Rattle.std.proofs.Common.{◌≡◌, ℕ, ◌+◌, ◌*◌, ◌==◌, ◌<◌, ◌≤◌, ◌&&◌, ◌||◌, not, suc, Bool, true, false, List, [], ◌∷◌, ◌++◌, length, get_or, set, map, take, drop, slice_get, Some, IfSome, refl, sym, ap, subst, ◌∙◌, arith, eq-eqb, append_assoc}
use Rattle.std.specs.Prelude.{nat_lt, filter, take_while, if◌then◌else◌}
use Rattle.std.specs.List.{AllByRecursion, list_all}
use Rattle.std.proofs.lemmas.Bool.{both_ways, ne_eqb}
use Rattle.std.proofs.lemmas.List.{append-nil, length-set, length-drop, length-take, get_or-set_same, get_or-set_other}
use Rattle.std.proofs.lemmas.Option.{slice_get-get_or}
use Rattle.perimeter_core.specs.declared.entries.Act.{Act}
use Rattle.perimeter_core.specs.declared.entries.Act.TheVariants as act
use Rattle.tcb_machine.specs.declared.kinds.Call.{Call}
use Rattle.tcb_machine.specs.declared.kinds.Call.TheVariants as call
use Rattle.conn_classifier.specs.Plan.{PlanOf, items_in}
use Rattle.conn_blocks.specs.declared.stages.Stage.{Stage}
use Rattle.conn_blocks.specs.declared.stages.Stage.TheVariants as stage
use Rattle.conn_blocks.specs.CallLists.{CallLists, calls_of}
use Rattle.conn_blocks.specs.ServeOrder.{BlockOf, IsActOf, IsCallOn, serve, serving_of}
use Rattle.perimeter_core.specs.Deeds.{feed_numbers}
use Rattle.conn_blocks.specs.Orders.{numbers_from, numbers_on, call_numbers, is_call, has_call, is_held, is_next, let_go, keeps, settles, settle}
use Rattle.conn_blocks.specs.Holding.{all_made, is_held_back, is_made, stage_at, stage_of, Fits, IsSettled, StandsFor}
use Rattle.conn_blocks.proofs.Rising.{Up, has, up_numbers, before, behind, run_yes, run_no}
use Rattle.conn_blocks.proofs.Numbers.{split_at, left_one, is_among}
use Rattle.conn_blocks.proofs.Settled.{settled_stages}
use Rattle.conn_blocks.specs.SettledFeeds.{feeds_settle}
use Rattle.conn_blocks.proofs.Settling.{has_one, is_it, IsOn, Settling, settling, next_split}
use Rattle.capture_reader.proofs.Pieces.{all_push}

settles_more : (calls : CallLists) (c : ℕ) (came kept acts : List Act) (a : Act)
    → settles calls c came kept (acts ++ a ∷ []) ≡ keeps calls c (came ++ acts) (settles calls c came kept acts) a
settles_more calls c came kept [] a = ap (λ l. keeps calls c l kept a) (sym (append-nil came))
settles_more calls c came kept (x ∷ acts) a =
    settles_more calls c (came ++ x ∷ []) (keeps calls c came kept x) acts a
    ∙ ap (λ l. keeps calls c l (settles calls c (came ++ x ∷ []) (keeps calls c came kept x) acts) a) (append_assoc came (x ∷ []) acts)

-- what is kept of one more act
pub settle_more : (calls : CallLists) (c : ℕ) (came : List Act) (a : Act) → settle calls c (came ++ a ∷ []) ≡ keeps calls c came (settle calls c came) a
unfolding settle
settle_more calls c came a = settles_more calls c [] [] came a

-- acts of the connection are on it
pub are_on : (p : PlanOf) (calls : CallLists) (c : ℕ) (came : List Act) → AllByRecursion (IsActOf p calls c) came → AllByRecursion (IsOn calls c) came
are_on p calls c [] h = tt
are_on p calls c (act.Feed n ∷ came) h = (tt, are_on p calls c came h.1)
are_on p calls c (act.Call j k ∷ came) h = (
  (let same : 0 + k ≡ k = omega arith in let lt = h.0.1 in subst (λ m. has m (numbers_on calls c j) ≡ true) same (is_among c 0 k (calls_of calls j) h.0.2 lt)),
  are_on p calls c came h.1,
)

-- two tests that agree on a list
all_same : (f g : ℕ → Bool) (xs : List ℕ) → AllByRecursion (λ i. f i ≡ g i) xs → list_all f xs ≡ list_all g xs
all_same f g [] h = refl
all_same f g (x ∷ xs) h = λ i. (h.0 i && all_same f g xs h.1 i)

run_same : (f g : ℕ → Bool) (xs : List ℕ) → AllByRecursion (λ i. f i ≡ g i) xs → take_while f xs ≡ take_while g xs
run_same f g [] h = refl
run_same f g (x ∷ xs) h = by (g x) refl (run_same f g xs h.1)
  where
    by : (b : Bool) → g x ≡ b → take_while f xs ≡ take_while g xs → take_while f (x ∷ xs) ≡ take_while g (x ∷ xs)
    by true e more = run_yes f x xs (h.0 ∙ e) ∙ ap (λ l. x ∷ l) more ∙ sym (run_yes g x xs e)
    by false e more = run_no f x xs (h.0 ∙ e) ∙ sym (run_no g x xs e)

-- the numbers of calls are those of a part of the list
module _ (P : ℕ → Type 0) (c : ℕ) where
  pub numbers_all : (n : ℕ) (xs : List (ℕ × Call)) → ((i : ℕ) → n ≤ i → i < n + length xs → P i) → AllByRecursion P (numbers_from n c xs)
  numbers_all n [] h = tt
  numbers_all n (x ∷ xs) h = by (x.0 == c) (numbers_all (suc n) xs (λ i le lt. h i (omega (arith, le)) (omega (arith, lt))))
    where
      by : (b : Bool) → AllByRecursion P (numbers_from (suc n) c xs) → AllByRecursion P (if b then n ∷ numbers_from (suc n) c xs else numbers_from (suc n) c xs)
      by true g = (h n (omega arith) (omega arith), g)
      by false g = g

-- a list has one place for a number of it
module _ (k : ℕ) (xs rest ys last : List ℕ) (up : Up 0 (xs ++ k ∷ rest)) (same : xs ++ k ∷ rest ≡ ys ++ k ∷ last) where
  front_is : xs ≡ ys
  front_is = sym (before k rest 0 xs up) ∙ ap (filter (λ i. nat_lt i k)) same ∙ before k last 0 ys (subst (Up 0) same up)

made_is : (m came : Bool) → is_made (stage_of m came) ≡ m
made_is true came = refl
made_is false true = refl
made_is false false = refl

held_is : (m came : Bool) → is_held_back (stage_of m came) ≡ (came && not m)
held_is true true = refl
held_is true false = refl
held_is false true = refl
held_is false false = refl

-- two calls of different places, or one call
pub other_place : (j k i m : ℕ) → j < 4 → i < 4 → is_call i m (act.Call j k) ≡ false → 4 * m + i ≡ 4 * k + j → ⊥
other_place j k i m lj li e q =
    let same_m : m ≡ k = omega (arith, q, lj, li) in
    let same_i : j ≡ i = omega (arith, q, same_m) in
    both_ways (is_call i m (act.Call j k)) e ((λ n. eq-eqb j i same_i n && eq-eqb k m (sym same_m) n))

-- a table with one more call held back
abbrev pub table_with : List Stage → ℕ → ℕ → List Stage
table_with stages j k = set stages (4 * k + j) stage.Held

module _ (p : PlanOf) (calls : CallLists) (c : ℕ) (came : List Act) (old : BlockOf) (is : StandsFor p calls c came old) where
  pub feed_is_next : (n : ℕ) → length (feed_numbers came) ≡ n → n ≡ length (feed_numbers old.order)
  feed_is_next n e = sym e ∙ ap length (sym (feeds_settle calls c came)) ∙ ap (λ l. length (feed_numbers l)) (sym is.order)

  so_far : Settling calls c came old.order
  so_far = subst (Settling calls c came) (sym is.order) (settling calls c came (are_on p calls c came is.acts))

  kept_came : (j k : ℕ) → has_call j k old.order ≡ true → has_call j k came ≡ true
  unfolding so_far
  kept_came = so_far.before

  module _ (a : Act) (acts : IsActOf p calls c a) (new : BlockOf) (settled : IsSettled p calls c new) where
    stands : new.order ≡ keeps calls c came old.order a → Fits calls (came ++ a ∷ []) new → StandsFor p calls c (came ++ a ∷ []) new
    stands e f = record {
      acts = all_push (IsActOf p calls c) came a is.acts acts;
      settled = settled;
      order = e ∙ ap (λ l. keeps calls c came l a) is.order ∙ sym (settle_more calls c came a);
      stages = f;
    }

  -- a feed
  pub stands_feed : (n : ℕ) → n < length (items_in p c) → (new : BlockOf) → IsSettled p calls c new → new.order ≡ old.order ++ act.Feed n ∷ [] → new.stages ≡ old.stages
      → StandsFor p calls c (came ++ act.Feed n ∷ []) new
  stands_feed n lt new settled e s = stands (act.Feed n) lt new settled e fits
    where
      plain : (b : Bool) → (b || false) ≡ b
      plain true = refl
      plain false = refl

      same : (j k : ℕ) (xs : List Act) → has_call j k (xs ++ act.Feed n ∷ []) ≡ has_call j k xs
      same j k xs = has_one j k xs (act.Feed n) ∙ plain (has_call j k xs)

      fits : Fits calls (came ++ act.Feed n ∷ []) new
      fits j k lj lk = ap (λ l. stage_at l j k) s ∙ is.stages j k lj lk
          ∙ (λ i. stage_of (sym (ap (has_call j k) e ∙ same j k old.order) i) (sym (same j k came) i))

  module _ (j k : ℕ) (exists : IsCallOn calls c (act.Call j k)) where
    four : j < 4
    four = exists.0

    inside : k < length (calls_of calls j)
    inside = exists.1

    stage_is : stage_at old.stages j k ≡ stage_of (has_call j k old.order) (has_call j k came)
    stage_is = is.stages j k four inside

    -- a call that came before
    pub stands_again : (stage_at old.stages j k ≡ stage.Unasked → ⊥) → StandsFor p calls c (came ++ act.Call j k ∷ []) old
    stands_again known = stands (act.Call j k) exists old is.settled (sym (ap (λ b. if b then old.order else if is_next calls c old.order j k then old.order ++ let_go calls c came old.order j k else old.order) had)) fits
      where
        had : has_call j k came ≡ true
        had = by (has_call j k old.order) (has_call j k came) refl refl
          where
            by : (m b : Bool) → has_call j k old.order ≡ m → has_call j k came ≡ b → b ≡ true
            by m true e f = refl
            by true false e f = sym f ∙ kept_came j k e
            by false false e f = absurd (known (stage_is ∙ (λ i. stage_of (e i) (f i))))

        fits : Fits calls (came ++ act.Call j k ∷ []) old
        fits i m li lm = is.stages i m li lm ∙ ap (stage_of (has_call i m old.order)) (sym (has_one i m came (act.Call j k) ∙ same (is_call i m (act.Call j k)) refl))
          where
            plain : (b : Bool) → (b || false) ≡ b
            plain true = refl
            plain false = refl

            same : (b : Bool) → is_call i m (act.Call j k) ≡ b → (has_call i m came || b) ≡ has_call i m came
            same true q = let it = is_it i m j k q in
                let there : has_call i m came ≡ true = subst (λ n. has_call i n came ≡ true) it.1 (subst (λ n. has_call n k came ≡ true) it.0 had) in
                sym (there ∙ sym (ap (λ b. b || true) there))
            same false q = plain (has_call i m came)

    -- a new call
    module _ (unasked : stage_at old.stages j k ≡ stage.Unasked) where
      new_parts : (m b : Bool) → stage.Unasked ≡ stage_of m b → (m ≡ false) × (b ≡ false)
      new_parts true b e = absurd cc
      new_parts false true e = absurd cc
      new_parts false false e = (refl, refl)

      is_new : (has_call j k old.order ≡ false) × (has_call j k came ≡ false)
      is_new = new_parts (has_call j k old.order) (has_call j k came) (sym unasked ∙ stage_is)

      wide : 4 * k + j < length old.stages
      wide = is.settled.table j k four inside

      pub marked_here : stage_at (table_with old.stages j k) j k ≡ stage.Held
      marked_here = get_or-set_same old.stages (4 * k + j) stage.Held stage.Unasked wide

      marked_other : (i m : ℕ) → i < 4 → is_call i m (act.Call j k) ≡ false → stage_at (table_with old.stages j k) i m ≡ stage_at old.stages i m
      marked_other i m li q = get_or-set_other old.stages (4 * k + j) (4 * m + i) stage.Held stage.Unasked (other_place j k i m four li q)

      -- another call of the same thread
      marked_later : (m : ℕ) → (k ≡ m → ⊥) → m < length (calls_of calls j) → stage_at (table_with old.stages j k) j m ≡ stage_of (has_call j m old.order) (has_call j m came)
      marked_later m ne lm = marked_other j m four (ap (λ b. (j == j) && b) (ne_eqb k m ne) ∙ right (j == j)) ∙ is.stages j m four lm
        where
          right : (b : Bool) → (b && false) ≡ false
          right true = refl
          right false = refl

      pub marked_fits : (b : BlockOf) → b.order ≡ old.order → b.stages ≡ (table_with old.stages j k) → Fits calls (came ++ act.Call j k ∷ []) b
      marked_fits b e s i m li lm = by (is_call i m (act.Call j k)) refl
        where
          plain : (b : Bool) → (b || false) ≡ b
          plain true = refl
          plain false = refl

          by : (d : Bool) → is_call i m (act.Call j k) ≡ d → stage_at b.stages i m ≡ stage_of (has_call i m b.order) (has_call i m (came ++ act.Call j k ∷ []))
          by false q = ap (λ l. stage_at l i m) s ∙ marked_other i m li q ∙ is.stages i m li lm
              ∙ (λ n. stage_of (has_call i m (sym e n)) (sym (has_one i m came (act.Call j k) ∙ ap (λ d. has_call i m came || d) q ∙ plain (has_call i m came)) n))
          by true q =
              let it = is_it i m j k q in
              let there : has_call j k (came ++ act.Call j k ∷ []) ≡ true =
              has_one j k came (act.Call j k) ∙ ap (λ d. has_call j k came || d) (subst (λ n. is_call j n (act.Call j k) ≡ true) (sym it.1) (subst (λ n. is_call n m (act.Call j k) ≡ true) (sym it.0) q))
              ∙ ap (λ d. d || true) is_new.1 in
              let own : stage_at b.stages j k ≡ stage_of (has_call j k b.order) (has_call j k (came ++ act.Call j k ∷ [])) =
              ap (λ l. stage_at l j k) s ∙ marked_here ∙ (λ n. stage_of (sym (ap (has_call j k) e ∙ is_new.0) n) (sym there n)) in
              subst (λ n. stage_at b.stages i n ≡ stage_of (has_call i n b.order) (has_call i n (came ++ act.Call j k ∷ []))) it.1
              (subst (λ n. stage_at b.stages n k ≡ stage_of (has_call n k b.order) (has_call n k (came ++ act.Call j k ∷ []))) it.0 own)

      it : ℕ × Call
      it = get_or (calls_of calls j) k (0, call.Status)

      here : slice_get (calls_of calls j) k ≡ Some it
      unfolding it
      here = slice_get-get_or (calls_of calls j) k (0, call.Status) inside

      on_it : it.0 ≡ c
      on_it = subst (λ o. IfSome o (λ x. x.0 ≡ c)) here exists.2

      pub from_here : numbers_from k c (drop k (calls_of calls j)) ≡ k ∷ numbers_from (k + 1) c (drop (k + 1) (calls_of calls j))
      from_here = left_one c k (calls_of calls j) it inside here on_it

      two_parts : numbers_on calls c j ≡ numbers_from 0 c (take k (calls_of calls j)) ++ k ∷ numbers_from (k + 1) c (drop (k + 1) (calls_of calls j))
      two_parts =
          let same : 0 + k ≡ k = omega arith in
          split_at c 0 k (calls_of calls j) ∙ ap (λ n. numbers_from 0 c (take k (calls_of calls j)) ++ numbers_from n c (drop k (calls_of calls j))) same
          ∙ ap (λ l. numbers_from 0 c (take k (calls_of calls j)) ++ l) from_here

      up : Up 0 (numbers_from 0 c (take k (calls_of calls j)) ++ k ∷ numbers_from (k + 1) c (drop (k + 1) (calls_of calls j)))
      up = subst (Up 0) two_parts (up_numbers c 0 (calls_of calls j))

      on_conn : has k (numbers_on calls c j) ≡ true
      on_conn = let same : 0 + k ≡ k = omega arith in subst (λ m. has m (numbers_on calls c j) ≡ true) same (is_among c 0 k (calls_of calls j) exists.2 inside)

      -- the table says whether the call is next
      pub next_is : all_made (table_with old.stages j k) j (numbers_from 0 c (take k (calls_of calls j))) ≡ is_next calls c old.order j k
      next_is =
          all_same (λ i. is_made (stage_at (table_with old.stages j k) j i)) (λ i. has_call j i old.order) (numbers_from 0 c (take k (calls_of calls j)))
          (numbers_all (λ i. is_made (stage_at (table_with old.stages j k) j i) ≡ has_call j i old.order) c 0 (take k (calls_of calls j)) (λ i le lt.
          (let less : i < k = omega (arith, lt, length-take k (calls_of calls j), inside) in
          ap is_made (marked_later i (λ e. (let no : ⊥ = omega (arith, e, less) in no)) (omega (arith, less, inside))) ∙ made_is (has_call j i old.order) (has_call j i came))))
          ∙ ap (list_all (λ i. has_call j i old.order)) (sym (before k (numbers_from (k + 1) c (drop (k + 1) (calls_of calls j))) 0 (numbers_from 0 c (take k (calls_of calls j))) up)
          ∙ ap (filter (λ i. nat_lt i k)) (sym two_parts))

      -- a call that isn't next is held back
      pub stands_early : is_next calls c old.order j k ≡ false → (new : BlockOf) → IsSettled p calls c new → new.order ≡ old.order → new.stages ≡ (table_with old.stages j k)
          → StandsFor p calls c (came ++ act.Call j k ∷ []) new
      stands_early early new settled e s =
          stands (act.Call j k) exists new settled
          (e ∙ sym (λ n. if is_new.1 n then old.order else if early n then old.order ++ let_go calls c came old.order j k else old.order))
          (marked_fits new e s)

      -- the calls from this one on are those that are left
      pub left_are : is_next calls c old.order j k ≡ true → numbers_on calls c j ≡ call_numbers j old.order ++ numbers_from k c (drop k (calls_of calls j))
      left_are ready =
          let split = next_split calls c came old.order so_far j k on_conn is_new.0 ready in
          let same = front_is k (call_numbers j old.order) split.0 (numbers_from 0 c (take k (calls_of calls j))) (numbers_from (k + 1) c (drop (k + 1) (calls_of calls j)))
          (subst (Up 0) split.1 (up_numbers c 0 (calls_of calls j))) (sym split.1 ∙ two_parts) in
          two_parts ∙ (λ n. sym same n ++ sym from_here n)

      -- a call that is next is let go, with those behind it
      pub stands_now : is_next calls c old.order j k ≡ true → (new : BlockOf) → IsSettled p calls c new
          → new.order ≡ old.order ++ map (act.Call j) (take_while (λ i. is_held_back (stage_at (table_with old.stages j k) j i)) (numbers_from k c (drop k (calls_of calls j))))
          → Fits calls (came ++ act.Call j k ∷ []) new → StandsFor p calls c (came ++ act.Call j k ∷ []) new
      stands_now ready new settled e f =
          stands (act.Call j k) exists new settled
          (e ∙ ap (λ l. old.order ++ map (act.Call j) l) run_is ∙ sym (λ n. if is_new.1 n then old.order else if ready n then old.order ++ let_go calls c came old.order j k else old.order))
          f
        where
          run_is : take_while (λ i. is_held_back (stage_at (table_with old.stages j k) j i)) (numbers_from k c (drop k (calls_of calls j)))
              ≡ k ∷ take_while (is_held came old.order j) (filter (λ i. nat_lt k i) (numbers_on calls c j))
          run_is =
              ap (take_while (λ i. is_held_back (stage_at (table_with old.stages j k) j i))) from_here
              ∙ run_yes (λ i. is_held_back (stage_at (table_with old.stages j k) j i)) k (numbers_from (k + 1) c (drop (k + 1) (calls_of calls j))) (ap is_held_back marked_here)
              ∙ ap (λ l. k ∷ l) (run_same (λ i. is_held_back (stage_at (table_with old.stages j k) j i)) (is_held came old.order j) (numbers_from (k + 1) c (drop (k + 1) (calls_of calls j)))
              (numbers_all (λ i. is_held_back (stage_at (table_with old.stages j k) j i) ≡ is_held came old.order j i) c (k + 1) (drop (k + 1) (calls_of calls j)) (λ i le lt.
              (let inner : i < length (calls_of calls j) = omega (arith, lt, length-drop (k + 1) (calls_of calls j), inside) in
              ap is_held_back (marked_later i (λ e. (let no : ⊥ = omega (arith, e, le) in no)) inner) ∙ held_is (has_call j i old.order) (has_call j i came))))
              ∙ ap (take_while (is_held came old.order j)) (sym (behind k (numbers_from (k + 1) c (drop (k + 1) (calls_of calls j))) 0 (numbers_from 0 c (take k (calls_of calls j))) up)
              ∙ ap (filter (λ i. nat_lt k i)) (sym two_parts)))

      module _ (b : BlockOf) (q : b ≡ record old { stages = table_with old.stages j k }) where
        pub first_settled : IsSettled p calls c b
        first_settled = subst (IsSettled p calls c) (sym q)
            (settled_stages p calls c old is.settled (table_with old.stages j k) (length-set old.stages (4 * k + j) stage.Held))

        next_was : all_made b.stages j (numbers_from 0 c (take k (calls_of calls j))) ≡ is_next calls c old.order j k
        next_was = ap (λ (b : BlockOf). all_made b.stages j (numbers_from 0 c (take k (calls_of calls j)))) q ∙ next_is

        pub first_left : all_made b.stages j (numbers_from 0 c (take k (calls_of calls j))) ≡ true
            → numbers_on calls c j ≡ call_numbers j b.order ++ numbers_from k c (drop k (calls_of calls j))
        first_left ready = left_are (sym next_was ∙ ready) ∙ ap (λ (b : BlockOf). call_numbers j b.order ++ numbers_from k c (drop k (calls_of calls j))) (sym q)

        pub first_early : all_made b.stages j (numbers_from 0 c (take k (calls_of calls j))) ≡ false → StandsFor p calls c (came ++ act.Call j k ∷ []) b
        first_early early = stands_early (sym next_was ∙ early) b first_settled (ap (λ (b : BlockOf). b.order) q) (ap (λ (b : BlockOf). b.stages) q)

        pub first_now : all_made b.stages j (numbers_from 0 c (take k (calls_of calls j))) ≡ true → (new : BlockOf) → IsSettled p calls c new
            → new.order ≡ b.order ++ map (act.Call j) (take_while (λ i. is_held_back (stage_at b.stages j i)) (numbers_from k c (drop k (calls_of calls j))))
            → ((came : List Act) → Fits calls came b → Fits calls came new) → StandsFor p calls c (came ++ act.Call j k ∷ []) new
        first_now ready new settled e f =
            stands_now (sym next_was ∙ ready) new settled
            (subst (λ (b : BlockOf). new.order ≡ b.order ++ map (act.Call j) (take_while (λ i. is_held_back (stage_at b.stages j i)) (numbers_from k c (drop k (calls_of calls j))))) q e)
            (f (came ++ act.Call j k ∷ []) (marked_fits b (ap (λ (b : BlockOf). b.order) q) (ap (λ (b : BlockOf). b.stages) q)))

module _ (p : PlanOf) (calls : CallLists) (c : ℕ) (came : List Act) (b : BlockOf) (is : StandsFor p calls c came b) where
  pub holds_back : (j k : ℕ) → j < 4 → k < length (calls_of calls j) → is_held_back (stage_at b.stages j k) ≡ is_held came (settle calls c came) j k
  holds_back j k lj lk =
      ap is_held_back (is.stages j k lj lk) ∙ held_is (has_call j k b.order) (has_call j k came) ∙ ap (λ l. is_held came l j k) is.order

  pub serves_settled : b.short ≡ false → serving_of b ≡ serve p calls c (settle calls c came)
  serves_settled e = (is.settled.sound e).served ∙ ap (serve p calls c) is.order
