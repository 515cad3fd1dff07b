-- One more of the calls that were held back is made.
use Rattle.std.proofs.Common.{◌≡◌, ℕ, ◌+◌, ◌*◌, ◌==◌, ◌<◌, ◌&&◌, ◌||◌, zero, suc, Bool, true, false, List, [], ◌∷◌, ◌++◌, length, get_or, set, map, take, slice_get, Some, IfSome, refl, sym, ap, subst, ◌∙◌, arith, append_assoc}
use Rattle.std.specs.Prelude.{take_while}
use Rattle.std.specs.List.{list_all}
use Rattle.std.proofs.lemmas.Bool.{both_ways, eqb-true, or_right, and_parts}
use Rattle.std.proofs.lemmas.List.{length-take, get_or-set_same, get_or-set_other}
use Rattle.perimeter_core.specs.declared.entries.Act.{Act}
use Rattle.perimeter_core.specs.declared.entries.Act.TheVariants as act
use Rattle.conn_blocks.specs.declared.stages.Stage.{Stage}
use Rattle.conn_blocks.specs.declared.stages.Stage.TheVariants as stage
use Rattle.conn_blocks.specs.CallLists.{CallLists}
use Rattle.conn_blocks.specs.ServeOrder.{BlockOf}
use Rattle.tcb_machine.specs.declared.kinds.Call.{Call}
use Rattle.conn_blocks.specs.Orders.{numbers_from, call_numbers, is_call, has_call}
use Rattle.conn_blocks.specs.Holding.{stage_at, stage_of, is_made, all_made, Begins, Fits}
use Rattle.conn_blocks.proofs.Rising.{has, run_yes, run_no}
use Rattle.conn_blocks.proofs.Numbers.{is_among}
use Rattle.conn_blocks.proofs.Settling.{calls_append, calls_of_thread, has_one, is_it}
use Rattle.conn_blocks.proofs.Held.{other_place}

module _ (j k : ℕ) (left rest : List ℕ) (here : left ≡ k ∷ rest) where
  pub begins_here : (numbers front : List ℕ) → numbers ≡ front ++ left → Begins (front ++ k ∷ []) numbers
  begins_here numbers front e = record {
    rest = rest;
    joined = e ∙ ap (λ l. front ++ l) here ∙ sym (append_assoc front (k ∷ []) rest);
  }

  module _ (old new : List Act) (longer : new ≡ old ++ act.Call j k ∷ []) where
    pub next_on : (numbers : List ℕ) → numbers ≡ call_numbers j old ++ left → numbers ≡ call_numbers j new ++ rest
    next_on numbers e =
        e ∙ ap (λ l. call_numbers j old ++ l) here ∙ sym (append_assoc (call_numbers j old) (k ∷ []) rest)
        ∙ ap (λ l. l ++ rest) (sym (ap (call_numbers j) longer ∙ calls_append j old (act.Call j k ∷ []) ∙ ap (λ l. call_numbers j old ++ l) (calls_of_thread j (k ∷ []))))

    pub gone_on : (f : ℕ → Bool) (whole : List Act) → f k ≡ true → old ++ map (act.Call j) (take_while f left) ≡ whole → new ++ map (act.Call j) (take_while f rest) ≡ whole
    gone_on f whole held e =
        ap (λ l. l ++ map (act.Call j) (take_while f rest)) longer ∙ append_assoc old (act.Call j k ∷ []) (map (act.Call j) (take_while f rest))
        ∙ ap (λ l. old ++ map (act.Call j) l) (sym (ap (take_while f) here ∙ run_yes f k rest held)) ∙ e

  pub gone_all : (f : ℕ → Bool) (order whole : List Act) → f k ≡ false → order ++ map (act.Call j) (take_while f left) ≡ whole → order ++ [] ≡ whole
  gone_all f order whole free e = ap (λ l. order ++ map (act.Call j) l) (sym (ap (take_while f) here ∙ run_no f k rest free)) ∙ e

module _ (calls : CallLists) (j k : ℕ) (four : j < 4) (old new : BlockOf) (longer : new.order ≡ old.order ++ act.Call j k ∷ [])
    (table : new.stages ≡ set old.stages (4 * k + j) stage.Made) where
  pub later_on : (m : ℕ) → k < m → stage_at new.stages j m ≡ stage_at old.stages j m
  later_on m lt = ap (λ l. stage_at l j m) table ∙ get_or-set_other old.stages (4 * k + j) (4 * m + j) stage.Made stage.Unasked (λ e. (let no : ⊥ = omega (arith, e, lt) in no))

  pub fits_on : 4 * k + j < length old.stages → (came : List Act) → Fits calls came old → Fits calls came new
  fits_on wide came f i m li lm = by (is_call i m (act.Call j k)) refl
    where
      plain : (b : Bool) → (b || false) ≡ b
      plain true = refl
      plain false = refl

      by : (b : Bool) → is_call i m (act.Call j k) ≡ b → stage_at new.stages i m ≡ stage_of (has_call i m new.order) (has_call i m came)
      by false q =
          ap (λ l. stage_at l i m) table ∙ get_or-set_other old.stages (4 * k + j) (4 * m + i) stage.Made stage.Unasked (other_place j k i m four li q) ∙ f i m li lm
          ∙ ap (λ b. stage_of b (has_call i m came)) (sym (ap (has_call i m) longer ∙ has_one i m old.order (act.Call j k) ∙ ap (λ b. has_call i m old.order || b) q ∙ plain (has_call i m old.order)))
      by true q =
          let it = is_it i m j k q in
          let place : 4 * m + i ≡ 4 * k + j = let same_i = it.0 in let same_m = it.1 in omega (arith, same_i, same_m) in
          ap (λ l. stage_at l i m) table ∙ ap (λ n. get_or (set old.stages (4 * k + j) stage.Made) n stage.Unasked) place
          ∙ get_or-set_same old.stages (4 * k + j) stage.Made stage.Unasked wide
          ∙ ap (λ b. stage_of b (has_call i m came)) (sym (ap (has_call i m) longer ∙ has_one i m old.order (act.Call j k) ∙ or_right (has_call i m old.order) (is_call i m (act.Call j k)) q))

-- a call that wasn't made, among some
pub one_fails : (f : ℕ → Bool) (i : ℕ) (xs : List ℕ) → has i xs ≡ true → f i ≡ false → list_all f xs ≡ false
one_fails f i [] h e = absurd (both_ways false refl h)
one_fails f i (x ∷ xs) h e = by (x == i) refl h (one_fails f i xs)
  where
    left : (b : Bool) → (b && false) ≡ false
    left true = refl
    left false = refl

    by : (b : Bool) → (x == i) ≡ b → (b || has i xs) ≡ true → (has i xs ≡ true → f i ≡ false → list_all f xs ≡ false) → (f x && list_all f xs) ≡ false
    by true q h more = ap (λ n. f n && list_all f xs) (eqb-true x i q) ∙ ap (λ b. b && list_all f xs) e
    by false q h more = ap (λ b. f x && b) (more h e) ∙ left (f x)

pub all_push : (f : ℕ → Bool) (xs : List ℕ) (x : ℕ) → list_all f xs ≡ true → f x ≡ true → list_all f (xs ++ x ∷ []) ≡ true
all_push f [] x h e = ap (λ b. b && true) e
all_push f (y ∷ xs) x h e = let parts = and_parts (f y) (list_all f xs) h in (λ i. (parts.0 i && all_push f xs x parts.1 e i))

get_taken : {X : Type 0} (xs : List X) (k i : ℕ) → i < k → slice_get (take k xs) i ≡ slice_get xs i
get_taken xs zero i lt = absurd (let no : ⊥ = omega arith in no)
get_taken [] (suc k) zero lt = refl
get_taken [] (suc k) (suc i) lt = refl
get_taken (x ∷ xs) (suc k) zero lt = refl
get_taken (x ∷ xs) (suc k) (suc i) lt = let less : i < k = omega (arith, lt) in get_taken xs k i less

-- a call below number k that is on the connection and wasn't made
pub not_all : (stages : List Stage) (c j i k : ℕ) (xs : List (ℕ × Call)) (x : ℕ × Call) → i < k → k < length xs → slice_get xs i ≡ Some x → x.0 ≡ c
    → is_made (stage_at stages j i) ≡ false → all_made stages j (numbers_from 0 c (take k xs)) ≡ false
not_all stages c j i k xs x lt inside here on e =
    let same : 0 + i ≡ i = omega arith in
    let among : has (0 + i) (numbers_from 0 c (take k xs)) ≡ true =
    is_among c 0 i (take k xs) (subst (λ o. IfSome o (λ y. y.0 ≡ c)) (sym (get_taken xs k i lt ∙ here)) on) (omega (arith, length-take k xs, lt, inside)) in
    one_fails (λ m. is_made (stage_at stages j m)) i (numbers_from 0 c (take k xs)) (subst (λ m. has m (numbers_from 0 c (take k xs)) ≡ true) same among) e
