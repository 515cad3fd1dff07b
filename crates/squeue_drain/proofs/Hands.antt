-- A hand that is processed from the front.
use Rattle.std.specs.Prelude.{Some}
use Rattle.squeue_state.specs.Clauses.{first_entry}
use Rattle.std.proofs.Common.{◌≡◌, ◌≢◌, ℕ, suc, ◌-◌, ◌≤◌, Bool, true, false, ◌||◌, ◌==◌, List, [], ◌∷◌, ◌++◌, length, take, drop, refl, ap, sym, ◌∙◌, append_assoc, arith, length-append}
use Rattle.std.proofs.lemmas.List.{take-append-drop}
use Rattle.std.proofs.Math.Seq.{take-append_seam, drop-append_seam}
use Rattle.perimeter_core.specs.declared.entries.Entry.{Entry}
use Rattle.perimeter_core.specs.declared.entries.Entry.TheVariants.{Feed, Ask}
use Rattle.perimeter_core.specs.Perimeter.{has_ask, ends_with_ask, processed, unprocessed}
use Rattle.perimeter_core.specs.Legal.{all_feeds, only_last_ask, feed_count}
use Rattle.perimeter_core.proofs.AskLists.{ends_push}
use Rattle.perimeter_core.proofs.IdleKept.{no_ask_split}

pub processed_front : (xs ys : List Entry) → processed (length ys) (xs ++ ys) ≡ xs
processed_front xs ys =
    let n : length (xs ++ ys) - length ys ≡ length xs = omega (arith, length-append xs ys) in
    ap (λ (k : ℕ). take k (xs ++ ys)) n ∙ take-append_seam xs ys

pub unprocessed_rest : (xs ys : List Entry) → unprocessed (length ys) (xs ++ ys) ≡ ys
unprocessed_rest xs ys =
    let n : length (xs ++ ys) - length ys ≡ length xs = omega (arith, length-append xs ys) in
    ap (λ (k : ℕ). drop k (xs ++ ys)) n ∙ drop-append_seam xs ys

-- what is left stands behind what is processed
pub parts : (hand left : List Entry) → left ≡ unprocessed (length left) hand → hand ≡ processed (length left) hand ++ left
parts hand left is =
    let whole : processed (length left) hand ++ unprocessed (length left) hand ≡ hand = take-append-drop (length hand - length left) hand in
    sym whole ∙ ap (λ (xs : List Entry). processed (length left) hand ++ xs) (sym is)

pub within : (hand left : List Entry) → left ≡ unprocessed (length left) hand → length left ≤ length hand
within hand left is =
    let n = ap (λ (xs : List Entry). length xs) (parts hand left is) in
    omega (arith, n, length-append (processed (length left) hand) left)

pub record Passed (hand left rest : List Entry) (e : Entry) : Type 0 where
  pub more : processed (length rest) hand ≡ processed (length left) hand ++ e ∷ []
  pub is_left : rest ≡ unprocessed (length rest) hand
  pub split : hand ≡ processed (length left) hand ++ (e ∷ rest)
  pub shorter : suc (length rest) ≡ length left

-- one entry on
pub passed : (hand left rest : List Entry) (e : Entry) → left ≡ unprocessed (length left) hand → left ≡ e ∷ rest → Passed hand left rest e
passed hand left rest e is head =
    let front : List Entry = processed (length left) hand in
    let split : hand ≡ front ++ (e ∷ rest) = parts hand left is ∙ ap (λ (xs : List Entry). front ++ xs) head in
    let whole : hand ≡ (front ++ e ∷ []) ++ rest = split ∙ sym (append_assoc front (e ∷ []) rest) in
    record {
      more = ap (λ (xs : List Entry). processed (length rest) xs) whole ∙ processed_front (front ++ e ∷ []) rest;
      is_left = sym (ap (λ (xs : List Entry). unprocessed (length rest) xs) whole ∙ unprocessed_rest (front ++ e ∷ []) rest);
      split = split;
      shorter = sym (ap (λ (xs : List Entry). length xs) head);
    }

pub whole_left : (hand left : List Entry) → left ≡ hand → (left ≡ unprocessed (length left) hand) × (processed (length left) hand ≡ [])
whole_left hand left is =
    (rw is (sym (unprocessed_rest [] hand)), rw is (processed_front [] hand))

pub none_left : (hand left : List Entry) → left ≡ unprocessed (length left) hand → left ≡ [] → processed (length left) hand ≡ hand
none_left hand left is none =
    let p = parts hand left is in
    let f : processed (length left) hand ++ [] ≡ hand = ap (λ (xs : List Entry). processed (length left) hand ++ xs) (sym none) ∙ sym p in
    sym (nil (processed (length left) hand)) ∙ f
  where
    nil : (xs : List Entry) → xs ++ [] ≡ xs
    nil [] = refl
    nil (x ∷ xs) = ap (λ (ys : List Entry). x ∷ ys) (nil xs)

pub only_last_of_feeds : (p : ℕ) (xs : List Entry) → all_feeds xs ≡ true → only_last_ask p xs ≡ true
only_last_of_feeds p [] h = refl
only_last_of_feeds p (Feed c n ∷ xs) h = only_last_of_feeds p xs h
only_last_of_feeds p (Ask q ∷ xs) h = absurd cc

pub same_pass : (p : ℕ) → (p == p) ≡ true
same_pass p = grind arith

pub only_last_push : (p : ℕ) (xs : List Entry) → all_feeds xs ≡ true → only_last_ask p (xs ++ Ask p ∷ []) ≡ true
only_last_push p [] h = rw (same_pass p) refl
only_last_push p (Feed c n ∷ xs) h = only_last_push p xs h
only_last_push p (Ask q ∷ xs) h = absurd cc

pub ends_at_ask : (p : ℕ) (xs : List Entry) → ends_with_ask p (xs ++ Ask p ∷ []) ≡ true
ends_at_ask p xs = ends_push p xs (Ask p) ∙ same_pass p

pub count_feeds : (xs : List Entry) → all_feeds xs ≡ true → feed_count xs ≡ length xs
count_feeds [] h = refl
count_feeds (Feed c n ∷ xs) h = omega (arith, count_feeds xs h)
count_feeds (Ask p ∷ xs) h = absurd cc

-- an Ask that stands in a list without an Ask of p is another pass's
pub asks_other : (p q : ℕ) (xs ys : List Entry) → has_ask p (xs ++ (Ask q ∷ ys)) ≡ false → q ≢ p
asks_other p q xs ys h same = no (q == p) (ap (λ (k : ℕ). k == p) same ∙ same_pass p) (no_ask_split p xs (Ask q ∷ ys) h).1
  where
    no : (b : Bool) → b ≡ true → (b || has_ask p ys) ≡ false → ⊥
    no true e h = cc
    no false e h = cc

pub first_is : (xs : List Entry) (e : Entry) → first_entry xs ≡ Some e → (rest : List Entry) × (xs ≡ e ∷ rest)
first_is [] e h = absurd cc
first_is (x ∷ xs) e h = let same : x ≡ e = cc h in (xs, ap (λ y. y ∷ xs) same)
