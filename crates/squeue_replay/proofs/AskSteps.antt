-- The Ask that is processed last is the only one of its pass that was queued.
use Rattle.std.proofs.Common.{◌≡◌, ℕ, ◌+◌, ◌≤◌, Bool, true, false, ◌&&◌, ◌||◌, if◌then◌else◌, ◌==◌, List, [], ◌∷◌, ◌++◌, refl, arith}
use Rattle.std.proofs.lemmas.Bool.Decides.{nat_tests}
use Rattle.perimeter_core.specs.declared.entries.Entry.{Entry}
use Rattle.perimeter_core.specs.declared.entries.Entry.TheVariants.{Feed, Ask}
use Rattle.perimeter_core.specs.Perimeter.{ends_with_ask, has_ask}
use Rattle.perimeter_core.specs.Legal.{all_feeds, only_last_ask}
use Rattle.perimeter_core.proofs.Room.{asks_of}
use Rattle.perimeter_core.proofs.OwnAsk.{none_asked}

pub has_ask-append : (p : ℕ) (xs ys : List Entry) → has_ask p (xs ++ ys) ≡ (has_ask p xs || has_ask p ys)
has_ask-append p [] ys = refl
has_ask-append p (Feed c n ∷ xs) ys = has_ask-append p xs ys
has_ask-append p (Ask q ∷ xs) ys = at (q == p) (has_ask-append p xs ys)
  where
    at : (a : Bool) → has_ask p (xs ++ ys) ≡ (has_ask p xs || has_ask p ys) → (a || has_ask p (xs ++ ys)) ≡ ((a || has_ask p xs) || has_ask p ys)
    at true e = refl
    at false e = e

pub asks_left : (j p : ℕ) (es rest : List Entry) → only_last_ask j es ≡ true → asks_of j (es ++ rest) ≤ 1
    → has_ask p rest ≡ (if ends_with_ask j es && (j == p) then false else has_ask p (es ++ rest))
asks_left j p [] rest right one = refl
asks_left j p (Feed c n ∷ es) rest right one = asks_left j p es rest right one
asks_left j p (Ask q ∷ []) rest right one = at (q == j) refl (j == p) refl right one
  where
    none : asks_of j rest ≡ 0 → j ≡ p → has_ask p rest ≡ false
    none zero same = rw (← same) (none_asked j rest zero)

    at : (a : Bool) → (q == j) ≡ a → (b : Bool) → (j == p) ≡ b → (a && true) ≡ true → (if a then 1 else 0) + asks_of j rest ≤ 1
        → has_ask p rest ≡ (if a && b then false else ((q == p) || has_ask p rest))
    at false is b eq h one = absurd (cc h)
    at true is true eq h one = none (omega (arith, one)) (grind (arith, nat_tests, eq))
    at true is false eq h one =
        let other : (q == p) ≡ false = grind (arith, nat_tests, is, eq) in rw other refl
asks_left j p (Ask q ∷ e ∷ es) rest right one = absurd (at (q == j) right)
  where
    at : (a : Bool) → (a && false) ≡ true → ⊥
    at true h = cc h
    at false h = cc h

-- only feeds were processed, where no Ask was
pub feeds_alone : (j : ℕ) (es : List Entry) → only_last_ask j es ≡ true → ends_with_ask j es ≡ false → all_feeds es ≡ true
feeds_alone j [] right none = refl
feeds_alone j (Feed c n ∷ es) right none = feeds_alone j es right none
feeds_alone j (Ask q ∷ []) right none = absurd (at (q == j) right none)
  where
    at : (a : Bool) → (a && true) ≡ true → a ≡ false → ⊥
    at true h none = cc none
    at false h none = cc h
feeds_alone j (Ask q ∷ e ∷ es) right none = absurd (at (q == j) right)
  where
    at : (a : Bool) → (a && false) ≡ true → ⊥
    at true h = cc h
    at false h = cc h

-- feeds alone have no Ask
pub alone_right : (j : ℕ) (es : List Entry) → all_feeds es ≡ true → (only_last_ask j es ≡ true) × (ends_with_ask j es ≡ false)
alone_right j [] all = (refl, refl)
alone_right j (Feed c n ∷ es) all = alone_right j es all
alone_right j (Ask q ∷ es) all = absurd (cc all)
