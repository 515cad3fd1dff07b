-- What went out before an error is some of what would have been sent.
use Rattle.std.proofs.Common.{◌≡◌, ℕ, zero, suc, inl, inr, List, [], ◌∷◌, ◌++◌, map, take, drop, refl, sym, ap, subst, ◌∙◌, append_assoc, append-nil}
use Rattle.std.specs.List.{flat_map}
use Rattle.live_server.specs.Written.{IsSomeOf, HasSent}

module _ {X : Type 0} where
  none_of : (xs : List X) → IsSomeOf [] xs
  unfolding IsSomeOf
  none_of [] = refl
  none_of (x ∷ xs) = inl (none_of xs)

  all_of : (xs : List X) → IsSomeOf xs xs
  unfolding IsSomeOf
  all_of [] = refl
  all_of (x ∷ xs) = inr (xs, refl, all_of xs)

  both_of : (xs some ys other : List X) → IsSomeOf some xs → IsSomeOf other ys → IsSomeOf (some ++ other) (xs ++ ys)
  unfolding IsSomeOf
  both_of [] some ys other none h = subst (λ (l : List X). IsSomeOf (l ++ other) ys) (sym none) h
  both_of (x ∷ xs) some ys other (inl without) h = inl (both_of xs some ys other without h)
  both_of (x ∷ xs) some ys other (inr (rest, is, more)) h = inr (rest ++ other, ap (λ (l : List X). l ++ other) is, both_of xs rest ys other more h)

  -- nothing went out
  pub nothing_sent : (was is all : List X) → is ≡ was → HasSent was is all
  nothing_sent was is all same = record { some = []; behind = same ∙ sym (append-nil was); part = none_of all }

  -- the front of it did
  pub front_sent : (was is all front rest : List X) → is ≡ was ++ front → all ≡ front ++ rest → HasSent was is all
  front_sent was is all front rest behind whole = record {
    some = front;
    behind = behind;
    part = subst (IsSomeOf front) (sym whole) (subst (λ (l : List X). IsSomeOf l (front ++ rest)) (append-nil front) (both_of front front rest [] (all_of front) (none_of rest)));
  }

  pub all_sent : (was is all : List X) → is ≡ was ++ all → HasSent was is all
  all_sent was is all behind = record { some = all; behind = behind; part = all_of all }

  -- some of the front did
  pub sent_of_front : (was is all front rest : List X) → all ≡ front ++ rest → HasSent was is front → HasSent was is all
  sent_of_front was is all front rest whole h = record {
    some = h.some;
    behind = h.behind;
    part = subst (IsSomeOf h.some) (sym whole) (subst (λ (l : List X). IsSomeOf l (front ++ rest)) (append-nil h.some) (both_of front h.some rest [] h.part (none_of rest)));
  }

  -- some of the front did, and then some of the rest
  pub sent_behind : (was mid is all front rest : List X) → all ≡ front ++ rest → HasSent was mid front → HasSent mid is rest → HasSent was is all
  sent_behind was mid is all front rest whole first last = record {
    some = first.some ++ last.some;
    behind = last.behind ∙ ap (λ (l : List X). l ++ last.some) first.behind ∙ append_assoc was first.some last.some;
    part = subst (IsSomeOf (first.some ++ last.some)) (sym whole) (both_of front first.some rest last.some first.part last.part);
  }

module _ {X Y : Type 0} where
  pub map_front : (f : X → Y) (xs : List X) (i : ℕ) → map f xs ≡ map f (take i xs) ++ map f (drop i xs)
  map_front f [] zero = refl
  map_front f [] (suc i) = refl
  map_front f (x ∷ xs) zero = refl
  map_front f (x ∷ xs) (suc i) = ap (λ (l : List Y). f x ∷ l) (map_front f xs i)

  pub first_sent : (f : X → Y) (xs : List X) (i : ℕ) (was is : List Y) → is ≡ was ++ map f (take i xs) → HasSent was is (map f xs)
  first_sent f xs i was is behind = front_sent was is (map f xs) (map f (take i xs)) (map f (drop i xs)) behind (map_front f xs i)

  pub flat_front : (f : X → List Y) (xs : List X) (i : ℕ) → flat_map f xs ≡ flat_map f (take i xs) ++ flat_map f (drop i xs)
  flat_front f [] zero = refl
  flat_front f [] (suc i) = refl
  flat_front f (x ∷ xs) zero = refl
  flat_front f (x ∷ xs) (suc i) = ap (λ (l : List Y). f x ++ l) (flat_front f xs i) ∙ sym (append_assoc (f x) (flat_map f (take i xs)) (flat_map f (drop i xs)))
