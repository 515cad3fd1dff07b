-- Lists by number, as they grow.
use Rattle.std.proofs.Common.{◌≡◌, ℕ, ◌+◌, List, [], ◌∷◌, ◌++◌, length-append, map, refl, sym, subst, arith}
use Rattle.std.proofs.lemmas.List.{map-append}
use Rattle.squeue_rings.proofs.Tasked.{each_more}
use Rattle.ring_threads.specs.Working.{AreEach}

pub none_yet : {A : Type 0} (Is : ℕ → A → Type 0) → AreEach Is 0 []
none_yet Is = record { count = refl; each = λ k x at. cc at }

pub one_more : {A : Type 0} (Is : ℕ → A → Type 0) (n : ℕ) (xs : List A) (x : A) → AreEach Is n xs → Is n x → AreEach Is (n + 1) (xs ++ x ∷ [])
one_more Is n xs x h new =
    record {
      count = let m = length-append xs (x ∷ []) in omega (arith, m, h.count);
      each = each_more Is xs x h.each (subst (λ (k : ℕ). Is k x) (sym h.count) new);
    }

pub all_of_them : {A : Type 0} (Is : ℕ → A → Type 0) (n m : ℕ) (xs : List A) → n ≡ m → AreEach Is n xs → AreEach Is m xs
all_of_them Is n m xs same h = subst (λ (k : ℕ). AreEach Is k xs) same h

-- the same of what is seen of them
pub one_more_seen : {A B : Type 0} (see : A → B) (Is : ℕ → B → Type 0) (n : ℕ) (xs : List A) (x : A) → AreEach Is n (map see xs) → Is n (see x) → AreEach Is (n + 1) (map see (xs ++ x ∷ []))
one_more_seen see Is n xs x h new = subst (AreEach Is (n + 1)) (sym (map-append see xs (x ∷ []))) (one_more Is n (map see xs) (see x) h new)
