-- Lists place by place: what stands in a part, in a mapped list, in a front.
use Rattle.std.proofs.Common.{◌≡◌, ℕ, zero, suc, ◌+◌, ◌<◌, Some, List, [], ◌∷◌, ◌++◌, length, slice_get, refl, arith, false, replicate, slice_index_or, map, take, ap, ◌∙◌}

pub some_at : {X : Type 0} (xs : List X) (k : ℕ) → k < length xs → (x : X) × (slice_get xs k ≡ Some x)
some_at [] k lt = absurd (omega (arith, lt))
some_at (x ∷ xs) zero lt = (x, refl)
some_at (x ∷ xs) (suc k) lt = some_at xs k (omega (arith, lt))

pub get_front : {X : Type 0} (xs ys : List X) (k : ℕ) (x : X) → slice_get xs k ≡ Some x → slice_get (xs ++ ys) k ≡ Some x
get_front [] ys k x h = cc h
get_front (y ∷ xs) ys zero x h = h
get_front (y ∷ xs) ys (suc k) x h = get_front xs ys k x h

pub open_flag : (n p : ℕ) → slice_index_or (replicate n false) p false ≡ false
open_flag zero p = refl
open_flag (suc n) zero = refl
open_flag (suc n) (suc p) = open_flag n p

pub got_map : {A B : Type 0} (f : A → B) (xs : List A) (k : ℕ) (x : A) → slice_get xs k ≡ Some x → slice_get (map f xs) k ≡ Some (f x)
got_map f [] k x is = cc is
got_map f (y ∷ xs) zero x is = let e : y ≡ x = cc is in ap (λ z. Some (f z)) e
got_map f (y ∷ xs) (suc k) x is = got_map f xs k x is

pub from_map : {A B : Type 0} (f : A → B) (xs : List A) (k : ℕ) (y : B) → slice_get (map f xs) k ≡ Some y → (x : A) × (slice_get xs k ≡ Some x) × (f x ≡ y)
from_map f [] k y is = cc is
from_map f (x ∷ xs) zero y is = (x, refl, cc is)
from_map f (x ∷ xs) (suc k) y is = from_map f xs k y is

pub take_one : {A : Type 0} (xs : List A) (k : ℕ) (x : A) → slice_get xs k ≡ Some x → take (k + 1) xs ≡ take k xs ++ x ∷ []
take_one [] k x is = cc is
take_one (y ∷ xs) zero x is = let e : y ≡ x = cc is in ap (λ z. z ∷ []) e
take_one (y ∷ xs) (suc k) x is = let e : suc k + 1 ≡ suc (k + 1) = omega arith in ap (λ (m : ℕ). take m (y ∷ xs)) e ∙ ap (λ l. y ∷ l) (take_one xs k x is)
