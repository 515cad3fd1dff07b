-- Sums over the passes.
use Rattle.std.proofs.Common.{◌≡◌, ℕ, zero, suc, ◌+◌, ◌<◌, ◌≤◌, List, [], ◌∷◌, length, slice_index_or, refl, ap, arith}
use Rattle.perimeter_core.specs.History.{all_quotas, feed_quotas}

pub sum_first : ℕ → (ℕ → ℕ) → ℕ
sum_first zero f = 0
sum_first (suc n) f = f 0 + sum_first n (λ p. f (suc p))

pub sum_mono : (n : ℕ) (f g : ℕ → ℕ) → ((p : ℕ) → f p ≤ g p) → sum_first n f ≤ sum_first n g
unfolding sum_first
sum_mono zero f g h = omega arith
sum_mono (suc n) f g h = let r = sum_mono n (λ p. f (suc p)) (λ p. g (suc p)) (λ p. h (suc p)) in omega (arith, h 0, r)

pub sum_more : (n k x : ℕ) (f g : ℕ → ℕ) → k < n → ((p : ℕ) → f p ≤ g p) → f k + x ≤ g k → sum_first n f + x ≤ sum_first n g
unfolding sum_first
sum_more zero k x f g lt h e = absurd (omega arith)
sum_more (suc n) zero x f g lt h e = let r = sum_mono n (λ p. f (suc p)) (λ p. g (suc p)) (λ p. h (suc p)) in omega (arith, e, r)
sum_more (suc n) (suc k) x f g lt h e =
    let r = sum_more n k x (λ p. f (suc p)) (λ p. g (suc p)) (omega arith) (λ p. h (suc p)) e in omega (arith, h 0, r)

abbrev pub quota_at : List (ℕ × ℕ) → ℕ → ℕ
quota_at qs p = (slice_index_or qs p (0, 0)).0 + (slice_index_or qs p (0, 0)).1

pub sum_quotas : (qs : List (ℕ × ℕ)) → sum_first (length qs + 1) (quota_at qs) ≡ all_quotas qs
unfolding sum_first
sum_quotas [] = refl
sum_quotas (q ∷ qs) = let e : suc (length qs) + 1 ≡ suc (length qs + 1) = omega arith in rw e (ap (λ n. q.0 + q.1 + n) (sum_quotas qs))

abbrev pub feeds_at : List (ℕ × ℕ) → ℕ → ℕ
feeds_at qs p = (slice_index_or qs p (0, 0)).0

pub sum_feed_quotas : (qs : List (ℕ × ℕ)) → sum_first (length qs + 1) (feeds_at qs) ≡ feed_quotas qs
unfolding sum_first
sum_feed_quotas [] = refl
sum_feed_quotas (q ∷ qs) = let e : suc (length qs) + 1 ≡ suc (length qs + 1) = omega arith in rw e (ap (λ n. q.0 + n) (sum_feed_quotas qs))

pub sum_none : (n : ℕ) → sum_first n (λ p. 0) ≡ 0
unfolding sum_first
sum_none zero = refl
sum_none (suc n) = omega (arith, sum_none n)

pub sum_ones : (n : ℕ) → sum_first n (λ p. 1) ≡ n
unfolding sum_first
sum_ones zero = refl
sum_ones (suc n) = omega (arith, sum_ones n)
