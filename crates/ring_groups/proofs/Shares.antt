-- Shares.
use Rattle.std.proofs.Common.{◌≡◌, ℕ, zero, suc, ◌+◌, ◌-◌, ◌*◌, ◌/◌, ◌%◌, ◌<◌, ◌≤◌, ◌⊎◌, min, inl, inr, arith, ap, refl, subst, sym, ◌∙◌}
use Rattle.std.proofs.Math.Nat.{div-eq_of_lt, min-eq_left, min-eq_right, mod-lt, mul-le-mul_left, suc-mul, zero-div}
use Rattle.std.proofs.lemmas.Nat.{div-add-mod', div-mul-add, div_below}
use Rattle.std.proofs.lemmas.Bool.Decides.{leb_tells}

-- of n for h shares each gets q, and so many get one more
abbrev pub AreEvenly : ℕ → ℕ → ℕ → Type 0
AreEvenly q n h = (r : ℕ) × (n ≡ q * h + r) × ((r < h) ⊎ (n ≡ 0))

-- a share of some is no more than all
pub share_fits : (n g : ℕ) → 1 ≤ n → 1 ≤ g → (n - 1) / g + 1 ≤ n
share_fits n g some few =
    let lt : n - 1 < n * g = omega (arith, mul-le-mul_left n few) in
    let pos : 0 < g = omega (arith, few) in
    omega (arith, div_below (n - 1) g n pos lt)

-- and leaves one for each of the others
pub share_leaves : (n g : ℕ) → 1 ≤ g → g ≤ n → (n - 1) / g + 1 + g ≤ n + 1
share_leaves n g few fit =
    let m = n - g in
    let lt : n - 1 < suc m * g = omega (arith, mul-le-mul_left m few, suc-mul m g, few, fit) in
    let pos : 0 < g = omega (arith, few) in
    omega (arith, div_below (n - 1) g (suc m) pos lt, fit)

-- of as few as there are shares it is one
pub share_of_few : (n g : ℕ) → 1 ≤ n → n ≤ g → (n - 1) / g + 1 ≡ 1
share_of_few n g some few = let lt : n - 1 < g = omega (arith, some, few) in ap (λ m. m + 1) (div-eq_of_lt lt)

-- one share more was dealt, of this size, and there are as many in all
pub dealt_min : (n g size left : ℕ) → 1 ≤ n → 1 ≤ g → n ≡ left + size → (g ≤ n → size + g ≤ n + 1) → (n ≤ g → size ≡ 1) → 1 + min (g - 1) left ≡ min g n
dealt_min n g size left some few is leaves one = elim (leb_tells g n) [ inl e ↦ many e.1 | inr e ↦ not_many e.1 ]
  where
    many : g ≤ n → 1 + min (g - 1) left ≡ min g n
    many le =
        let all : min g n ≡ g = min-eq_left le in
        let rest : min (g - 1) left ≡ g - 1 = min-eq_left (omega (arith, leaves le, is, le)) in
        omega (arith, all, rest, few)

    not_many : n < g → 1 + min (g - 1) left ≡ min g n
    not_many lt =
        let le : n ≤ g = omega (arith, lt) in
        let each = one le in
        let all : min g n ≡ n = min-eq_right le in
        let rest : min (g - 1) left ≡ left = min-eq_right (omega (arith, each, is, lt)) in
        omega (arith, all, rest, is, each)

-- and where others are left, so is a share for them
pub left_over : (n g size left : ℕ) → 1 ≤ g → n ≡ left + size → (g ≤ 1 → size ≡ n) → 1 ≤ left → 1 ≤ g - 1
left_over n g size left few is last more =
    elim (leb_tells g 1) [
      | inl e ↦ absurd (omega (arith, last e.1, is, more))
      | inr e ↦ omega (arith, e.1)
    ]

-- some get shares where there are any
pub shares_some : (n g : ℕ) → 1 ≤ n → 1 ≤ g → 1 ≤ min g n
shares_some n g any some = elim (leb_tells g n) [ inl e ↦ omega (arith, min-eq_left e.1, some) | inr e ↦ omega (arith, any, min-eq_right (let le : n ≤ g = omega (arith, e.1) in le)) ]

-- at the start each is to get the quotient, and some one more
pub evenly_begun : (n h : ℕ) → (1 ≤ n → 1 ≤ h) → AreEvenly (n / h) n h
evenly_begun zero h some = (0, omega (arith, ap (λ k. k * h) (zero-div h)), inr refl)
evenly_begun (suc n) h some =
    let pos : 0 < h = omega (arith, some (omega arith)) in
    (suc n % h, sym (div-add-mod' (suc n) h), inl (mod-lt (suc n) pos))

-- a share of more than there are shares, of which r get one more
even_share : (q n k size left r : ℕ) → n ≡ q * suc k + r → r < suc k → suc k ≤ n → n ≡ left + size → size ≡ (n - 1) / suc k + 1
    → ((q ≤ size) × (size ≤ q + 1)) × AreEvenly q left (min k left)
even_share zero n k size left r is few le whole value = absurd (omega (arith, is, few, le))
even_share (suc p) n k size left zero is few le whole value =
    let last : n - 1 ≡ p * suc k + k = omega (arith, is) in
    let quotient : (n - 1) / suc k ≡ p = ap (λ m. m / suc k) last ∙ div-mul-add p (suc k) k (omega arith) in
    let rest : left ≡ suc p * k = omega (arith, is, whole, value, quotient) in
    let fits : k ≤ left = omega (arith, rest, mul-le-mul_left k (let some : 1 ≤ suc p = omega arith in some)) in
    let all : min k left ≡ k = min-eq_left fits in
    ((omega (arith, value, quotient), omega (arith, value, quotient)), (0, rw all (omega (arith, rest)), over k rest all))
  where
    over : (k : ℕ) → left ≡ suc p * k → min k left ≡ k → (0 < min k left) ⊎ (left ≡ 0)
    over zero rest all = inr (omega (arith, rest))
    over (suc k) rest all = inl (omega (arith, all))
even_share (suc p) n k size left (suc r) is few le whole value =
    let last : n - 1 ≡ suc p * suc k + r = omega (arith, is) in
    let quotient : (n - 1) / suc k ≡ suc p = ap (λ m. m / suc k) last ∙ div-mul-add (suc p) (suc k) r (omega (arith, few)) in
    let rest : left ≡ suc p * k + r = omega (arith, is, whole, value, quotient) in
    let fits : k ≤ left = omega (arith, rest, mul-le-mul_left k (let some : 1 ≤ suc p = omega arith in some)) in
    let all : min k left ≡ k = min-eq_left fits in
    ((omega (arith, value, quotient), omega (arith, value, quotient)), (r, rw all rest, inl (omega (arith, few, all))))

-- fewer than there are shares get one each
one_each : (q n r : ℕ) → 1 ≤ n → n ≡ q * n + r → r < n → q ≡ 1
one_each zero n r some is few = absurd (omega (arith, is, few))
one_each (suc zero) n r some is few = refl
one_each (suc (suc p)) n r some is few = absurd (omega (arith, is, some))

-- a share was dealt, and the rest is to be dealt as evenly
pub dealt_even : (q n g size left : ℕ) → 1 ≤ n → 1 ≤ g → n ≡ left + size → size ≡ (n - 1) / g + 1 → AreEvenly q n (min g n)
    → ((q ≤ size) × (size ≤ q + 1)) × AreEvenly q left (min (g - 1) left)
dealt_even q n zero size left some few whole value even = absurd (let none : 1 ≤ 0 = few in omega (arith, none))
dealt_even q n (suc k) size left some few whole value (r, is, more) =
    subst (λ (m : ℕ). ((q ≤ size) × (size ≤ q + 1)) × AreEvenly q left (min m left)) (let fewer : k ≡ suc k - 1 = omega arith in fewer)
    (elim (leb_tells (suc k) n) [ inl e ↦ many e.1 | inr e ↦ not_many e.1 ])
  where
    below : min (suc k) n ≡ suc k → (r < min (suc k) n) ⊎ (n ≡ 0) → r < suc k
    below same (inl lt) = omega (arith, lt, same)
    below same (inr none) = absurd (omega (arith, none, some))

    many : suc k ≤ n → ((q ≤ size) × (size ≤ q + 1)) × AreEvenly q left (min k left)
    many le =
        let same : min (suc k) n ≡ suc k = min-eq_left le in
        even_share q n k size left r (is ∙ ap (λ m. q * m + r) same) (below same more) le whole value

    not_many : n < suc k → ((q ≤ size) × (size ≤ q + 1)) × AreEvenly q left (min k left)
    not_many lt =
        let same : min (suc k) n ≡ n = min-eq_right (omega (arith, lt)) in
        let less : r < n = elim more [ inl x ↦ omega (arith, x, same) | inr none ↦ absurd (omega (arith, none, some)) ] in
        let one : q ≡ 1 = one_each q n r some (is ∙ ap (λ m. q * m + r) same) less in
        let small : (n - 1) / suc k ≡ 0 = div-eq_of_lt (let l : n - 1 < suc k = omega (arith, lt) in l) in
        let fits : min k left ≡ left = min-eq_right (omega (arith, whole, value, lt)) in
        ((omega (arith, one, value), omega (arith, one, value)), (0, rw (one, fits) (omega arith), any left fits))
      where
        any : (l : ℕ) → min k l ≡ l → (0 < min k l) ⊎ (l ≡ 0)
        any zero e = inr refl
        any (suc l) e = inl (omega (arith, e))
