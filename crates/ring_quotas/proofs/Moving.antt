-- How often a connection leaves a squeue or comes to it, and how many of its feeds are at home there, counted by quotients.
use Rattle.std.proofs.Common.{◌≡◌, ◌≢◌, ℕ, zero, suc, ◌+◌, ◌-◌, ◌*◌, ◌/◌, ◌%◌, ◌<◌, ◌≤◌, ◌==◌, ◌⊎◌, inl, inr, Bool, true, false, if◌then◌else◌, List, [], ◌∷◌, ◌++◌, length, filter, refl, ap, sym, ◌∙◌, arith, length-append}
use Rattle.std.specs.Prelude.{◌&&◌, ◌||◌, not}
use Rattle.std.specs.List.{range_with_len}
use Rattle.std.proofs.lemmas.Bool.{cases_lt, eqb-true, eqb-false, eq-eqb, ne_eqb}
use Rattle.std.proofs.lemmas.List.Elements.{filter-append}
use Rattle.std.proofs.lemmas.Nat.{div-add-mod', div-mul-add, mod-mul-add, mod_below}
use Rattle.std.proofs.Math.Nat.{add-mod, div-eq_of_lt, mod-eq_of_lt, zero-div}
use Rattle.ring_quotas.specs.Quotas.{comes_after, times_coming, feeds_at}
use Rattle.histories.specs.Homes.{home, leaves_after, times_leaving}

-- the quotient and the remainder of the next number: the same quotient, or the next one
pub record Within (n b : ℕ) : Type 0 where
  pub quotient : (n + 1) / b ≡ n / b
  pub remainder : (n + 1) % b ≡ n % b + 1
  pub below : n % b + 1 < b

pub record Over (n b : ℕ) : Type 0 where
  pub quotient : (n + 1) / b ≡ n / b + 1
  pub remainder : (n + 1) % b ≡ 0
  pub last : n % b + 1 ≡ b

pub next : (n b : ℕ) → 0 < b → Within n b ⊎ Over n b
next n b pos =
    elim (cases_lt (n % b + 1) b) [
      | inl lt ↦
          let e : n + 1 ≡ n / b * b + (n % b + 1) = omega (arith, div-add-mod' n b) in
          inl (record { quotient = ap (λ m. m / b) e ∙ div-mul-add (n / b) b (n % b + 1) lt; remainder = ap (λ m. m % b) e ∙ mod-mul-add (n / b) b (n % b + 1) lt; below = lt })
      | inr ge ↦
          let is : n % b + 1 ≡ b = omega (arith, ge, mod_below n b pos) in
          let e : n + 1 ≡ (n / b + 1) * b + 0 = omega (arith, div-add-mod' n b, is) in
          inr (record { quotient = ap (λ m. m / b) e ∙ div-mul-add (n / b + 1) b 0 pos; remainder = ap (λ m. m % b) e ∙ mod-mul-add (n / b + 1) b 0 pos; last = is })
    ]

-- the remainder of a sum
pub mod_sum : (a b s : ℕ) → 0 < s → (((a + b) % s ≡ a % s + b % s) × (a % s + b % s < s)) ⊎ ((a + b) % s + s ≡ a % s + b % s)
mod_sum a b s pos =
    let x = div-add-mod' a s in
    let y = div-add-mod' b s in
    elim (cases_lt (a % s + b % s) s) [
      | inl lt ↦
          let e : a + b ≡ (a / s + b / s) * s + (a % s + b % s) = omega (arith, x, y) in
          inl (ap (λ m. m % s) e ∙ mod-mul-add (a / s + b / s) s (a % s + b % s) lt, lt)
      | inr ge ↦
          let small : a % s + b % s - s < s = omega (arith, ge, mod_below a s pos, mod_below b s pos) in
          let e : a + b ≡ (a / s + b / s + 1) * s + (a % s + b % s - s) = omega (arith, x, y, ge) in
          let r : (a + b) % s ≡ a % s + b % s - s = ap (λ m. m % s) e ∙ mod-mul-add (a / s + b / s + 1) s (a % s + b % s - s) small in
          inr (omega (arith, r, ge))
    ]

-- a count over the first so many numbers
abbrev pub tally : (ℕ → Bool) → ℕ → ℕ
tally f n = length (filter f (range_with_len 0 n))

pub range_more : (a n : ℕ) → range_with_len a (suc n) ≡ range_with_len a n ++ (a + n) ∷ []
range_more a zero = let e : a ≡ a + zero = omega arith in ap (λ (m : ℕ). m ∷ []) e
range_more a (suc n) = let e : (a + 1) + n ≡ a + suc n = omega arith in ap (λ (l : List ℕ). a ∷ l) (range_more (a + 1) n ∙ ap (λ (m : ℕ). range_with_len (a + 1) n ++ m ∷ []) e)

one_if : (f : ℕ → Bool) (n : ℕ) → length (filter f (n ∷ [])) ≡ (if f n then 1 else 0)
one_if f n = by (f n)
  where
    by : (b : Bool) → length {A = ℕ} (if b then n ∷ [] else []) ≡ (if b then 1 else 0)
    by true = refl
    by false = refl

pub tally_more : (f : ℕ → Bool) (n : ℕ) → tally f (suc n) ≡ tally f n + (if f n then 1 else 0)
tally_more f n =
    let e : 0 + n ≡ n = omega arith in
    ap (λ (l : List ℕ). length (filter f l)) (range_more 0 n ∙ ap (λ (m : ℕ). range_with_len 0 n ++ m ∷ []) e)
    ∙ (ap length (filter-append f (range_with_len 0 n) (n ∷ [])) ∙ (length-append (filter f (range_with_len 0 n)) (filter f (n ∷ [])) ∙ ap (λ (k : ℕ). tally f n + k) (one_if f n)))

pub tally_as : (f g : ℕ → Bool) (n : ℕ) → ((m : ℕ) → f m ≡ g m) → tally f n ≡ tally g n
tally_as f g zero h = refl
tally_as f g (suc n) h = tally_more f n ∙ ((λ i. tally_as f g n h i + (if h n i then 1 else 0)) ∙ sym (tally_more g n))

pub tally_none : (f : ℕ → Bool) (n : ℕ) → ((m : ℕ) → f m ≡ false) → tally f n ≡ 0
tally_none f zero h = refl
tally_none f (suc n) h = let r = tally_none f n h in let t = tally_more f n ∙ ap (λ (b : Bool). tally f n + (if b then 1 else 0)) (h n) in omega (arith, r, t)

pub tally_all : (f : ℕ → Bool) (n : ℕ) → ((m : ℕ) → f m ≡ true) → tally f n ≡ n
tally_all f zero h = refl
tally_all f (suc n) h = let r = tally_all f n h in let t = tally_more f n ∙ ap (λ (b : Bool). tally f n + (if b then 1 else 0)) (h n) in omega (arith, r, t)

pub tally_most : (f : ℕ → Bool) (n : ℕ) → tally f n ≤ n
tally_most f zero = omega arith
tally_most f (suc n) = by (f n) (tally_most f n) (tally_more f n)
  where
    by : (b : Bool) → tally f n ≤ n → tally f (suc n) ≡ tally f n + (if b then 1 else 0) → tally f (suc n) ≤ suc n
    by true r t = omega (arith, r, t)
    by false r t = omega (arith, r, t)

-- a test for a squeue where a connection stays, or goes on to the next one
pub left_never : (h k : ℕ) → ((h == k) && not (h == k)) ≡ false
left_never h k = by (h == k)
  where
    by : (b : Bool) → (b && not b) ≡ false
    by true = refl
    by false = refl

pub come_never : (h k : ℕ) → (not (h == k) && (h == k)) ≡ false
come_never h k = by (h == k)
  where
    by : (b : Bool) → (not b && b) ≡ false
    by true = refl
    by false = refl

left_always : (h g k : ℕ) → h ≢ g → ((h == k) && not (g == k)) ≡ (h == k)
left_always h g k apart = by (h == k) (g == k) refl refl
  where
    by : (a b : Bool) → (h == k) ≡ a → (g == k) ≡ b → (a && not b) ≡ a
    by true true e f = absurd (apart (eqb-true h k e ∙ sym (eqb-true g k f)))
    by true false e f = refl
    by false b e f = refl

come_always : (h g k : ℕ) → h ≢ g → (not (h == k) && (g == k)) ≡ (g == k)
come_always h g k apart = by (h == k) (g == k) refl refl
  where
    by : (a b : Bool) → (h == k) ≡ a → (g == k) ≡ b → (not a && b) ≡ b
    by true true e f = absurd (apart (eqb-true h k e ∙ sym (eqb-true g k f)))
    by true false e f = refl
    by false true e f = refl
    by false false e f = refl

-- equal tests by what each says
same_test : (a b c d : ℕ) → (a ≡ b → c ≡ d) → (c ≡ d → a ≡ b) → (a == b) ≡ (c == d)
same_test a b c d there back = by (a == b) (c == d) refl refl
  where
    by : (x y : Bool) → (a == b) ≡ x → (c == d) ≡ y → x ≡ y
    by true true e f = refl
    by false false e f = refl
    by true false e f = absurd (eqb-false c d f (there (eqb-true a b e)))
    by false true e f = absurd (eqb-false a b e (back (eqb-true c d f)))

-- where connections never move
module _ (s c : ℕ) where
  pub home_still : (n : ℕ) → home s 0 c n ≡ c % s
  home_still n = refl

-- how far a squeue is from the first home of a connection, along the squeues
abbrev pub away : ℕ → ℕ → ℕ → ℕ
away s c k = (k + s - c % s) % s

module _ (s c k : ℕ) (some : 0 < s) (lt : k < s) where
  pub away_below : away s c k < s
  away_below = mod_below (k + s - c % s) s some

  pub away_is : (away s c k + c % s ≡ k) ⊎ (away s c k + c % s ≡ k + s)
  away_is =
      let u = mod_below c s some in
      elim (cases_lt k (c % s)) [
        | inl less ↦
            let small : k + s - c % s < s = omega (arith, less) in
            let e : away s c k ≡ k + s - c % s = mod-eq_of_lt small in
            inr (omega (arith, e, u))
        | inr ge ↦
            let small : k - c % s < s = omega (arith, lt) in
            let e : k + s - c % s ≡ 1 * s + (k - c % s) = omega (arith, ge, u) in
            let r : away s c k ≡ k - c % s = ap (λ (m : ℕ). m % s) e ∙ mod-mul-add 1 s (k - c % s) small in
            inl (omega (arith, r, ge))
      ]

  -- how many of the first so many moves of the connection leave squeue k
  abbrev pub left_of : ℕ → ℕ
  left_of m = (m + (s - 1 - away s c k)) / s

  pub left_none : left_of 0 ≡ 0
  left_none =
      let a = away_below in
      let e : 0 + (s - 1 - away s c k) ≡ s - 1 - away s c k = omega arith in
      let small : s - 1 - away s c k < s = omega (arith, some) in
      ap (λ (m : ℕ). m / s) e ∙ div-eq_of_lt small

  -- the next move leaves it where the connection is there then
  last_where : (m : ℕ) → (m + (s - 1 - away s c k)) % s + 1 ≡ s → (c + m) % s ≡ k
  last_where m e =
      let w : ℕ = s - 1 - away s c k in
      let a = away_below in
      let small : (s - 1 - away s c k) % s ≡ s - 1 - away s c k = mod-eq_of_lt (let l : s - 1 - away s c k < s = omega (arith, some) in l) in
      let u = mod_below c s some in
      let v = mod_below m s some in
      elim (mod_sum m (s - 1 - away s c k) s some) [
        | inl x ↦ elim (mod_sum c m s some) [
          | inl y ↦ elim away_is [ inl z ↦ omega (arith, e, a, small, u, v, x.0, x.1, y.0, y.1, z, lt) | inr z ↦ omega (arith, e, a, small, u, v, x.0, x.1, y.0, y.1, z, lt) ]
          | inr y ↦ elim away_is [ inl z ↦ omega (arith, e, a, small, u, v, x.0, x.1, y, z, lt) | inr z ↦ omega (arith, e, a, small, u, v, x.0, x.1, y, z, lt) ]
        ]
        | inr x ↦ elim (mod_sum c m s some) [
          | inl y ↦ elim away_is [ inl z ↦ omega (arith, e, a, small, u, v, x, y.0, y.1, z, lt) | inr z ↦ omega (arith, e, a, small, u, v, x, y.0, y.1, z, lt) ]
          | inr y ↦ elim away_is [ inl z ↦ omega (arith, e, a, small, u, v, x, y, z, lt) | inr z ↦ omega (arith, e, a, small, u, v, x, y, z, lt) ]
        ]
      ]

  where_last : (m : ℕ) → (c + m) % s ≡ k → (m + (s - 1 - away s c k)) % s + 1 ≡ s
  where_last m e =
      let a = away_below in
      let small : (s - 1 - away s c k) % s ≡ s - 1 - away s c k = mod-eq_of_lt (let l : s - 1 - away s c k < s = omega (arith, some) in l) in
      let u = mod_below c s some in
      let v = mod_below m s some in
      elim (mod_sum m (s - 1 - away s c k) s some) [
        | inl x ↦ elim (mod_sum c m s some) [
          | inl y ↦ elim away_is [ inl z ↦ omega (arith, e, a, small, u, v, x.0, x.1, y.0, y.1, z, lt) | inr z ↦ omega (arith, e, a, small, u, v, x.0, x.1, y.0, y.1, z, lt) ]
          | inr y ↦ elim away_is [ inl z ↦ omega (arith, e, a, small, u, v, x.0, x.1, y, z, lt) | inr z ↦ omega (arith, e, a, small, u, v, x.0, x.1, y, z, lt) ]
        ]
        | inr x ↦ elim (mod_sum c m s some) [
          | inl y ↦ elim away_is [ inl z ↦ omega (arith, e, a, small, u, v, x, y.0, y.1, z, lt) | inr z ↦ omega (arith, e, a, small, u, v, x, y.0, y.1, z, lt) ]
          | inr y ↦ elim away_is [ inl z ↦ omega (arith, e, a, small, u, v, x, y, z, lt) | inr z ↦ omega (arith, e, a, small, u, v, x, y, z, lt) ]
        ]
      ]

  pub left_more : (m : ℕ) → left_of (m + 1) ≡ left_of m + (if (c + m) % s == k then 1 else 0)
  left_more m =
      let same : m + 1 + (s - 1 - away s c k) ≡ (m + (s - 1 - away s c k)) + 1 = omega arith in
      elim (next (m + (s - 1 - away s c k)) s some) [
        | inl x ↦
            let off : ((c + m) % s == k) ≡ false = ne_eqb ((c + m) % s) k (λ h. let l = where_last m h in let b = x.below in omega (arith, l, b)) in
            rw off (ap (λ (n : ℕ). n / s) same ∙ (x.quotient ∙ (let e : left_of m ≡ left_of m + 0 = omega arith in e)))
        | inr x ↦
            let on : ((c + m) % s == k) ≡ true = eq-eqb ((c + m) % s) k (last_where m x.last) in
            rw on (ap (λ (n : ℕ). n / s) same ∙ x.quotient)
      ]

-- from feed n to the next one: the connection stays, or goes on to the next squeue of several
pub record Stays (s p c n : ℕ) : Type 0 where
  pub quotient : (n + 1) / p ≡ n / p
  pub now : home s p c (n + 1) ≡ home s p c n

pub record GoesOn (s p c n : ℕ) : Type 0 where
  pub quotient : (n + 1) / p ≡ n / p + 1
  pub whole : n + 1 ≡ (n / p + 1) * p
  pub was : home s p c n ≡ (c + n / p) % s
  pub now : home s p c (n + 1) ≡ (c + (n / p + 1)) % s
  pub round : (home s p c (n + 1) ≡ home s p c n + 1) ⊎ ((home s p c (n + 1) ≡ 0) × (home s p c n + 1 ≡ s))

moving : (s p c n : ℕ) → 0 < p → home s p c n ≡ (c + n / p) % s
moving s p c n pos = let e : (p == 0) ≡ false = ne_eqb p 0 (λ h. absurd (let no : ⊥ = omega (arith, pos, h) in no)) in rw e refl

pub home_below : (s p c n : ℕ) → 0 < s → home s p c n < s
home_below s p c n some = by (p == 0)
  where
    by : (b : Bool) → (if b then c % s else (c + n / p) % s) < s
    by true = mod_below c s some
    by false = mod_below (c + n / p) s some

pub stays_or_goes : (s p c n : ℕ) → 0 < s → 0 < p → Stays s p c n ⊎ GoesOn s p c n
stays_or_goes s p c n some pos =
    let was = moving s p c n pos in
    let is = moving s p c (n + 1) pos in
    elim (next n p pos) [
      | inl x ↦ inl (record { quotient = x.quotient; now = is ∙ (ap (λ (m : ℕ). (c + m) % s) x.quotient ∙ sym was) })
      | inr x ↦
          let same : c + (n / p + 1) ≡ (c + n / p) + 1 = omega arith in
          let now : home s p c (n + 1) ≡ ((c + n / p) + 1) % s = is ∙ ap (λ (m : ℕ). (c + m) % s) x.quotient ∙ ap (λ (m : ℕ). m % s) same in
          inr (record {
            quotient = x.quotient;
            whole = omega (arith, div-add-mod' n p, x.last);
            was = was;
            now = is ∙ ap (λ (m : ℕ). (c + m) % s) x.quotient;
            round = elim (next (c + n / p) s some) [
              | inl y ↦ inl (now ∙ (y.remainder ∙ ap (λ (m : ℕ). m + 1) (sym was)))
              | inr y ↦ inr (now ∙ y.remainder, ap (λ (m : ℕ). m + 1) was ∙ y.last)
            ];
          })
    ]

-- among several squeues the next one is another one
pub another : (s p c n : ℕ) → 1 < s → GoesOn s p c n → home s p c n ≢ home s p c (n + 1)
another s p c n several g e = elim g.round [ inl r ↦ absurd (let no : ⊥ = omega (arith, e, r) in no) | inr r ↦ absurd (let no : ⊥ = omega (arith, e, r.0, r.1, several) in no) ]

-- how often a connection with so many feeds moves
abbrev pub moves_of : ℕ → ℕ → ℕ → ℕ
moves_of s p items = if (p == 0) || (s == 1) then 0 else (items - 1) / p

module _ (s p c k : ℕ) (several : 1 < s) (pos : 0 < p) (lt : k < s) where
  pub some : 0 < s
  some = omega (arith, several)

  pub left_tally : (n : ℕ) → tally (leaves_after s p k c) n ≡ left_of s c k some lt (n / p)
  left_tally zero = let e : 0 / p ≡ 0 = zero-div p in sym (ap (left_of s c k some lt) e ∙ left_none s c k some lt)
  left_tally (suc n) =
      let r = left_tally n in
      let t = tally_more (leaves_after s p k c) n in
      let one : suc n ≡ n + 1 = omega arith in
      elim (stays_or_goes s p c n some pos) [
        | inl x ↦
            let never : leaves_after s p k c n ≡ false = ap (λ (h : ℕ). (home s p c n == k) && not (h == k)) x.now ∙ left_never (home s p c n) k in
            let e : left_of s c k some lt (suc n / p) ≡ left_of s c k some lt (n / p) = ap (λ (m : ℕ). left_of s c k some lt (m / p)) one ∙ ap (left_of s c k some lt) x.quotient in
            let u : tally (leaves_after s p k c) (suc n) ≡ tally (leaves_after s p k c) n + 0 = t ∙ ap (λ (b : Bool). tally (leaves_after s p k c) n + (if b then 1 else 0)) never in
            omega (arith, u, e, r)
        | inr x ↦
            let there : leaves_after s p k c n ≡ ((c + n / p) % s == k) = left_always (home s p c n) (home s p c (n + 1)) k (another s p c n several x) ∙ ap (λ (h : ℕ). h == k) x.was in
            t ∙ (ap (λ (b : Bool). tally (leaves_after s p k c) n + (if b then 1 else 0)) there ∙ (ap (λ (m : ℕ). m + (if (c + n / p) % s == k then 1 else 0)) r ∙ (sym (left_more s c k some lt (n / p)) ∙ ap (left_of s c k some lt) (sym (ap (λ (m : ℕ). m / p) one ∙ x.quotient)))))
      ]

  -- the feeds of whole stays, and those of the last one
  pub feeds_tally : (n : ℕ) → tally (λ m. home s p c m == k) (suc n) ≡ left_of s c k some lt (n / p) * p + (if (c + n / p) % s == k then suc n - n / p * p else 0)
  feeds_tally zero =
      let z : 0 / p ≡ 0 = zero-div p in
      let none : left_of s c k some lt (0 / p) ≡ 0 = ap (left_of s c k some lt) z ∙ left_none s c k some lt in
      let t = tally_more (λ m. home s p c m == k) 0 in
      let h : home s p c 0 ≡ (c + 0 / p) % s = moving s p c 0 pos in
      by ((c + 0 / p) % s == k) (t ∙ ap (λ (g : ℕ). 0 + (if g == k then 1 else 0)) h) none z
    where
      by : (b : Bool) → tally (λ m. home s p c m == k) (suc zero) ≡ 0 + (if b then 1 else 0) → left_of s c k some lt (0 / p) ≡ 0 → 0 / p ≡ 0 → tally (λ m. home s p c m == k) (suc zero) ≡ left_of s c k some lt (0 / p) * p + (if b then suc zero - 0 / p * p else 0)
      by true t none z = let l = ap (λ (m : ℕ). m * p) none in let q = ap (λ (m : ℕ). m * p) z in omega (arith, t, l, q)
      by false t none z = let l = ap (λ (m : ℕ). m * p) none in omega (arith, t, l)
  feeds_tally (suc n) =
      let r = feeds_tally n in
      let t = tally_more (λ m. home s p c m == k) (suc n) in
      let one : suc n ≡ n + 1 = omega arith in
      let q = div-add-mod' n p in
      elim (stays_or_goes s p c n some pos) [
        | inl x ↦
            let now : home s p c (suc n) ≡ (c + n / p) % s = ap (home s p c) one ∙ (x.now ∙ moving s p c n pos) in
            let e : suc n / p ≡ n / p = ap (λ (m : ℕ). m / p) one ∙ x.quotient in
            rw e (stay n q r (t ∙ ap (λ (g : ℕ). tally (λ m. home s p c m == k) (suc n) + (if g == k then 1 else 0)) now))
        | inr x ↦
            let now : home s p c (suc n) ≡ (c + (n / p + 1)) % s = ap (home s p c) one ∙ x.now in
            let e : suc n / p ≡ n / p + 1 = ap (λ (m : ℕ). m / p) one ∙ x.quotient in
            rw e (go n x.whole r (left_more s c k some lt (n / p)) (t ∙ ap (λ (g : ℕ). tally (λ m. home s p c m == k) (suc n) + (if g == k then 1 else 0)) now))
      ]
    where
      stay : (n : ℕ) → n / p * p + n % p ≡ n → tally (λ m. home s p c m == k) (suc n) ≡ left_of s c k some lt (n / p) * p + (if (c + n / p) % s == k then suc n - n / p * p else 0)
          → tally (λ m. home s p c m == k) (suc (suc n)) ≡ tally (λ m. home s p c m == k) (suc n) + (if (c + n / p) % s == k then 1 else 0)
          → tally (λ m. home s p c m == k) (suc (suc n)) ≡ left_of s c k some lt (n / p) * p + (if (c + n / p) % s == k then suc (suc n) - n / p * p else 0)
      stay n q = by ((c + n / p) % s == k)
        where
          by : (b : Bool) → tally (λ m. home s p c m == k) (suc n) ≡ left_of s c k some lt (n / p) * p + (if b then suc n - n / p * p else 0)
              → tally (λ m. home s p c m == k) (suc (suc n)) ≡ tally (λ m. home s p c m == k) (suc n) + (if b then 1 else 0)
              → tally (λ m. home s p c m == k) (suc (suc n)) ≡ left_of s c k some lt (n / p) * p + (if b then suc (suc n) - n / p * p else 0)
          by true r t = omega (arith, r, t, q)
          by false r t = omega (arith, r, t)

      go : (n : ℕ) → n + 1 ≡ (n / p + 1) * p → tally (λ m. home s p c m == k) (suc n) ≡ left_of s c k some lt (n / p) * p + (if (c + n / p) % s == k then suc n - n / p * p else 0)
          → left_of s c k some lt (n / p + 1) ≡ left_of s c k some lt (n / p) + (if (c + n / p) % s == k then 1 else 0)
          → tally (λ m. home s p c m == k) (suc (suc n)) ≡ tally (λ m. home s p c m == k) (suc n) + (if (c + (n / p + 1)) % s == k then 1 else 0)
          → tally (λ m. home s p c m == k) (suc (suc n)) ≡ left_of s c k some lt (n / p + 1) * p + (if (c + (n / p + 1)) % s == k then suc (suc n) - (n / p + 1) * p else 0)
      go n whole = by ((c + n / p) % s == k) ((c + (n / p + 1)) % s == k)
        where
          by : (a b : Bool) → tally (λ m. home s p c m == k) (suc n) ≡ left_of s c k some lt (n / p) * p + (if a then suc n - n / p * p else 0)
              → left_of s c k some lt (n / p + 1) ≡ left_of s c k some lt (n / p) + (if a then 1 else 0)
              → tally (λ m. home s p c m == k) (suc (suc n)) ≡ tally (λ m. home s p c m == k) (suc n) + (if b then 1 else 0)
              → tally (λ m. home s p c m == k) (suc (suc n)) ≡ left_of s c k some lt (n / p + 1) * p + (if b then suc (suc n) - (n / p + 1) * p else 0)
          by true true r l t = rw l (omega (arith, r, t, whole))
          by true false r l t = rw l (omega (arith, r, t, whole))
          by false true r l t = rw l (omega (arith, r, t, whole))
          by false false r l t = rw l (omega (arith, r, t, whole))

-- the same by how often it leaves
module _ (s p c k items : ℕ) (lt : k < s) (have : 0 < items) where
  some_squeue : 0 < s
  some_squeue = omega (arith, lt)

  several_of : s ≢ 1 → 1 < s
  several_of h = omega (arith, lt, h)

  still_left : ((n : ℕ) → home s p c (n + 1) ≡ home s p c n) → times_leaving s p k c items ≡ 0
  still_left h = tally_none (leaves_after s p k c) (items - 1) (λ n. ap (λ (g : ℕ). (home s p c n == k) && not (g == k)) (h n) ∙ left_never (home s p c n) k)

  still_home : ((n : ℕ) → home s p c n ≡ c % s) → feeds_at s p k c items ≡ (if c % s == k then items else 0)
  still_home h = by (c % s == k) refl
    where
      by : (b : Bool) → (c % s == k) ≡ b → feeds_at s p k c items ≡ (if b then items else 0)
      by true e = tally_all (λ n. home s p c n == k) items (λ n. ap (λ (g : ℕ). g == k) (h n) ∙ e)
      by false e = tally_none (λ n. home s p c n == k) items (λ n. ap (λ (g : ℕ). g == k) (h n) ∙ e)

  never_moves : (p == 0) ≡ true → (n : ℕ) → home s p c n ≡ c % s
  never_moves e n = rw e refl

  alone : s ≡ 1 → (n : ℕ) → home s p c n ≡ c % s
  alone e n = let a = home_below s p c n some_squeue in let b = mod_below c s some_squeue in omega (arith, a, b, e)

  -- how often it leaves, by quotients
  pub leaving_is : times_leaving s p k c items ≡ (moves_of s p items + (s - 1 - away s c k)) / s
  leaving_is = by (p == 0) (s == 1) refl refl
    where
      by : (a b : Bool) → (p == 0) ≡ a → (s == 1) ≡ b → times_leaving s p k c items ≡ ((if a || b then 0 else (items - 1) / p) + (s - 1 - away s c k)) / s
      by true b e f = still_left (λ n. never_moves e (n + 1) ∙ sym (never_moves e n)) ∙ sym (left_none s c k some_squeue lt)
      by false true e f = still_left (λ n. alone (eqb-true s 1 f) (n + 1) ∙ sym (alone (eqb-true s 1 f) n)) ∙ sym (left_none s c k some_squeue lt)
      by false false e f = left_tally s p c k (several_of (eqb-false s 1 f)) (let no : p ≢ 0 = eqb-false p 0 e in omega (arith, no)) lt (items - 1)

  -- how many feeds find it at home, by quotients
  pub feeds_is : feeds_at s p k c items ≡ times_leaving s p k c items * p + (if (c % s + moves_of s p items % s) % s == k then items - moves_of s p items * p else 0)
  feeds_is = by (p == 0) (s == 1) refl refl
    where
      stays : ((n : ℕ) → home s p c n ≡ c % s) → feeds_at s p k c items ≡ times_leaving s p k c items * p + (if (c % s + 0 % s) % s == k then items - 0 * p else 0)
      stays h =
          let l : times_leaving s p k c items ≡ 0 = still_left (λ n. h (n + 1) ∙ sym (h n)) in
          let m : times_leaving s p k c items * p ≡ 0 * p = ap (λ (a : ℕ). a * p) l in
          let e : (c % s + 0 % s) % s ≡ c % s = sym (add-mod c 0 s) ∙ ap (λ (a : ℕ). a % s) (let z : c + 0 ≡ c = omega arith in z) in
          rw e (by (c % s == k) (still_home h) m)
        where
          by : (b : Bool) → feeds_at s p k c items ≡ (if b then items else 0) → times_leaving s p k c items * p ≡ 0 * p
              → feeds_at s p k c items ≡ times_leaving s p k c items * p + (if b then items - 0 * p else 0)
          by true f m = omega (arith, f, m)
          by false f m = omega (arith, f, m)

      by : (a b : Bool) → (p == 0) ≡ a → (s == 1) ≡ b
          → feeds_at s p k c items ≡ times_leaving s p k c items * p + (if (c % s + (if a || b then 0 else (items - 1) / p) % s) % s == k then items - (if a || b then 0 else (items - 1) / p) * p else 0)
      by true b e f = stays (never_moves e)
      by false true e f = stays (alone (eqb-true s 1 f))
      by false false e f =
          let several = several_of (eqb-false s 1 f) in
          let pos : 0 < p = (let no : p ≢ 0 = eqb-false p 0 e in omega (arith, no)) in
          let n : items ≡ suc (items - 1) = omega (arith, have) in
          let m : ℕ = (items - 1) / p in
          ap (feeds_at s p k c) n
          ∙ (feeds_tally s p c k several pos lt (items - 1)
          ∙ (λ i. sym (left_tally s p c k several pos lt (items - 1)) i * p + (if add-mod c ((items - 1) / p) s i == k then sym n i - (items - 1) / p * p else 0)))

  -- it comes to a squeue as often as it leaves the one before
  pub coming_is : times_coming s p k c items ≡ times_leaving s p ((k + s - 1) % s) c items
  coming_is = tally_as (comes_after s p k c) (leaves_after s p ((k + s - 1) % s) c) (items - 1) (λ n. each n (cases_lt 0 p))
    where
      before : (((k + s - 1) % s) + 1 ≡ k) ⊎ ((k ≡ 0) × (((k + s - 1) % s) + 1 ≡ s))
      before =
          elim (cases_lt 0 k) [
            | inl pos ↦
                let e : k + s - 1 ≡ 1 * s + (k - 1) = omega (arith, pos) in
                let r : (k + s - 1) % s ≡ k - 1 = ap (λ (m : ℕ). m % s) e ∙ mod-mul-add 1 s (k - 1) (let l : k - 1 < s = omega (arith, lt) in l) in
                inl (omega (arith, r, pos))
            | inr none ↦
                let small : k + s - 1 < s = omega (arith, none, lt) in
                let r : (k + s - 1) % s ≡ k + s - 1 = mod-eq_of_lt small in
                inr (omega (arith, none), omega (arith, r, none, lt))
          ]

      same_home : (n : ℕ) → home s p c (n + 1) ≡ home s p c n → comes_after s p k c n ≡ leaves_after s p ((k + s - 1) % s) c n
      same_home n h =
          ap (λ (g : ℕ). not (home s p c n == k) && (g == k)) h
          ∙ (come_never (home s p c n) k ∙ sym (ap (λ (g : ℕ). (home s p c n == ((k + s - 1) % s)) && not (g == ((k + s - 1) % s))) h ∙ left_never (home s p c n) ((k + s - 1) % s)))

      there : (h g : ℕ) → h < s → (g ≡ h + 1) ⊎ ((g ≡ 0) × (h + 1 ≡ s)) → g ≡ k → h ≡ (k + s - 1) % s
      there h g small r e =
          elim r [
            | inl x ↦ elim before [ inl y ↦ omega (arith, x, y, e) | inr y ↦ absurd (let no : ⊥ = omega (arith, x, y.0, e) in no) ]
            | inr x ↦ elim before [ inl y ↦ absurd (let no : ⊥ = omega (arith, x.0, y, e) in no) | inr y ↦ omega (arith, x.0, x.1, y.0, y.1, e) ]
          ]

      back : (h g : ℕ) → g < s → (g ≡ h + 1) ⊎ ((g ≡ 0) × (h + 1 ≡ s)) → h ≡ (k + s - 1) % s → g ≡ k
      back h g small r e =
          elim r [
            | inl x ↦ elim before [ inl y ↦ omega (arith, x, y, e) | inr y ↦ absurd (let no : ⊥ = omega (arith, x, y.0, y.1, e, small) in no) ]
            | inr x ↦ elim before [ inl y ↦ absurd (let no : ⊥ = omega (arith, x.0, x.1, y, e, lt) in no) | inr y ↦ omega (arith, x.0, x.1, y.0, y.1, e) ]
          ]

      each : (n : ℕ) → (0 < p) ⊎ (p ≤ 0) → comes_after s p k c n ≡ leaves_after s p ((k + s - 1) % s) c n
      each n (inr none) = let e : (p == 0) ≡ true = eq-eqb p 0 (omega (arith, none)) in same_home n (never_moves e (n + 1) ∙ sym (never_moves e n))
      each n (inl pos) =
          elim (stays_or_goes s p c n some_squeue pos) [
            | inl x ↦ same_home n x.now
            | inr x ↦ elim (cases_lt 1 s) [
              | inl several ↦
                  let apart = another s p c n several x in
                  come_always (home s p c n) (home s p c (n + 1)) k apart
                  ∙ (same_test (home s p c (n + 1)) k (home s p c n) ((k + s - 1) % s) (there (home s p c n) (home s p c (n + 1)) (home_below s p c n some_squeue) x.round) (back (home s p c n) (home s p c (n + 1)) (home_below s p c (n + 1) some_squeue) x.round)
                  ∙ sym (left_always (home s p c n) (home s p c (n + 1)) ((k + s - 1) % s) apart))
              | inr one ↦ same_home n (let e : s ≡ 1 = omega (arith, one, lt) in alone e (n + 1) ∙ sym (alone e n))
            ]
          ]

  pub leaving_most : times_leaving s p k c items ≤ items
  leaving_most = let t = tally_most (leaves_after s p k c) (items - 1) in omega (arith, t)

  pub feeds_most : feeds_at s p k c items ≤ items
  feeds_most = tally_most (λ n. home s p c n == k) items

  -- the parts of the count, as the code has them
  pub feeds_there : (l m last : ℕ) → l ≡ times_leaving s p k c items → m ≡ moves_of s p items → (c % s + m % s) % s ≡ k → last ≡ items - m * p → l * p + last ≡ feeds_at s p k c items
  feeds_there l m last e f on is =
      let t : ((c % s + moves_of s p items % s) % s == k) ≡ true = ap (λ (n : ℕ). (c % s + n % s) % s == k) (sym f) ∙ eq-eqb ((c % s + m % s) % s) k on in
      let w : feeds_at s p k c items ≡ times_leaving s p k c items * p + (items - moves_of s p items * p) = feeds_is ∙ ap (λ (b : Bool). times_leaving s p k c items * p + (if b then items - moves_of s p items * p else 0)) t in
      (λ i. e i * p + is i) ∙ (ap (λ (n : ℕ). times_leaving s p k c items * p + (items - n * p)) f ∙ sym w)

  pub feeds_elsewhere : (l m last : ℕ) → l ≡ times_leaving s p k c items → m ≡ moves_of s p items → (c % s + m % s) % s ≢ k → last ≡ 0 → l * p + last ≡ feeds_at s p k c items
  feeds_elsewhere l m last e f off is =
      let t : ((c % s + moves_of s p items % s) % s == k) ≡ false = ap (λ (n : ℕ). (c % s + n % s) % s == k) (sym f) ∙ ne_eqb ((c % s + m % s) % s) k off in
      let w : feeds_at s p k c items ≡ times_leaving s p k c items * p + 0 = feeds_is ∙ ap (λ (b : Bool). times_leaving s p k c items * p + (if b then items - moves_of s p items * p else 0)) t in
      (λ i. e i * p + is i) ∙ sym w
