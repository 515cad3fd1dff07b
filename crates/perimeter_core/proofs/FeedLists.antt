-- The feeds of one connection in a list of entries.
use Rattle.std.proofs.Common.{◌≡◌, ◌≢◌, ℕ, zero, suc, ◌+◌, ◌%◌, Bool, true, false, if◌then◌else◌, ◌==◌, List, [], ◌∷◌, ◌++◌, length, refl, ap, sym, ◌∙◌, arith}
use Rattle.std.proofs.lemmas.Bool.Decides.{nat_tests}
use Rattle.perimeter_core.specs.declared.entries.Entry.{Entry}
use Rattle.perimeter_core.specs.declared.entries.Entry.TheVariants.{Feed, Ask}
use Rattle.perimeter_core.specs.Perimeter.{State, is_here}
use Rattle.perimeter_core.specs.History.{Setting}
use Rattle.perimeter_core.specs.Deeds.{feeds_of}
use Rattle.perimeter_core.specs.Legal.{Enters, one_more}
use Rattle.perimeter_core.specs.Backlog.{up}

kept_or_not : (b : Bool) (n : ℕ) (xs ys : List ℕ) → (if b then n ∷ (xs ++ ys) else (xs ++ ys)) ≡ (if b then n ∷ xs else xs) ++ ys
kept_or_not true n xs ys = refl
kept_or_not false n xs ys = refl

pub feeds_of-append : (c : ℕ) (xs ys : List Entry) → feeds_of c (xs ++ ys) ≡ feeds_of c xs ++ feeds_of c ys
feeds_of-append c [] ys = refl
feeds_of-append c (Feed d n ∷ xs) ys = rw (feeds_of-append c xs ys) (kept_or_not (d == c) n (feeds_of c xs) (feeds_of c ys))
feeds_of-append c (Ask p ∷ xs) ys = feeds_of-append c xs ys

-- two lists that are empty together
pub nil_left : {A : Type 0} (xs ys : List A) → xs ++ ys ≡ [] → xs ≡ []
nil_left [] ys h = refl
nil_left (x ∷ xs) ys h = absurd cc

pub nil_right : {A : Type 0} (xs ys : List A) → xs ++ ys ≡ [] → ys ≡ []
nil_right [] ys h = h
nil_right (x ∷ xs) ys h = absurd cc

pub no_feeds_left : (c : ℕ) (xs ys : List Entry) → feeds_of c (xs ++ ys) ≡ [] → feeds_of c xs ≡ []
no_feeds_left c xs ys h = nil_left (feeds_of c xs) (feeds_of c ys) (sym (feeds_of-append c xs ys) ∙ h)

pub no_feeds_right : (c : ℕ) (xs ys : List Entry) → feeds_of c (xs ++ ys) ≡ [] → feeds_of c ys ≡ []
no_feeds_right c xs ys h = nil_right (feeds_of c xs) (feeds_of c ys) (sym (feeds_of-append c xs ys) ∙ h)

pub no_feeds_both : (c : ℕ) (xs ys : List Entry) → feeds_of c xs ≡ [] → feeds_of c ys ≡ [] → feeds_of c (xs ++ ys) ≡ []
no_feeds_both c xs ys h k = rw (feeds_of-append c xs ys, h) k

-- consecutive numbers
pub length-up : (a k : ℕ) → length (up a k) ≡ k
length-up a zero = refl
length-up a (suc k) = ap suc (length-up (suc a) k)

pub up-append : (a k j : ℕ) → up a k ++ up (a + k) j ≡ up a (k + j)
up-append a zero j = simp (add-zero', zero-add')
  where
    add-zero' : (x : ℕ) → x + 0 ≡ x
    add-zero' x = omega arith

    zero-add' : (x : ℕ) → 0 + x ≡ x
    zero-add' x = omega arith
up-append a (suc k) j =
    let e : suc k + j ≡ suc (k + j) = omega arith in
    let f : a + suc k ≡ suc a + k = omega arith in rw (e, f) (ap (λ xs. a ∷ xs) (up-append (suc a) k j))

-- the rest of consecutive numbers
pub up_rest : (xs ys : List ℕ) (a k : ℕ) → xs ++ ys ≡ up a k → (ys ≡ up (a + length xs) (length ys)) × (length xs + length ys ≡ k)
up_rest [] ys a k h =
    let n : length ys ≡ k = ap length h ∙ length-up a k in
    let z : a + 0 ≡ a = omega arith in (rw (z, n) h, omega arith)
up_rest (x ∷ xs) ys a zero h = absurd cc
up_rest (x ∷ xs) ys a (suc k) h =
    let t : xs ++ ys ≡ up (suc a) k = cc in
    let r = up_rest xs ys (suc a) k t in
    let f : a + suc (length xs) ≡ suc a + length xs = omega arith in (rw f r.0, omega arith)

-- what is entered in one mark continues the numbers
enters_at : (c d n : ℕ) (next : ℕ → ℕ) (fs : List ℕ) (b : Bool) → (d == c) ≡ b → n ≡ next d
    → fs ≡ up (if b then next c + 1 else next c) (length fs)
    → (if b then n ∷ fs else fs) ≡ up (next c) (length (if b then n ∷ fs else fs))
enters_at c d n next fs true e h k =
    let same : d ≡ c = grind (arith, nat_tests) in
    let one : next c + 1 ≡ suc (next c) = omega arith in cc (h, ap next same, rw one at k)
enters_at c d n next fs false e h k = k

pub enters_up : (S : Setting) (s : State) (p c : ℕ) (next : ℕ → ℕ) (es : List Entry) → Enters S s p next es
    → feeds_of c es ≡ up (next c) (length (feeds_of c es))
enters_up S s p c next [] h = refl
enters_up S s p c next (Feed d n ∷ es) h = enters_at c d n next (feeds_of c es) (d == c) refl h.2 (enters_up S s p c (one_more d next) es h.4)
enters_up S s p c next (Ask q ∷ es) h = enters_up S s p c next es h

here_at : (s : State) (c d n : ℕ) (fs : List ℕ) (b : Bool) → (d == c) ≡ b → is_here s d ≡ true → (fs ≢ [] → is_here s c ≡ true)
    → (if b then n ∷ fs else fs) ≢ [] → is_here s c ≡ true
here_at s c d n fs true e h k w = let same : d ≡ c = grind (arith, nat_tests) in rw same at h
here_at s c d n fs false e h k w = k w

-- what is entered is a feed of a connection that is here
pub enters_here : (S : Setting) (s : State) (p c : ℕ) (next : ℕ → ℕ) (es : List Entry) → Enters S s p next es
    → feeds_of c es ≢ [] → is_here s c ≡ true
enters_here S s p c next [] h w = absurd (w refl)
enters_here S s p c next (Feed d n ∷ es) h w =
    here_at s c d n (feeds_of c es) (d == c) refl h.1 (enters_here S s p c (one_more d next) es h.4) w
enters_here S s p c next (Ask q ∷ es) h w = enters_here S s p c next es h w

other_at : (c d n p r : ℕ) (fs : List ℕ) (b : Bool) → (d == c) ≡ b → p ≡ d % r → p ≢ c % r → fs ≡ [] → (if b then n ∷ fs else fs) ≡ []
other_at c d n p r fs true e h k f = let same : d ≡ c = grind (arith, nat_tests) in absurd (k (rw same at h))
other_at c d n p r fs false e h k f = f

-- a pass enters no feed of another ring's connection
pub enters_own : (S : Setting) (s : State) (p c : ℕ) (next : ℕ → ℕ) (es : List Entry) → Enters S s p next es
    → p ≢ c % S.rings → feeds_of c es ≡ []
enters_own S s p c next [] h w = refl
enters_own S s p c next (Feed d n ∷ es) h w =
    other_at c d n p S.rings (feeds_of c es) (d == c) refl h.0 w (enters_own S s p c (one_more d next) es h.4 w)
enters_own S s p c next (Ask q ∷ es) h w = enters_own S s p c next es h w
