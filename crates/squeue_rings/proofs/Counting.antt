-- Feeds of a list, counted.
use Rattle.std.proofs.Common.{◌≡◌, ◌≢◌, ℕ, zero, suc, ◌+◌, ◌<◌, ◌==◌, Bool, true, false, if◌then◌else◌, List, [], ◌∷◌, ◌++◌, length, refl, ap, sym, ◌∙◌, arith, length-append}
use Rattle.std.proofs.lemmas.Bool.Decides.{nat_tests}
use Rattle.turn_gate.specs.History.{Each}
use Rattle.perimeter_core.specs.declared.entries.Feed.{Feed as FeedOf}
use Rattle.perimeter_core.specs.Deeds.{entries, feeds_of}
use Rattle.perimeter_core.specs.Backlog.{up}
use Rattle.histories.specs.Runs.{InOrder, brought, count}

pub feeds_more : (c : ℕ) (xs ys : List FeedOf) → feeds_of c (entries (xs ++ ys)) ≡ feeds_of c (entries xs) ++ feeds_of c (entries ys)
feeds_more c [] ys = refl
feeds_more c (x ∷ xs) ys = by (x.c == c) (feeds_more c xs ys)
  where
    by : (b : Bool) → feeds_of c (entries (xs ++ ys)) ≡ feeds_of c (entries xs) ++ feeds_of c (entries ys) → (if b then x.n ∷ feeds_of c (entries (xs ++ ys)) else feeds_of c (entries (xs ++ ys))) ≡ (if b then x.n ∷ feeds_of c (entries xs) else feeds_of c (entries xs)) ++ feeds_of c (entries ys)
    by true r = ap (λ (l : List ℕ). x.n ∷ l) r
    by false r = r

pub brought_more : (c : ℕ) (xs ys : List FeedOf) → brought c (xs ++ ys) ≡ brought c xs + brought c ys
brought_more c xs ys = ap length (feeds_more c xs ys) ∙ length-append (feeds_of c (entries xs)) (feeds_of c (entries ys))

-- one feed more, of the connection or of another one
pub brought_own : (f : FeedOf) (fs : List FeedOf) → brought f.c (f ∷ fs) ≡ 1 + brought f.c fs
brought_own f fs = let b : (f.c == f.c) ≡ true = grind (arith, nat_tests) in rw b (omega arith)

pub brought_other : (c : ℕ) (f : FeedOf) (fs : List FeedOf) → f.c ≢ c → brought c (f ∷ fs) ≡ brought c fs
brought_other c f fs apart = let b : (f.c == c) ≡ false = grind (arith, nat_tests) in rw b refl

pub own_more : (done : List FeedOf) (f : FeedOf) → brought f.c (done ++ f ∷ []) ≡ brought f.c done + 1
own_more done f = let m = brought_more f.c done (f ∷ []) in let o = brought_own f [] in omega (arith, m, o)

pub other_more : (c : ℕ) (done : List FeedOf) (f : FeedOf) → f.c ≢ c → brought c (done ++ f ∷ []) ≡ brought c done
other_more c done f apart = let m = brought_more c done (f ∷ []) in let o = brought_other c f [] apart in omega (arith, m, o)

pub count_more : (test : FeedOf → Bool) (xs ys : List FeedOf) → count test (xs ++ ys) ≡ count test xs + count test ys
count_more test [] ys = omega arith
count_more test (x ∷ xs) ys = let r = count_more test xs ys in by (test x) r
  where
    by : (b : Bool) → count test (xs ++ ys) ≡ count test xs + count test ys → (if b then 1 else 0) + count test (xs ++ ys) ≡ ((if b then 1 else 0) + count test xs) + count test ys
    by true r = omega (arith, r)
    by false r = omega (arith, r)

pub count_one : (test : FeedOf → Bool) (done : List FeedOf) (f : FeedOf) (b : Bool) → test f ≡ b → count test (done ++ f ∷ []) ≡ count test done + (if b then 1 else 0)
count_one test done f b is = let m = count_more test done (f ∷ []) in let o : count test (f ∷ []) ≡ (if b then 1 else 0) + 0 = ap (λ (x : Bool). (if x then 1 else 0) + 0) is in by b m o
  where
    by : (b : Bool) → count test (done ++ f ∷ []) ≡ count test done + count test (f ∷ []) → count test (f ∷ []) ≡ (if b then 1 else 0) + 0 → count test (done ++ f ∷ []) ≡ count test done + (if b then 1 else 0)
    by true m o = omega (arith, m, o)
    by false m o = omega (arith, m, o)

up_at : (a k : ℕ) (xs ys : List ℕ) (n : ℕ) → up a k ≡ xs ++ n ∷ ys → n ≡ a + length xs
up_at a zero [] ys n e = cc e
up_at a zero (x ∷ xs) ys n e = cc e
up_at a (suc k) [] ys n e = let h : a ≡ n = cc e in omega (arith, h)
up_at a (suc k) (x ∷ xs) ys n e = let t : up (suc a) k ≡ xs ++ n ∷ ys = cc e in let r = up_at (suc a) k xs ys n t in omega (arith, r)

-- a feed of a list in order has the number of its connection's feeds before it
pub number_is : (list done behind : List FeedOf) (f : FeedOf) → InOrder list → list ≡ done ++ f ∷ behind → f.n ≡ brought f.c done
number_is list done behind f order is =
    let own : feeds_of f.c (entries (f ∷ behind)) ≡ f.n ∷ feeds_of f.c (entries behind) = (let b : (f.c == f.c) ≡ true = grind (arith, nat_tests) in rw b refl) in
    let whole : up 0 (brought f.c list) ≡ feeds_of f.c (entries done) ++ f.n ∷ feeds_of f.c (entries behind) =
    sym (order f.c) ∙ (ap (λ (l : List FeedOf). feeds_of f.c (entries l)) is ∙ (feeds_more f.c done (f ∷ behind) ∙ ap (λ (l : List ℕ). feeds_of f.c (entries done) ++ l) own)) in
    let r = up_at 0 (brought f.c list) (feeds_of f.c (entries done)) (feeds_of f.c (entries behind)) f.n whole in
    omega (arith, r)

-- and so it is below their count
pub number_below : (list done behind : List FeedOf) (f : FeedOf) → InOrder list → list ≡ done ++ f ∷ behind → f.n < brought f.c list
number_below list done behind f order is =
    let n = number_is list done behind f order is in
    let m = ap (brought f.c) is ∙ brought_more f.c done (f ∷ behind) in
    let o = brought_own f behind in
    omega (arith, n, m, o)

pub count_none : (test : FeedOf → Bool) (fs : List FeedOf) → Each (λ (f : FeedOf). test f ≡ false) fs → count test fs ≡ 0
count_none test [] h = refl
count_none test (f ∷ fs) h = let r = count_none test fs h.1 in ap (λ (b : Bool). (if b then 1 else 0) + count test fs) h.0 ∙ (let e : 0 + count test fs ≡ 0 = omega (arith, r) in e)

pub count_all : (test : FeedOf → Bool) (fs : List FeedOf) → Each (λ (f : FeedOf). test f ≡ true) fs → count test fs ≡ length fs
count_all test [] h = refl
count_all test (f ∷ fs) h = let r = count_all test fs h.1 in ap (λ (b : Bool). (if b then 1 else 0) + count test fs) h.0 ∙ (let e : 1 + count test fs ≡ suc (length fs) = omega (arith, r) in e)

pub each_as : {P Q : FeedOf → Type 0} (fs : List FeedOf) → ((f : FeedOf) → P f → Q f) → Each P fs → Each Q fs
each_as [] f h = tt
each_as (x ∷ fs) f h = (f x h.0, each_as fs f h.1)

pub each_behind : (P : FeedOf → Type 0) (xs ys : List FeedOf) → Each P (xs ++ ys) → Each P ys
each_behind P [] ys h = h
each_behind P (x ∷ xs) ys h = each_behind P xs ys h.1

pub each_front : (P : FeedOf → Type 0) (xs ys : List FeedOf) → Each P (xs ++ ys) → Each P xs
each_front P [] ys h = tt
each_front P (x ∷ xs) ys h = (h.0, each_front P xs ys h.1)
