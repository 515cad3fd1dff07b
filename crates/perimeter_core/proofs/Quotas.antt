-- What is entered is within the quotas.
use Rattle.std.proofs.Common.{◌≡◌, ◌≢◌, ℕ, ◌+◌, ◌<◌, ◌≤◌, true, false, if◌then◌else◌, ◌==◌, inl, inr, List, [], ◌∷◌, ◌++◌, length, refl, sym, ◌∙◌, arith, length-append}
use Rattle.std.proofs.lemmas.Bool.{cases_eq}
use Rattle.std.proofs.lemmas.Bool.Decides.{nat_tests}
use Rattle.perimeter_core.specs.declared.entries.Entry.{Entry}
use Rattle.perimeter_core.specs.declared.entries.Entry.TheVariants.{Feed, Ask}
use Rattle.perimeter_core.specs.declared.marks.Mark.{Mark}
use Rattle.perimeter_core.specs.declared.marks.Mark.TheVariants as On
use Rattle.perimeter_core.specs.History.{Element, Setting, passes, all_quotas, feed_quotas, pass_of}
use Rattle.perimeter_core.specs.Deeds.{entries_of, entered}
use Rattle.perimeter_core.specs.Legal.{Legal, InRange, WithinQuota, feed_count, ask_count, feeds_by, asks_by}
use Rattle.perimeter_core.proofs.OneMore.{entered_push, legal_ind}
use Rattle.perimeter_core.proofs.PassSums.{sum_first, sum_mono, sum_more, quota_at, sum_quotas, feeds_at, sum_feed_quotas}

pub count_both : (es : List Entry) → length es ≡ feed_count es + ask_count es
count_both [] = refl
count_both (Feed c n ∷ es) = omega (arith, count_both es)
count_both (Ask p ∷ es) = omega (arith, count_both es)

pub feeds_push : (p : ℕ) (H : List Element) (e : Element) → feeds_by p (H ++ e ∷ []) ≡ feeds_by p H + (if pass_of e.mark == p then feed_count (entries_of e.mark) else 0)
feeds_push p [] e = omega arith
feeds_push p (x ∷ H) e = omega (arith, feeds_push p H e)

pub asks_push : (p : ℕ) (H : List Element) (e : Element) → asks_by p (H ++ e ∷ []) ≡ asks_by p H + (if pass_of e.mark == p then ask_count (entries_of e.mark) else 0)
asks_push p [] e = omega arith
asks_push p (x ∷ H) e = omega (arith, asks_push p H e)

abbrev by : List Element → ℕ → ℕ
by H p = feeds_by p H + asks_by p H

pub own_count : (k x : ℕ) → (if k == k then x else 0) ≡ x
own_count k x = let e : (k == k) ≡ true = grind (arith, nat_tests) in rw e refl

pub other_count : (k p x : ℕ) → k ≢ p → (if k == p then x else 0) ≡ 0
other_count k p x h = let e : (k == p) ≡ false = grind (arith, nat_tests) in rw e refl

pub pass_range : (S : Setting) (m : Mark) → InRange S m → pass_of m < passes S
pass_range S (On.Fill p es) r = r.0
pass_range S (On.Fast p e) r = r.0
pass_range S (On.Claim p es) r = r.0
pass_range S (On.Take p) r = r.0
pass_range S (On.Leave p rest act) r = r.0
pass_range S (On.Ask p) r = r.0
pass_range S (On.Grant p j rest) r = r.0
pass_range S (On.Accept j) r = r.0
pass_range S (On.Work p) r = r.0
pass_range S (On.Close p) r = r.0

pub entered_le : (S : Setting) (H : List Element) → Legal S H → length (entered H) ≤ sum_first (passes S) (by H)
entered_le S H l =
    legal_ind S (λ (G : List Element). length (entered G) ≤ sum_first (passes S) (by G)) (omega arith)
    (λ G e k i m.
    rw (entered_push G e)
    (let r =
    sum_more (passes S) (pass_of e.mark) (length (entries_of e.mark)) (by G) (by (G ++ e ∷ [])) (pass_range S e.mark m.range)
    (λ p. omega (arith, feeds_push p G e, asks_push p G e))
    (omega (
      arith,
      feeds_push (pass_of e.mark) G e,
      asks_push (pass_of e.mark) G e,
      own_count (pass_of e.mark) (feed_count (entries_of e.mark)),
      own_count (pass_of e.mark) (ask_count (entries_of e.mark)),
      count_both (entries_of e.mark),
    )) in
    omega (arith, i, r, length-append (entered G) (entries_of e.mark))))
    H l

pub within_push : (S : Setting) (k p : ℕ) (H : List Element) (e : Element) → pass_of e.mark ≡ k → WithinQuota S k (H ++ e ∷ []) → WithinQuota S p H → WithinQuota S p (H ++ e ∷ [])
within_push S k p H e is new old =
    elim (cases_eq k p) [
      | inl same ↦ rw same at new
      | inr other ↦
          let f = other_count (pass_of e.mark) p (feed_count (entries_of e.mark)) (λ z. other (sym is ∙ z)) in
          let a = other_count (pass_of e.mark) p (ask_count (entries_of e.mark)) (λ z. other (sym is ∙ z)) in
          record { feeds = omega (arith, feeds_push p H e, f, old.feeds); asks = omega (arith, asks_push p H e, a, old.asks) }
    ]

pub within : (S : Setting) (p : ℕ) (H : List Element) → Legal S H → WithinQuota S p H
within S p H l =
    legal_ind S (λ (G : List Element). WithinQuota S p G) (record { feeds = omega arith; asks = omega arith })
    (λ G e k i m. within_push S (pass_of e.mark) p G e refl m.quota i) H l

pub entered_within : (S : Setting) (H : List Element) → Legal S H → length (entered H) ≤ all_quotas S.quotas
entered_within S H l =
    let m =
    sum_mono (passes S) (by H) (quota_at S.quotas) (λ p. let w = within S p H l in omega (arith, w.feeds, w.asks)) in
    omega (arith, entered_le S H l, m, sum_quotas S.quotas)

pub feed_count-append : (xs ys : List Entry) → feed_count (xs ++ ys) ≡ feed_count xs + feed_count ys
feed_count-append [] ys = omega arith
feed_count-append (Feed c n ∷ xs) ys = omega (arith, feed_count-append xs ys)
feed_count-append (Ask p ∷ xs) ys = feed_count-append xs ys

abbrev feeds : List Element → ℕ → ℕ
feeds H p = feeds_by p H

pub feeds_le : (S : Setting) (H : List Element) → Legal S H → feed_count (entered H) ≤ sum_first (passes S) (feeds H)
feeds_le S H l =
    legal_ind S (λ (G : List Element). feed_count (entered G) ≤ sum_first (passes S) (feeds G)) (omega arith)
    (λ G e k i m.
    rw (entered_push G e)
    (let r =
    sum_more (passes S) (pass_of e.mark) (feed_count (entries_of e.mark)) (feeds G) (feeds (G ++ e ∷ [])) (pass_range S e.mark m.range)
    (λ p. omega (arith, feeds_push p G e))
    (omega (arith, feeds_push (pass_of e.mark) G e, own_count (pass_of e.mark) (feed_count (entries_of e.mark)))) in
    omega (arith, i, r, feed_count-append (entered G) (entries_of e.mark))))
    H l

pub feeds_within : (S : Setting) (H : List Element) → Legal S H → feed_count (entered H) ≤ feed_quotas S.quotas
feeds_within S H l =
    let m = sum_mono (passes S) (feeds H) (feeds_at S.quotas) (λ p. (within S p H l).feeds) in
    omega (arith, feeds_le S H l, m, sum_feed_quotas S.quotas)
