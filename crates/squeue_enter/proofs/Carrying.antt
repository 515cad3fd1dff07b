-- What a pass knew of the chain that it brings still holds where its turn finds what others made meanwhile.
use Rattle.std.proofs.Common.{◌≡◌, ℕ, zero, suc, ◌+◌, ◌≤◌, ◌<◌, ◌%◌, Bool, true, false, if◌then◌else◌, ◌==◌, List, [], ◌∷◌, ◌++◌, length, refl, ap, sym, ◌∙◌, subst, arith}
use Rattle.std.proofs.lemmas.List.{append-nil}
use Rattle.std.proofs.lemmas.Bool.Decides.{nat_tests}
use Rattle.std.specs.Prelude.{slice_index_or}
use Rattle.perimeter_core.specs.declared.entries.Entry.{Entry}
use Rattle.perimeter_core.specs.declared.entries.Entry.TheVariants.{Feed, Ask}
use Rattle.perimeter_core.specs.Perimeter.{State, Idle, is_here}
use Rattle.perimeter_core.specs.History.{Element, Setting, start, feed_quota, run, pass_of, made_by}
use Rattle.perimeter_core.specs.Deeds.{entries_of, due}
use Rattle.perimeter_core.specs.Legal.{Legal, WithinQuota, Enters, EntriesInRange, one_more, all_feeds, feeds_by, asks_by, feed_count, ask_count}
use Rattle.perimeter_core.specs.Knowledge.{here_by}
use Rattle.perimeter_core.proofs.RingKnows.{ring_knows}
use Rattle.perimeter_core.proofs.BlocksFollow.{flags}
use Rattle.perimeter_core.proofs.Since.{known_since, none_made}
use Rattle.perimeter_core.proofs.Quotas.{within}
use Rattle.perimeter_core.proofs.OneMore.{legal_front}
use Rattle.squeue_state.proofs.Makers.{made-append}

module _ (S : Setting) (p : ℕ) (H K : List Element) (l : Legal S (H ++ K)) (others : made_by p K ≡ []) where
  made_same : made_by p (H ++ K) ≡ made_by p H
  made_same = made-append p H K ∙ (ap (λ (xs : List Element). made_by p H ++ xs) others ∙ append-nil (made_by p H))

  made_at : (c : ℕ) → p ≡ c % S.rings → made_by (c % S.rings) (H ++ K) ≡ made_by (c % S.rings) H
  made_at c is = subst (λ (r : ℕ). made_by r (H ++ K) ≡ made_by r H) is made_same

  pub due_carried : (c : ℕ) → p ≡ c % S.rings → due H c ≡ due (H ++ K) c
  due_carried c is =
      (ring_knows S H c (legal_front S H K l)).next ∙ (ap (λ (h : List Element). due h c) (sym (made_at c is)) ∙ sym (ring_knows S (H ++ K) c l).next)

  pub here_carried : (c : ℕ) → p ≡ c % S.rings → is_here (run S H) c ≡ is_here (run S (H ++ K)) c
  here_carried c is =
      (ring_knows S H c (legal_front S H K l)).here
      ∙ (ap (λ (h : List Element). here_by c (is_here (start S) c) h) (sym (made_at c is)) ∙ sym (ring_knows S (H ++ K) c l).here)

  pub idle_carried : Idle (run S H) p → Idle (run S (H ++ K)) p
  idle_carried i = (known_since S H K p l others).idle i

one_kept : (c d : ℕ) (a b : ℕ → ℕ) → a d ≡ b d → one_more c a d ≡ one_more c b d
one_kept c d a b h = ap (λ (n : ℕ). if c == d then n + 1 else n) h

-- a chain that may be entered may be entered where its connections are as they were
pub enters_carried : (S : Setting) (s t : State) (p : ℕ) (a b : ℕ → ℕ) (es : List Entry) → ((c : ℕ) → p ≡ c % S.rings → a c ≡ b c) → ((c : ℕ) → p ≡ c % S.rings → is_here s c ≡ is_here t c)
    → Enters S s p a es → Enters S t p b es
enters_carried S s t p a b [] next here e = tt
enters_carried S s t p a b (Feed c n ∷ es) next here e =
    (e.0, sym (here c e.0) ∙ e.1, e.2 ∙ next c e.0, e.3, enters_carried S s t p (one_more c a) (one_more c b) es (λ d is. one_kept c d a b (next d is)) here e.4)
enters_carried S s t p a b (Ask q ∷ es) next here e = enters_carried S s t p a b es next here e

pub here_below : (xs : List Bool) (c : ℕ) → slice_index_or xs c false ≡ true → c < length xs
here_below [] c h = absurd cc
here_below (x ∷ xs) zero h = omega arith
here_below (x ∷ xs) (suc c) h = omega (arith, here_below xs c h)

pub entries_in_range : (S : Setting) (H : List Element) (p : ℕ) (next : ℕ → ℕ) (es : List Entry) → all_feeds es ≡ true → Enters S (run S H) p next es → EntriesInRange S es
entries_in_range S H p next [] f e = tt
entries_in_range S H p next (Feed c n ∷ es) f e =
    (subst (λ (k : ℕ). c < k) (flags (start S) H) (here_below (run S H).here c e.1), entries_in_range S H p (one_more c next) es f e.4)
entries_in_range S H p next (Ask q ∷ es) f e = absurd (cc f)

pub no_asks_in : (es : List Entry) → all_feeds es ≡ true → ask_count es ≡ 0
no_asks_in [] f = refl
no_asks_in (Feed c n ∷ es) f = no_asks_in es f
no_asks_in (Ask q ∷ es) f = absurd (cc f)

-- what a pass has entered, with what others made behind it and one element more
pub by_append : (p : ℕ) (H K : List Element) → (feeds_by p (H ++ K) ≡ feeds_by p H + feeds_by p K) × (asks_by p (H ++ K) ≡ asks_by p H + asks_by p K)
by_append p [] K = (omega arith, omega arith)
by_append p (e ∷ H) K = let r = by_append p H K in (omega (arith, r.0), omega (arith, r.1))

pub own_count : (k x : ℕ) → (if k == k then x else 0) + 0 ≡ x
own_count k x = let e : (k == k) ≡ true = grind (arith, nat_tests) in rw e (omega arith)

by_others : (p : ℕ) (K : List Element) → made_by p K ≡ [] → feeds_by p K ≡ 0
by_others p [] none = refl
by_others p (e ∷ K) none =
    let n = none_made p e K none in
    let other : (pass_of e.mark == p) ≡ false = let ne = n.0 in grind (arith, nat_tests) in
    rw other (omega (arith, by_others p K n.1))

pub quota_enters : (S : Setting) (p : ℕ) (H K : List Element) (e : Element) → Legal S (H ++ K) → made_by p K ≡ [] → pass_of e.mark ≡ p → all_feeds (entries_of e.mark) ≡ true
    → feeds_by p H + feed_count (entries_of e.mark) ≤ feed_quota S p → WithinQuota S p ((H ++ K) ++ e ∷ [])
quota_enters S p H K e l others is feeds room =
    let w = within S p (H ++ K) l in
    let one = by_append p (H ++ K) (e ∷ []) in
    let two = by_append p H K in
    let f : feeds_by p (e ∷ []) ≡ feed_count (entries_of e.mark) = subst (λ (k : ℕ). feeds_by k (e ∷ []) ≡ feed_count (entries_of e.mark)) is (own_count (pass_of e.mark) (feed_count (entries_of e.mark))) in
    let a : asks_by p (e ∷ []) ≡ ask_count (entries_of e.mark) = subst (λ (k : ℕ). asks_by k (e ∷ []) ≡ ask_count (entries_of e.mark)) is (own_count (pass_of e.mark) (ask_count (entries_of e.mark))) in
    record {
      feeds = omega (arith, one.0, two.0, f, room, by_others p K others);
      asks = omega (arith, one.1, a, no_asks_in (entries_of e.mark) feeds, w.asks);
    }
