-- The feeds that were done in a stay are at home at its squeue, so there are at most as many as a connection stays for.
use Rattle.std.proofs.Common.{◌≡◌, ℕ, zero, suc, ◌+◌, ◌*◌, ◌/◌, ◌%◌, ◌≤◌, ◌<◌, ◌==◌, inl, inr, Bool, true, false, if◌then◌else◌, Some, List, [], ◌∷◌, ◌++◌, refl, ap, sym, ◌∙◌, subst, arith}
use Rattle.std.specs.Prelude.{slice_get}
use Rattle.std.proofs.lemmas.Bool.{cases_lt}
use Rattle.std.proofs.lemmas.Bool.Decides.{nat_tests}
use Rattle.std.proofs.lemmas.Nat.{div-mul-add, mod-mul-add, mod_below}
use Rattle.perimeter_core.specs.declared.entries.Entry.{Entry}
use Rattle.perimeter_core.specs.declared.entries.Entry.TheVariants.{Feed, Ask}
use Rattle.perimeter_core.specs.Perimeter.{State, after}
use Rattle.perimeter_core.specs.History.{Element, Setting, pass_of, run, start}
use Rattle.perimeter_core.specs.Deeds.{done, done_by, done_from, entered, entries_of, feed_numbers, feeds_of, reported}
use Rattle.perimeter_core.specs.Legal.{Enters, Legal, LegalFrom}
use Rattle.perimeter_core.specs.Backlog.{queue, up}
use Rattle.perimeter_core.proofs.OrderAndWake.{order}
use Rattle.perimeter_core.proofs.FeedLists.{feeds_of-append}
use Rattle.histories.specs.declared.mode.Mode.{Mode}
use Rattle.perimeter_core.proofs.ActLists.{feed_numbers-append}
use Rattle.histories.specs.Homes.{home}
use Rattle.histories.specs.Stays.{Stay, all_in, done_in, reports_from, stays}
use Rattle.histories.specs.Keeping.{AreHome, KeepsFrom, KeepsPace}
use Rattle.trace_replay.proofs.Counted.{numbers_reported}
use Rattle.ring_quotas.proofs.Moving.{mod_sum}
use Rattle.histories.proofs.StaysKept.{reports_are_done}

-- feeds of connection c that are at home at squeue q
abbrev pub HomeAt : ℕ → ℕ → ℕ → ℕ → List ℕ → Type 0
HomeAt squeues spread q c [] = Unit {0}
HomeAt squeues spread q c (n ∷ ns) = (home squeues spread c n ≡ q) × HomeAt squeues spread q c ns

module _ (squeues spread q : ℕ) where
  home_front : (xs ys : List Entry) → AreHome squeues spread q (xs ++ ys) → AreHome squeues spread q xs
  home_front [] ys h = tt
  home_front (Feed c n ∷ xs) ys h = (h.0, home_front xs ys h.1)
  home_front (Ask p ∷ xs) ys h = home_front xs ys h

  home_both : (xs ys : List Entry) → AreHome squeues spread q xs → AreHome squeues spread q ys → AreHome squeues spread q (xs ++ ys)
  home_both [] ys a b = b
  home_both (Feed c n ∷ xs) ys a b = (a.0, home_both xs ys a.1 b)
  home_both (Ask p ∷ xs) ys a b = home_both xs ys a b

  home_feeds : (c : ℕ) (es : List Entry) → AreHome squeues spread q es → HomeAt squeues spread q c (feeds_of c es)
  home_feeds c [] h = tt
  home_feeds c (Feed d n ∷ es) h = by (d == c) refl (home_feeds c es h.1)
    where
      by : (b : Bool) → (d == c) ≡ b → HomeAt squeues spread q c (feeds_of c es) → HomeAt squeues spread q c (if b then n ∷ feeds_of c es else feeds_of c es)
      by true e rest = let same : d ≡ c = grind (arith, nat_tests, e) in (subst (λ (k : ℕ). home squeues spread k n ≡ q) same h.0, rest)
      by false e rest = rest
  home_feeds c (Ask p ∷ es) h = home_feeds c es h

  at_front : (c : ℕ) (xs ys : List ℕ) → HomeAt squeues spread q c (xs ++ ys) → HomeAt squeues spread q c xs
  at_front c [] ys h = tt
  at_front c (x ∷ xs) ys h = (h.0, at_front c xs ys h.1)

  at_back : (c : ℕ) (xs ys : List ℕ) → HomeAt squeues spread q c (xs ++ ys) → HomeAt squeues spread q c ys
  at_back c [] ys h = h
  at_back c (x ∷ xs) ys h = at_back c xs ys h.1

  -- who is no ring enters no feeds
  no_ring : (S : Setting) (s : State) (p : ℕ) (next : ℕ → ℕ) (es : List Entry) → 0 < S.rings → S.rings ≤ p → Enters S s p next es → AreHome squeues spread q es
  no_ring S s p next [] some le h = tt
  no_ring S s p next (Feed c n ∷ es) some le h = absurd (let e = h.0 in let m = mod_below c S.rings some in let no : ⊥ = omega (arith, e, m, le) in no)
  no_ring S s p next (Ask k ∷ es) some le h = no_ring S s p next es some le h

  module _ (mode : Mode) (budget : ℕ) (S : Setting) (some : 0 < S.rings) where
    entered_home : (past K : List Element) → LegalFrom S past K → ((r : ℕ) → r < S.rings → KeepsFrom squeues spread mode budget q S r past K) → AreHome squeues spread q (entered K)
    entered_home past [] l k = tt
    entered_home past (e ∷ K) l k =
        home_both (entries_of e.mark) (entered K)
        (elim (cases_lt (pass_of e.mark) S.rings) [
          | inl ring ↦ ((k (pass_of e.mark) ring).0 refl).home
          | inr other ↦ no_ring S (run S past) (pass_of e.mark) _ (entries_of e.mark) some other l.0.enters
        ])
        (entered_home (past ++ e ∷ []) K l.1 (λ r ring. (k r ring).1))

    done_home : (H : List Element) → Legal S H → ((r : ℕ) → r < S.rings → KeepsPace squeues spread mode budget q S r H) → AreHome squeues spread q (done S H)
    done_home H l k = home_front (done S H) (queue (run S H)) (subst (AreHome squeues spread q) (order S H l) (entered_home [] H l k))

    numbers_done : (c : ℕ) (H : List Element) (s : State) → feed_numbers (reports_from c s H) ≡ feeds_of c (done_from s H)
    numbers_done c [] s = refl
    numbers_done c (e ∷ H) s =
        feed_numbers-append (reported c s e.mark) (reports_from c (after s e.mark) H)
        ∙ ((λ i. numbers_reported c s e.mark i ++ numbers_done c H (after s e.mark) i) ∙ sym (feeds_of-append c (done_by s e.mark) (done_from (after s e.mark) H)))

    own_home : (c : ℕ) (vs : List Stay) (i : ℕ) (v : Stay) → HomeAt squeues spread q c (feed_numbers (done_in vs)) → slice_get vs i ≡ Some v → HomeAt squeues spread q c (feed_numbers v.own)
    own_home c [] i v h at = absurd (let no : ⊥ = cc at in no)
    own_home c (w ∷ vs) zero v h at =
        let e : w ≡ v = cc at in
        subst (λ (u : Stay). HomeAt squeues spread q c (feed_numbers u.own)) e (at_front c (feed_numbers w.own) (feed_numbers (done_in vs)) (subst (HomeAt squeues spread q c) (feed_numbers-append w.own (done_in vs)) h))
    own_home c (w ∷ vs) (suc i) v h at = own_home c vs i v (at_back c (feed_numbers w.own) (feed_numbers (done_in vs)) (subst (HomeAt squeues spread q c) (feed_numbers-append w.own (done_in vs)) h)) at

    pub stay_home : (H : List Element) → Legal S H → ((r : ℕ) → r < S.rings → KeepsPace squeues spread mode budget q S r H)
        → (c i : ℕ) (v : Stay) → slice_get (all_in (stays S H c)) i ≡ Some v → HomeAt squeues spread q c (feed_numbers v.own)
    stay_home H l k c i v at =
        own_home c (all_in (stays S H c)) i v
        (subst (HomeAt squeues spread q c) (sym (numbers_done c H (start S)) ∙ ap feed_numbers (reports_are_done S H c l)) (home_feeds c (done S H) (done_home H l k))) at

home_up : (squeues spread q c a k i : ℕ) → HomeAt squeues spread q c (up a k) → i < k → home squeues spread c (a + i) ≡ q
home_up squeues spread q c a zero i h lt = absurd (let no : ⊥ = omega (arith, lt) in no)
home_up squeues spread q c a (suc k) zero h lt = let z : a ≡ a + 0 = omega arith in ap (home squeues spread c) (sym z) ∙ h.0
home_up squeues spread q c a (suc k) (suc i) h lt = let z : suc a + i ≡ a + suc i = omega arith in ap (home squeues spread c) (sym z) ∙ home_up squeues spread q c (suc a) k i h.1 (omega (arith, lt))

-- feeds numbered on from those before a stay are at most as many as it is for
pub few_home : (squeues spread c t k : ℕ) → 1 < squeues → 0 < spread → HomeAt squeues spread ((c + t) % squeues) c (up (t * spread) k) → k ≤ spread
few_home squeues spread c t k many some h =
    elim (cases_lt spread k) [
      | inl over ↦
          let there : home squeues spread c (t * spread + spread) ≡ (c + t) % squeues = home_up squeues spread ((c + t) % squeues) c (t * spread) k spread h over in
          let test : (spread == 0) ≡ false = grind (arith, nat_tests, some) in
          let as_is : home squeues spread c (t * spread + spread) ≡ (c + (t * spread + spread) / spread) % squeues = ap (λ (b : Bool). if b then c % squeues else (c + (t * spread + spread) / spread) % squeues) test in
          let e : t * spread + spread ≡ (t + 1) * spread + 0 = omega arith in
          let d : (t * spread + spread) / spread ≡ t + 1 = ap (λ (m : ℕ). m / spread) e ∙ div-mul-add (t + 1) spread 0 some in
          let z : c + (t + 1) ≡ (c + t) + 1 = omega arith in
          let next : ((c + t) + 1) % squeues ≡ (c + t) % squeues = sym (as_is ∙ (ap (λ (m : ℕ). (c + m) % squeues) d ∙ ap (λ (m : ℕ). m % squeues) z)) ∙ there in
          let o : 1 ≡ 0 * squeues + 1 = omega arith in
          let one : 1 % squeues ≡ 1 = ap (λ (m : ℕ). m % squeues) o ∙ mod-mul-add 0 squeues 1 many in
          absurd (elim (mod_sum (c + t) 1 squeues (omega (arith, many))) [
            | inl x ↦ (let y = x.0 in let no : ⊥ = omega (arith, y, next, one) in no)
            | inr x ↦ (let no : ⊥ = omega (arith, x, next, one, many) in no)
          ])
      | inr le ↦ le
    ]
