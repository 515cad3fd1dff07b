-- How what is so of lent passes goes on where one more squeue is lent, and where the last one comes back.
use Rattle.std.proofs.Common.{◌≡◌, ◌≢◌, ℕ, zero, suc, ◌+◌, ◌-◌, ◌<◌, ◌≤◌, ◌==◌, true, false, Option, Some, None, List, [], ◌∷◌, ◌++◌, length, slice_get, length-append, refl, ap, sym, ◌∙◌, subst, arith, inl, inr, ◌⊎◌, All, slice_index_or}
use Rattle.std.proofs.lemmas.Bool.Decides.{nat_tests}
use Rattle.std.proofs.lemmas.Bool.{cases_eq}
use Rattle.std.proofs.lemmas.List.{get_or_append_left}
use Rattle.std.proofs.lemmas.Option.{slice_get_within}
use Rattle.turn_gate.specs.History.{Each, Has}
use Rattle.turn_gate.specs.declared.pass.Pass.{Pass}
use Rattle.perimeter_core.specs.History.{Element, Limits}
use Rattle.squeue_state.specs.Naming.{Named}
use Rattle.turn_gate.specs.Passes.{IsPassOf, number}
use Rattle.squeue_state.specs.Naming.{setting_of}
use Rattle.histories.specs.Elements.{number_of}
use Rattle.squeue_state.specs.Clauses.{HasSeenEnd}
use Rattle.squeue_serve.specs.Places.{Holds, AtEach, MayEnd}
use Rattle.squeue_serve.specs.Lending.{AreLent, AreHanded, HaveLast, holder}
use Rattle.squeue_serve.proofs.Lent.{get_end}
use Rattle.histories.proofs.ListPlaces.{get_front}

module _ {R A : Type 0} (Q : Named R → A → Type 0) where
  pub at_more : (ss : List (Named R)) (os : List A) (s : Named R) (o : A) → AtEach Q ss os → Q s o → AtEach Q (ss ++ s ∷ []) (os ++ o ∷ [])
  at_more [] [] s o h new = (new, tt)
  at_more [] (x ∷ os) s o h new = absurd h
  at_more (t ∷ ss) [] s o h new = absurd h
  at_more (t ∷ ss) (x ∷ os) s o h new = (h.0, at_more ss os s o h.1 new)

  none_more : (ss : List (Named R)) (s : Named R) → AtEach Q (ss ++ s ∷ []) [] → ⊥
  none_more [] s h = h
  none_more (t ∷ ss) s h = h

  none_left : (os : List A) (o : A) → AtEach Q [] (os ++ o ∷ []) → ⊥
  none_left [] o h = h
  none_left (x ∷ os) o h = h

  pub at_last : (ss : List (Named R)) (os : List A) (s : Named R) (o : A) → AtEach Q (ss ++ s ∷ []) (os ++ o ∷ []) → AtEach Q ss os × Q s o
  at_last [] [] s o h = (tt, h.0)
  at_last [] (x ∷ os) s o h = absurd (none_left os o h.1)
  at_last (t ∷ ss) [] s o h = absurd (none_more ss s h.1)
  at_last (t ∷ ss) (x ∷ os) s o h = let r = at_last ss os s o h.1 in ((h.0, r.0), r.1)

  -- there is a last place
  pub has_last : (ss : List (Named R)) (os : List A) (s : Named R) → AtEach Q (ss ++ s ∷ []) os → (before : List A) × (o : A) × (os ≡ before ++ o ∷ []) × Q s o
  has_last [] [] s h = absurd h
  has_last [] (x ∷ []) s h = ([], x, refl, h.0)
  has_last [] (x ∷ y ∷ os) s h = absurd h.1
  has_last (t ∷ ss) [] s h = absurd h
  has_last (t ∷ ss) (x ∷ os) s h = let r = has_last ss os s h.1 in (x ∷ r.0, r.1, ap (λ l. x ∷ l) r.2, r.3)

each_more : {A : Type 0} (P : A → Type 0) (xs : List A) (x : A) → Each P xs → P x → Each P (xs ++ x ∷ [])
each_more P [] x e h = (h, tt)
each_more P (y ∷ xs) x e h = (e.0, each_more P xs x e.1 h)

each_less : {A : Type 0} (P : A → Type 0) (xs : List A) (x : A) → Each P (xs ++ x ∷ []) → Each P xs
each_less P [] x e = tt
each_less P (y ∷ xs) x e = (e.0, each_less P xs x e.1)

pub each_got : {A : Type 0} (P : A → Type 0) (xs : List A) → ((k : ℕ) (x : A) → slice_get xs k ≡ Some x → P x) → Each P xs
each_got P [] h = tt
each_got P (x ∷ xs) h = (h 0 x refl, each_got P xs (λ k y e. h (suc k) y e))

pub has_got : {A : Type 0} (P : A → Type 0) (xs : List A) (k : ℕ) (x : A) → slice_get xs k ≡ Some x → P x → Has P xs
has_got P [] k x e h = cc e
has_got P (y ∷ xs) zero x e h = let same : y ≡ x = cc e in inl (subst P (sym same) h)
has_got P (y ∷ xs) (suc k) x e h = inr (has_got P xs k x e h)

pub one_only : {A : Type 0} (xs : List A) (x y : A) → xs ++ x ∷ [] ≡ y ∷ [] → (xs ≡ []) × (x ≡ y)
one_only [] x y e = (refl, cc e)
one_only (z ∷ []) x y e = cc e
one_only (z ∷ w ∷ xs) x y e = cc e

-- the jobs that hold passes of a squeue, by number
pub holds_other : (front count q p : ℕ) → p < count → holder front count q p ≡ front + p
holds_other front count q p lt = let b : (p == count) ≡ false = grind (arith, nat_tests) in rw b refl

pub holds_last : (front count q : ℕ) → holder front count q count ≡ front + count + q
holds_last front count q = let b : (count == count) ≡ true = grind (arith, nat_tests) in rw b refl

-- no job at this number holds one
apart_from : (front count q i : ℕ) → ((i < front) ⊎ (front + count ≤ i)) → i ≢ front + count + q → (p : ℕ) → p ≤ count → i ≢ holder front count q p
apart_from front count q i side apart p le e =
    elim (cases_eq p count) [
      | inl at ↦ apart (e ∙ (ap (holder front count q) at ∙ holds_last front count q))
      | inr other ↦ let h = holds_other front count q p (omega (arith, le, other)) in elim side [ inl a ↦ absurd (omega (arith, a, e, h)) | inr b ↦ absurd (omega (arith, b, e, h, le, other)) ]
    ]

module _ {R : Type 0} (P : ℕ → Named R → Pass Element → Type 0) (front count : ℕ) (ss : List (Named R)) (s : Named R) where
  abbrev Q : ℕ → Named R → Option (Pass Element) → Type 0
  Q p t o = Holds (P p t) o

  some_held : (p : ℕ) (o : Option (Pass Element)) → Q p s o → (x : Pass Element) × (o ≡ Some x)
  some_held p None h = absurd h
  some_held p (Some x) h = (x, refl)

  pub have_last : (lent : ℕ → List (Option (Pass Element))) → AreLent P front count (ss ++ s ∷ []) lent → HaveLast front count (length ss) lent
  have_last lent h p le =
      elim (cases_eq p count) [
        | inl at ↦
            let w = h.workers (length ss) s (get_end ss [] s (length ss) refl) in
            ([], w.0, ap (λ n. lent (holder front count (length ss) n)) at ∙ (ap lent (holds_last front count (length ss)) ∙ w.1))
        | inr other ↦
            let lt : p < count = omega (arith, le, other) in
            let r = has_last (Q p) ss (lent (front + p)) s (h.others p lt) in
            let x = some_held p r.1 r.3 in
            (r.0, x.0, ap lent (holds_other front count (length ss) p lt) ∙ (r.2 ∙ ap (λ o. r.0 ++ o ∷ []) x.1))
      ]

  module _ (passes : List (Pass Element)) (without having : ℕ → List (Option (Pass Element))) (handed : AreHanded front count (length ss) passes without having) where
    -- of each pass that came back it is so
    pub came : AreLent P front count (ss ++ s ∷ []) having → (p : ℕ) → p ≤ count → (x : Pass Element) × (slice_get passes p ≡ Some x) × P p s x
    came h p le =
        let r = handed.each p le in
        elim (cases_eq p count) [
          | inl at ↦
              let w = h.workers (length ss) s (get_end ss [] s (length ss) refl) in
              let there : having (holder front count (length ss) p) ≡ Some w.0 ∷ [] = ap (λ n. having (holder front count (length ss) n)) at ∙ (ap having (holds_last front count (length ss)) ∙ w.1) in
              let same : Some r.0 ≡ Some w.0 = (one_only (without (holder front count (length ss) p)) (Some r.0) (Some w.0) (sym r.2 ∙ there)).1 in
              let is : w.0 ≡ r.0 = cc same in
              (r.0, r.1, subst (λ (n : ℕ). P n s r.0) (sym at) (subst (P count s) is w.2))
          | inr other ↦
              let lt : p < count = omega (arith, le, other) in
              let at = holds_other front count (length ss) p lt in
              let there : having (front + p) ≡ without (front + p) ++ Some r.0 ∷ [] = subst (λ (i : ℕ). having i ≡ without i ++ Some r.0 ∷ []) at r.2 in
              (r.0, r.1, (at_last (Q p) ss (without (front + p)) s (Some r.0) (subst (AtEach (Q p) (ss ++ s ∷ [])) there (h.others p lt))).1)
        ]

    front_get : (q : ℕ) (t : Named R) → slice_get ss q ≡ Some t → slice_get (ss ++ s ∷ []) q ≡ Some t
    front_get q t e = get_front ss (s ∷ []) q t e

    -- and of those that are still lent
    pub less_lent : AreLent P front count (ss ++ s ∷ []) having → AreLent P front count ss without
    less_lent h =
        record {
          counts = each_less (λ (t : Named R). length t.given.quotas ≡ count) ss s h.counts;
          others = λ p lt.
              let r = handed.each p (omega (arith, lt)) in
              let there : having (front + p) ≡ without (front + p) ++ Some r.0 ∷ [] = subst (λ (i : ℕ). having i ≡ without i ++ Some r.0 ∷ []) (holds_other front count (length ss) p lt) r.2 in
              (at_last (Q p) ss (without (front + p)) s (Some r.0) (subst (AtEach (Q p) (ss ++ s ∷ [])) there (h.others p lt))).0;
          workers = λ q t is.
              let lt = slice_get_within ss q t is in
              let w = h.workers q t (front_get q t is) in
              (w.0, sym (handed.rest (front + count + q) (apart_from front count (length ss) (front + count + q) (inr (omega arith)) (λ e. absurd (omega (arith, e, lt))))) ∙ w.1, w.2);
          first_none = λ i lt. sym (handed.rest i (apart_from front count (length ss) i (inl lt) (λ e. absurd (omega (arith, e, lt))))) ∙ h.first_none i lt;
          last_none = λ i ge.
              elim (cases_eq i (front + count + length ss)) [
                | inl at ↦
                    let r = handed.each count (omega arith) in
                    let w = h.workers (length ss) s (get_end ss [] s (length ss) refl) in
                    let there : having (holder front count (length ss) count) ≡ Some w.0 ∷ [] = ap having (holds_last front count (length ss)) ∙ w.1 in
                    ap without (at ∙ sym (holds_last front count (length ss))) ∙ (one_only (without (holder front count (length ss) count)) (Some r.0) (Some w.0) (sym r.2 ∙ there)).0
                | inr other ↦ sym (handed.rest i (apart_from front count (length ss) i (inr (omega (arith, ge))) other)) ∙ h.last_none i (omega (arith, ge, other, length-append ss (s ∷ [])))
              ];
        }

    -- one more squeue is lent
    pub more_lent : AreLent P front count ss without → length s.given.quotas ≡ count → ((p : ℕ) (x : Pass Element) → slice_get passes p ≡ Some x → P p s x) → AreLent P front count (ss ++ s ∷ []) having
    more_lent h counted each =
        record {
          counts = each_more (λ (t : Named R). length t.given.quotas ≡ count) ss s h.counts counted;
          others = λ p lt.
              let r = handed.each p (omega (arith, lt)) in
              let there : having (front + p) ≡ without (front + p) ++ Some r.0 ∷ [] = subst (λ (i : ℕ). having i ≡ without i ++ Some r.0 ∷ []) (holds_other front count (length ss) p lt) r.2 in
              subst (AtEach (Q p) (ss ++ s ∷ [])) (sym there) (at_more (Q p) ss (without (front + p)) s (Some r.0) (h.others p lt) (each p r.0 r.1));
          workers = λ q t is. by q t is;
          first_none = λ i lt. handed.rest i (apart_from front count (length ss) i (inl lt) (λ e. absurd (omega (arith, e, lt)))) ∙ h.first_none i lt;
          last_none = λ i ge.
              let n = length-append ss (s ∷ []) in
              handed.rest i (apart_from front count (length ss) i (inr (omega (arith, ge))) (λ e. absurd (omega (arith, e, ge, n)))) ∙ h.last_none i (omega (arith, ge, n));
        }
      where
        new : (x : Pass Element) × (having (front + count + length ss) ≡ Some x ∷ []) × P count s x
        new =
            let r = handed.each count (omega arith) in
            let at = holds_last front count (length ss) in
            let none : without (front + count + length ss) ≡ [] = h.last_none (front + count + length ss) (omega arith) in
            (r.0, subst (λ (i : ℕ). having i ≡ without i ++ Some r.0 ∷ []) at r.2 ∙ ap (λ l. l ++ Some r.0 ∷ []) none, each count r.0 r.1)

        by : (q : ℕ) (t : Named R) → slice_get (ss ++ s ∷ []) q ≡ Some t → (x : Pass Element) × (having (front + count + q) ≡ Some x ∷ []) × P count t x
        by q t is =
            let lt = slice_get_within (ss ++ s ∷ []) q t is in
            let n = length-append ss (s ∷ []) in
            elim (cases_eq q (length ss)) [
              | inl at ↦
                  let here : slice_get (ss ++ s ∷ []) q ≡ Some s = get_end ss [] s q at in
                  let same : s ≡ t = cc (sym here ∙ is) in
                  subst (λ (t : Named R). (x : Pass Element) × (having (front + count + q) ≡ Some x ∷ []) × P count t x) same
                  (subst (λ (k : ℕ). (x : Pass Element) × (having (front + count + k) ≡ Some x ∷ []) × P count s x) (sym at) new)
              | inr other ↦
                  let w = h.workers q t (back ss q t (omega (arith, lt, n, other)) is) in
                  (w.0, handed.rest (front + count + q) (apart_from front count (length ss) (front + count + q) (inr (omega arith)) (λ e. absurd (omega (arith, e, other)))) ∙ w.1, w.2)
            ]
          where
            back : (ss : List (Named R)) (q : ℕ) (t : Named R) → q < length ss → slice_get (ss ++ s ∷ []) q ≡ Some t → slice_get ss q ≡ Some t
            back [] q t lt e = absurd (omega arith)
            back (x ∷ ss) zero t lt e = e
            back (x ∷ ss) (suc q) t lt e = back ss q t (omega arith) e

pub all_less : {A : Type 0} (P : A → Type 0) (xs ys : List A) (x : A) → ys ≡ xs ++ x ∷ [] → All P ys → All P xs
all_less P xs ys x e all k d lt =
    let n : length ys ≡ length xs + 1 = ap length e ∙ length-append xs (x ∷ []) in
    subst P (ap (λ l. slice_index_or l k d) e ∙ get_or_append_left xs (x ∷ []) d k lt) (all k d (omega (arith, n, lt)))

-- all passes of a squeue have come back
module _ {R : Type 0} (limits : R → Limits) (front count : ℕ) (ss : List (Named R)) (s : Named R) (passes : List (Pass Element)) (without having : ℕ → List (Option (Pass Element)))
    (handed : AreHanded front count (length ss) passes without having) (lent : AreLent (MayEnd limits) front count (ss ++ s ∷ []) having) where
  its_count : length s.given.quotas ≡ count
  its_count = each_last (λ (t : Named R). length t.given.quotas ≡ count) ss s lent.counts
    where
      each_last : {A : Type 0} (P : A → Type 0) (xs : List A) (x : A) → Each P (xs ++ x ∷ []) → P x
      each_last P [] x e = e.0
      each_last P (y ∷ xs) x e = each_last P xs x e.1

  at : (k : ℕ) (x : Pass Element) → slice_get passes k ≡ Some x → MayEnd limits k s x
  at k x is =
      let lt = slice_get_within passes k x is in
      let r = came (MayEnd limits) front count ss s passes without having handed lent k (omega (arith, lt, handed.all)) in
      let same : r.0 ≡ x = cc (sym r.1 ∙ is) in
      subst (MayEnd limits k s) same r.2

  pub all_passes : Each (IsPassOf number_of s.gate) passes × ((q : ℕ) → q < length s.given.quotas + 1 → Has (λ (p : Pass Element). number p ≡ q) passes)
  all_passes = (
    each_got (IsPassOf number_of s.gate) passes (λ k x is. (at k x is).pass),
    λ q lt.
        let r = came (MayEnd limits) front count ss s passes without having handed lent q (omega (arith, lt, its_count)) in
        has_got (λ (p : Pass Element). number p ≡ q) passes q r.0 r.1 r.2.is_number,
  )

  pub all_over : Each (HasSeenEnd (setting_of limits s.given)) passes
  all_over = each_got (HasSeenEnd (setting_of limits s.given)) passes (λ k x is. (at k x is).over)

-- what is so of each pass may be told as what follows from it
module _ {R : Type 0} (P Q : ℕ → Named R → Pass Element → Type 0) (gives : (p : ℕ) (s : Named R) (x : Pass Element) → P p s x → Q p s x) (front count : ℕ) (lent : ℕ → List (Option (Pass Element))) where
  held_as : (p : ℕ) (s : Named R) (o : Option (Pass Element)) → Holds (P p s) o → Holds (Q p s) o
  held_as p s None h = h
  held_as p s (Some x) h = gives p s x h

  at_as : (p : ℕ) (ss : List (Named R)) (os : List (Option (Pass Element))) → AtEach (λ s o. Holds (P p s) o) ss os → AtEach (λ s o. Holds (Q p s) o) ss os
  at_as p [] [] h = tt
  at_as p [] (o ∷ os) h = absurd h
  at_as p (s ∷ ss) [] h = absurd h
  at_as p (s ∷ ss) (o ∷ os) h = (held_as p s o h.0, at_as p ss os h.1)

  pub lent_as : (ss : List (Named R)) → AreLent P front count ss lent → AreLent Q front count ss lent
  lent_as ss h =
      record {
        counts = h.counts;
        others = λ p lt. at_as p ss (lent (front + p)) (h.others p lt);
        workers = λ q s is. let w = h.workers q s is in (w.0, w.1, gives count s w.0 w.2);
        first_none = h.first_none;
        last_none = h.last_none;
      }

-- where no squeue is lent, nothing is
pub none_lent_at_all : {R : Type 0} (P : ℕ → Named R → Pass Element → Type 0) (front count : ℕ) (lent : ℕ → List (Option (Pass Element))) → AreLent P front count [] lent → (i : ℕ) → lent i ≡ []
none_lent_at_all {R} P front count lent h i =
    elim (nat_or i front) [
      | inl a ↦ h.first_none i a
      | inr b ↦ elim (nat_or i (front + count)) [
        | inl c ↦ empty (λ s o. Holds (P (i - front) s) o) (lent i) (subst (λ (k : ℕ). AtEach (λ s o. Holds (P (i - front) s) o) [] (lent k)) (omega (arith, b)) (h.others (i - front) (omega (arith, b, c))))
        | inr d ↦ h.last_none i (omega (arith, d))
      ]
    ]
  where
    nat_or : (a b : ℕ) → (a < b) ⊎ (b ≤ a)
    nat_or zero zero = inr (omega arith)
    nat_or zero (suc b) = inl (omega arith)
    nat_or (suc a) zero = inr (omega arith)
    nat_or (suc a) (suc b) = elim (nat_or a b) [ inl h ↦ inl (omega (arith, h)) | inr h ↦ inr (omega (arith, h)) ]

    empty : {A : Type 0} (Q : Named R → A → Type 0) (os : List A) → AtEach Q [] os → os ≡ []
    empty Q [] h = refl
    empty Q (o ∷ os) h = absurd h
