-- Passes that nobody used are closed, and the workers work.
use Rattle.std.proofs.Common.{◌≡◌, ◌≢◌, ◌⊎◌, ℕ, zero, suc, ◌+◌, ◌<◌, ◌≤◌, Option, Some, None, List, [], ◌∷◌, length, slice_get, slice_index_or, slice_set, refl, ap, sym, ◌∙◌, subst, arith, inl, inr}
use Rattle.std.proofs.lemmas.Bool.{cases_eq}
use Rattle.turn_gate.specs.History.{Each}
use Rattle.turn_gate.specs.Passes.{number}
use Rattle.turn_gate.specs.declared.pass.Pass.{Pass}
use Rattle.perimeter_core.specs.Perimeter.{Idle}
use Rattle.perimeter_core.specs.History.{Element, Limits, Setting, start, run}
use Rattle.squeue_state.specs.Naming.{Named, setting_of}
use Rattle.squeue_serve.specs.Places.{Holds, Became, AtEach, AtEachTwo, IsNew, MayClose, HasClosed, MayWork, HasWorked, MayEnd}
use Rattle.squeue_serve.specs.Lending.{WorkersHold}
use Rattle.histories.proofs.ListPlaces.{open_flag}

-- at the start every pass is idle
pub start_idle : (S : Setting) (p : ℕ) → Idle (start S) p
start_idle S p =
    record {
      open_pass = open_flag (length S.quotas + 1) p;
      no_owner = λ e. cc e;
      not_granted = λ e. cc e;
      not_in_hand = refl;
      not_in_chain = refl;
    }

module _ {R : Type 0} (limits : R → Limits) (count : ℕ) where
  new_may_close : (s : Named R) (p : ℕ) (o : Option (Pass Element)) → p < count → length s.given.quotas ≡ count → Holds (IsNew p s) o → Holds (MayClose limits s) o
  new_may_close s p None lt n h = absurd h
  new_may_close s p (Some x) lt n h =
      record {
        pass = h.pass;
        other = omega (arith, h.is_number, lt, n);
        idle = subst (λ (H : List Element). Idle (run (setting_of limits s.given) H) (number x)) (sym h.none_seen) (start_idle (setting_of limits s.given) (number x));
      }

  pub all_may_close : (p : ℕ) (ss : List (Named R)) (os : List (Option (Pass Element))) → p < count → Each (λ (s : Named R). length s.given.quotas ≡ count) ss → AtEach (λ s o. Holds (IsNew p s) o) ss os → AtEach (λ s o. Holds (MayClose limits s) o) ss os
  all_may_close p [] [] lt n h = tt
  all_may_close p [] (o ∷ os) lt n h = absurd h
  all_may_close p (s ∷ ss) [] lt n h = absurd h
  all_may_close p (s ∷ ss) (o ∷ os) lt n h = (new_may_close s p o lt n.0 h.0, all_may_close p ss os lt n.1 h.1)

  closed_may_end : (s : Named R) (p : ℕ) (o n : Option (Pass Element)) → p < count → length s.given.quotas ≡ count → Holds (IsNew p s) o → Became (HasClosed limits s) o n → Holds (MayEnd limits p s) n
  closed_may_end s p None n lt e h b = absurd h
  closed_may_end s p (Some x) None lt e h b = absurd b
  closed_may_end s p (Some x) (Some y) lt e h b = record { pass = b.is_pass; is_number = b.same_number ∙ h.is_number; over = λ w. absurd (omega (arith, w, b.same_number, h.is_number, lt, e)) }

  pub all_may_end : (p : ℕ) (ss : List (Named R)) (os ns : List (Option (Pass Element))) → p < count → Each (λ (s : Named R). length s.given.quotas ≡ count) ss → AtEach (λ s o. Holds (IsNew p s) o) ss os
      → AtEachTwo (λ s o n. Became (HasClosed limits s) o n) ss os ns → AtEach (λ s o. Holds (MayEnd limits p s) o) ss ns
  all_may_end p [] [] [] lt e h b = tt
  all_may_end p [] [] (n ∷ ns) lt e h b = absurd b
  all_may_end p [] (o ∷ os) ns lt e h b = absurd h
  all_may_end p (s ∷ ss) [] ns lt e h b = absurd h
  all_may_end p (s ∷ ss) (o ∷ os) [] lt e h b = absurd b
  all_may_end p (s ∷ ss) (o ∷ os) (n ∷ ns) lt e h b = (closed_may_end s p o n lt e.0 h.0 b.0, all_may_end p ss os ns lt e.1 h.1 b.1)

pub each_at : {A : Type 0} (P : A → Type 0) (xs : List A) (k : ℕ) (x : A) → Each P xs → slice_get xs k ≡ Some x → P x
each_at P [] k x e is = cc is
each_at P (y ∷ xs) zero x e is = subst P (cc is) e.0
each_at P (y ∷ xs) (suc k) x e is = each_at P xs k x e.1 is

-- the jobs of the numbers below n have closed their passes, and the others are as they were
pub record ClosedBelow {R : Type 0} (limits : R → Limits) (front count n : ℕ) (ss : List (Named R)) (old now : ℕ → List (Option (Pass Element))) : Type 0 where
  pub closed : (p : ℕ) → p < n → AtEach (λ s o. Holds (MayEnd limits p s) o) ss (now (front + p))
  pub rest : (i : ℕ) → (i < front) ⊎ (front + n ≤ i) → now i ≡ old i

module _ {R : Type 0} (limits : R → Limits) (front count : ℕ) (ss : List (Named R)) (old now : ℕ → List (Option (Pass Element))) where
  pub none_closed : ClosedBelow limits front count 0 ss old old
  none_closed = record { closed = λ p lt. absurd (omega (arith, lt)); rest = λ i side. refl }

  pub one_closed : (n : ℕ) (next : ℕ → List (Option (Pass Element))) → n < count → Each (λ (s : Named R). length s.given.quotas ≡ count) ss → AtEach (λ s o. Holds (IsNew n s) o) ss (old (front + n)) → ClosedBelow limits front count n ss old now
      → AtEachTwo (λ s o m. Became (HasClosed limits s) o m) ss (now (front + n)) (next (front + n)) → ((k : ℕ) → k ≢ front + n → next k ≡ now k) → ClosedBelow limits front count (n + 1) ss old next
  one_closed n next lt counts new h changed others =
      record {
        closed = λ p le. elim (cases_eq p n) [
          | inl e ↦
              let same = subst (AtEach (λ s o. Holds (IsNew n s) o) ss) (sym (h.rest (front + n) (inr (omega arith)))) new in
              subst (λ (p : ℕ). AtEach (λ s o. Holds (MayEnd limits p s) o) ss (next (front + p))) (sym e) (all_may_end limits count n ss (now (front + n)) (next (front + n)) lt counts same changed)
          | inr apart ↦ subst (AtEach (λ s o. Holds (MayEnd limits p s) o) ss) (sym (others (front + p) (λ e. apart (omega (arith, e))))) (h.closed p (omega (arith, le, apart)))
        ];
        rest = λ i side. elim side [
          | inl a ↦ others i (λ e. absurd (omega (arith, e, a))) ∙ h.rest i (inl a)
          | inr b ↦ others i (λ e. absurd (omega (arith, e, b))) ∙ h.rest i (inr (omega (arith, b)))
        ];
      }

-- the workers of the squeues below n have worked, and the other jobs are as they were
pub record WorkedBelow {R : Type 0} (limits : R → Limits) (front count n : ℕ) (ss : List (Named R)) (old now : ℕ → List (Option (Pass Element))) : Type 0 where
  pub worked : (q : ℕ) (s : Named R) → q < n → slice_get ss q ≡ Some s → (x : Pass Element) × (now (front + count + q) ≡ Some x ∷ []) × MayEnd limits count s x
  pub rest : (i : ℕ) → (i < front + count) ⊎ (front + count + n ≤ i) → now i ≡ old i

module _ {R : Type 0} (limits : R → Limits) (front count : ℕ) (ss : List (Named R)) (old now : ℕ → List (Option (Pass Element))) where
  pub none_worked : WorkedBelow limits front count 0 ss old old
  none_worked = record { worked = λ q s lt. absurd (omega (arith, lt)); rest = λ i side. refl }

  pub may_work : (n : ℕ) (s : Named R) → slice_get ss n ≡ Some s → Each (λ (s : Named R). length s.given.quotas ≡ count) ss → WorkersHold IsNew front count ss old → WorkedBelow limits front count n ss old now
      → (x : Pass Element) × (now (front + count + n) ≡ Some x ∷ []) × MayWork limits s x
  may_work n s is counts new h =
      let w = new n s is in
      let c = each_at (λ (s : Named R). length s.given.quotas ≡ count) ss n s counts is in
      (w.0, h.rest (front + count + n) (inr (omega arith)) ∙ w.1, (w.2.pass, w.2.is_number ∙ sym c))

  pub one_worked : (n : ℕ) (s : Named R) (next : ℕ → List (Option (Pass Element))) → slice_get ss n ≡ Some s → Each (λ (s : Named R). length s.given.quotas ≡ count) ss → WorkersHold IsNew front count ss old → WorkedBelow limits front count n ss old now
      → ((x : Pass Element) × (y : Pass Element) × (now (front + count + n) ≡ Some x ∷ []) × (next (front + count + n) ≡ Some y ∷ []) × HasWorked limits s x y) → ((k : ℕ) → k ≢ front + count + n → next k ≡ now k)
      → WorkedBelow limits front count (n + 1) ss old next
  one_worked n s next is counts new h ran others =
      let w = may_work n s is counts new h in
      let was : ran.0 ≡ w.0 = cc (sym ran.2 ∙ w.1) in
      let done : MayEnd limits count s ran.1 = record {
        pass = ran.4.0.goes_on.is_pass;
        is_number = ran.4.0.goes_on.same_number ∙ (ap number was ∙ (w.2.1 ∙ each_at (λ (s : Named R). length s.given.quotas ≡ count) ss n s counts is));
        over = λ e. ran.4.1;
      } in
      record {
        worked = λ q t le at. elim (cases_eq q n) [
          | inl e ↦
              let same : s ≡ t = cc (sym is ∙ (ap (slice_get ss) (sym e) ∙ at)) in
              (ran.1, ap (λ (k : ℕ). next (front + count + k)) e ∙ ran.3, subst (λ (t : Named R). MayEnd limits count t ran.1) same done)
          | inr apart ↦ let v = h.worked q t (omega (arith, le, apart)) at in (v.0, others (front + count + q) (λ e. apart (omega (arith, e))) ∙ v.1, v.2)
        ];
        rest = λ i side. elim side [
          | inl a ↦ others i (λ e. absurd (omega (arith, e, a))) ∙ h.rest i (inl a)
          | inr b ↦ others i (λ e. absurd (omega (arith, e, b))) ∙ h.rest i (inr (omega (arith, b)))
        ];
      }

module _ {R : Type 0} (limits : R → Limits) (s : Named R) where
  got_worked : (x : Pass Element) (n : Option (Pass Element)) → Became (HasWorked limits s) (Some x) n → (y : Pass Element) × (n ≡ Some y) × HasWorked limits s x y
  got_worked x None h = absurd h
  got_worked x (Some y) h = (y, refl, h)

  -- the one place of a worker's job, before and after its work
  pub place_worked : (places : List (Option (Pass Element))) (o n : Option (Pass Element)) (x : Pass Element) (was now : List (Option (Pass Element))) → was ≡ places → was ≡ Some x ∷ [] → o ≡ slice_index_or places 0 o → now ≡ slice_set places 0 n → Became (HasWorked limits s) o n
      → (x : Pass Element) × (y : Pass Element) × (was ≡ Some x ∷ []) × (now ≡ Some y ∷ []) × HasWorked limits s x y
  place_worked places o n x was now a b at new ran =
      let one : places ≡ Some x ∷ [] = sym a ∙ b in
      let first : o ≡ Some x = at ∙ ap (λ l. slice_index_or l 0 o) one in
      let r = got_worked x n (subst (λ (p : Option (Pass Element)). Became (HasWorked limits s) p n) first ran) in
      (x, r.0, b, new ∙ (ap (λ l. slice_set l 0 n) one ∙ ap (λ (p : Option (Pass Element)). p ∷ []) r.1), r.2)

pub moved_two : {R A : Type 0} (P : Named R → A → A → Type 0) (ss : List (Named R)) (was now old new : List A) → was ≡ old → now ≡ new → AtEachTwo P ss old new → AtEachTwo P ss was now
moved_two P ss was now old new a b h = subst (λ os. AtEachTwo P ss os now) (sym a) (subst (λ ns. AtEachTwo P ss old ns) (sym b) h)
