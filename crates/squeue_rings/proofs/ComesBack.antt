-- What comes back of squeues that end one after another, the last one first, while the first ones are still lent.
use Rattle.std.proofs.Common.{◌≡◌, ℕ, ◌+◌, ◌<◌, zero, suc, Option, Some, List, [], ◌∷◌, ◌++◌, length, length-append, append_assoc, slice_get, ap, sym, ◌∙◌, subst, arith}
use Rattle.std.proofs.lemmas.List.{append-nil}
use Rattle.turn_gate.specs.History.{Each}
use Rattle.turn_gate.specs.declared.pass.Pass.{Pass}
use Rattle.perimeter_core.specs.declared.resident.Resident.{Ghosts}
use Rattle.perimeter_core.specs.History.{Element, Limits}
use Rattle.squeue_state.specs.Naming.{Named}
use Rattle.histories.specs.Endings.{Ending}
use Rattle.squeue_state.specs.Clauses.{Knows}
use Rattle.squeue_state.specs.Told.{Traced}
use Rattle.squeue_serve.specs.Lending.{AreLent, HasCome}
use Rattle.squeue_serve.specs.Places.{Holds, MayEnd}
use Rattle.squeue_serve.proofs.Coming.{holds_other, less_lent}
use Rattle.squeue_serve.proofs.Lent.{get_end}
use Rattle.squeue_serve.proofs.Unused.{each_at}
use Rattle.squeue_rings.proofs.Slots.{at_length}

pub each_last : {A : Type 0} (P : A → Type 0) (xs : List A) (x : A) → Each P (xs ++ x ∷ []) → Each P xs × P x
each_last P [] x h = (tt, h.0)
each_last P (y ∷ xs) x h = let r = each_last P xs x h.1 in ((h.0, r.0), r.1)

module _ {R : Type 0} (limits : R → Limits) (front count : ℕ) (ss : List (Named R)) (lent0 : ℕ → List (Option (Pass Element))) where
  -- those behind `left` have come back: each job's places begin with those that are still lent
  pub record AreBack (left back : List (Named R)) (lent : ℕ → List (Option (Pass Element))) : Type 0 where
    pub is : ss ≡ left ++ back
    pub fronts : (p : ℕ) → p < count → (tail : List (Option (Pass Element))) × (lent0 (front + p) ≡ lent (front + p) ++ tail)
    pub still : AreLent (MayEnd limits) front count left lent

  pub none_came : AreLent (MayEnd limits) front count ss lent0 → AreBack ss [] lent0
  none_came lent = record { is = sym (append-nil ss); fronts = λ p lt. ([], sym (append-nil (lent0 (front + p)))); still = lent }

  pub all_came : (left back : List (Named R)) (lent : ℕ → List (Option (Pass Element))) → left ≡ [] → AreBack left back lent → ss ≡ back
  all_came left back lent none h = h.is ∙ ap (λ (l : List (Named R)). l ++ back) none

module _ {R P O : Type 0} (G : Ghosts R P O) (front count : ℕ) (ss : List (Named R)) (lent0 : ℕ → List (Option (Pass Element))) (all left back : List (Named R)) (s : Named R) (having without : ℕ → List (Option (Pass Element)))
    (r : R) (e : Ending) (t : Traced) (split : all ≡ left ++ s ∷ []) (h : AreBack G.limits front count ss lent0 all back having) (come : HasCome G front count (length left) s having without r e t) where
  lent_all : AreLent (MayEnd G.limits) front count (left ++ s ∷ []) having
  lent_all = subst (λ (l : List (Named R)). AreLent (MayEnd G.limits) front count l having) split h.still

  lent_less : AreLent (MayEnd G.limits) front count left without
  lent_less = less_lent (MayEnd G.limits) front count left s come.passes without having come.handed lent_all

  -- the pass of each number that came back
  handed : (p : ℕ) → p < count → (x : Pass Element) × (slice_get come.passes p ≡ Some x) × (having (front + p) ≡ without (front + p) ++ Some x ∷ [])
  handed p lt =
      let a = come.handed.each p (omega (arith, lt)) in
      (a.0, a.1, subst (λ (i : ℕ). having i ≡ without i ++ Some a.0 ∷ []) (holds_other front count (length left) p lt) a.2)

  tails : (p : ℕ) (lt : p < count) → lent0 (front + p) ≡ without (front + p) ++ Some (handed p lt).0 ∷ (h.fronts p lt).0
  tails p lt = (h.fronts p lt).1 ∙ (ap (λ l. l ++ (h.fronts p lt).0) (handed p lt).2 ∙ append_assoc (without (front + p)) (Some (handed p lt).0 ∷ []) (h.fronts p lt).0)

  -- it lay behind those of the squeues before, and has seen a beginning of the history
  pub came_knows : (p : ℕ) → p < count → (x : Pass Element) × (slice_get (lent0 (front + p)) (length left) ≡ Some (Some x)) × Knows e.history x
  came_knows p lt =
      let x = handed p lt in
      let n : length left ≡ length (without (front + p)) = sym (at_length (λ s o. Holds (MayEnd G.limits p s) o) left (without (front + p)) (lent_less.others p lt)) in
      (x.0, ap (λ l. slice_get l (length left)) (tails p lt) ∙ get_end (without (front + p)) (h.fronts p lt).0 (Some x.0) (length left) n, each_at (Knows e.history) come.passes p x.0 come.knows x.1)

  pub one_came : AreBack G.limits front count ss lent0 left (s ∷ back) without
  one_came =
      record {
        is = h.is ∙ (ap (λ (l : List (Named R)). l ++ back) split ∙ append_assoc left (s ∷ []) back);
        fronts = λ p lt. (Some (handed p lt).0 ∷ (h.fronts p lt).0, tails p lt);
        still = lent_less;
      }

-- what is so of those that have come back, by number, and of the one before them, is so of all of these
module _ {R X : Type 0} (P : ℕ → Named R → X → Type 0) (all left back : List (Named R)) (s : Named R) (xs : List X) (x : X) (split : all ≡ left ++ s ∷ []) where
  pub each_behind : P (length left) s x → ((i : ℕ) (u : Named R) (y : X) → slice_get back i ≡ Some u → slice_get xs i ≡ Some y → P (length all + i) u y)
      → (i : ℕ) (u : Named R) (y : X) → slice_get (s ∷ back) i ≡ Some u → slice_get (x ∷ xs) i ≡ Some y → P (length left + i) u y
  each_behind here each zero u y is at =
      let a : s ≡ u = cc is in
      let b : x ≡ y = cc at in
      let n : length left ≡ length left + 0 = omega arith in
      subst (λ (q : ℕ). P q u y) n (subst (λ (u : Named R). P (length left) u y) a (subst (λ (y : X). P (length left) s y) b here))
  each_behind here each (suc i) u y is at =
      let m = length-append left (s ∷ []) in
      let k : length all ≡ length (left ++ s ∷ []) = ap length split in
      let n : length all + i ≡ length left + suc i = omega (arith, m, k) in
      subst (λ (q : ℕ). P q u y) n (each i u y is at)
