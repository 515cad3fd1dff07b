-- What is so of each mark of a pass, over the parts of a history.
use Rattle.std.proofs.Common.{◌≡◌, ◌≢◌, ℕ, inl, inr, List, [], ◌∷◌, ◌++◌, refl, sym, subst, append_assoc}
use Rattle.std.proofs.lemmas.Bool.{cases_eq, eq-eqb, ne_eqb}
use Rattle.std.proofs.lemmas.List.{append-nil}
use Rattle.turn_gate.specs.History.{Each}
use Rattle.perimeter_core.specs.declared.marks.Mark.{Mark}
use Rattle.perimeter_core.specs.History.{Element, Setting, made_by, pass_of}
use Rattle.squeue_drain.specs.Working.{OnlyLeavesNothing}
use Rattle.squeue_rings.specs.OwnMarks.{EachOwn, OfWorker}

pub own_made : (r : ℕ) (e : Element) (K : List Element) → pass_of e.mark ≡ r → made_by r (e ∷ K) ≡ e ∷ made_by r K
own_made r e K own = rw (eq-eqb (pass_of e.mark) r own) refl

pub other_made : (r : ℕ) (e : Element) (K : List Element) → pass_of e.mark ≢ r → made_by r (e ∷ K) ≡ made_by r K
other_made r e K other = rw (ne_eqb (pass_of e.mark) r other) refl

module _ (P : List Element → Mark → Type 0) (p : ℕ) where
  pub own_join : (past H K : List Element) → EachOwn P p past H → EachOwn P p (past ++ H) K → EachOwn P p past (H ++ K)
  own_join past [] K a b = subst (λ (G : List Element). EachOwn P p G K) (append-nil past) b
  own_join past (e ∷ H) K a b =
      (a.0, own_join (past ++ e ∷ []) H K a.1 (subst (λ (G : List Element). EachOwn P p G K) (sym (append_assoc past (e ∷ []) H)) b))

  -- where it is so of each own mark whatever stands before
  pub own_all : (Q : Element → Type 0) → ((past : List Element) (e : Element) → Q e → P past e.mark) → (past K : List Element) → Each Q (made_by p K) → EachOwn P p past K
  own_all Q so past [] each = tt
  own_all Q so past (e ∷ K) each =
      elim (cases_eq (pass_of e.mark) p) [
        | inl own ↦
            let h : Each Q (e ∷ made_by p K) = subst (Each Q) (own_made p e K own) each in
            (λ _. so past e h.0, own_all Q so (past ++ e ∷ []) K h.1)
        | inr other ↦
            let h : Each Q (made_by p K) = subst (Each Q) (other_made p e K other) each in
            (λ own. absurd (other own), own_all Q so (past ++ e ∷ []) K h)
      ]

  -- what others make counts for nothing
  pub own_others : (past K : List Element) → made_by p K ≡ [] → EachOwn P p past K
  own_others past K none = own_all (λ e. ⊥) (λ past e no. absurd no) past K (subst (Each (λ (e : Element). ⊥)) (sym none) tt)

  pub own_on : (H K : List Element) → EachOwn P p [] H → made_by p K ≡ [] → EachOwn P p [] (H ++ K)
  own_on H K own none = own_join [] H K own (own_others H K none)

-- the same of a worker, by what it did
pub worker_own : (S : Setting) (p : ℕ) (past K : List Element) → OnlyLeavesNothing S p past K → EachOwn (OfWorker S) p past K
worker_own S p past [] left = tt
worker_own S p past (e ∷ K) left = (left.0, worker_own S p (past ++ e ∷ []) K left.1)
