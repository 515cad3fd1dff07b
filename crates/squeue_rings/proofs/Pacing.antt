-- What a ring's marks keep, over the parts of a history.
use Rattle.std.proofs.Common.{◌≡◌, ◌≢◌, ℕ, Bool, if◌then◌else◌, inl, inr, Option, None, List, [], ◌∷◌, ◌++◌, refl, ap, sym, ◌∙◌, subst, append_assoc}
use Rattle.std.proofs.lemmas.Bool.{cases_eq, eq-eqb, ne_eqb}
use Rattle.std.proofs.lemmas.List.{append-nil}
use Rattle.turn_gate.specs.History.{Each}
use Rattle.perimeter_core.specs.History.{Element, Setting, pass_of, made_by}
use Rattle.histories.specs.declared.mode.Mode.{Mode}
use Rattle.squeue_rings.specs.Paced.{IsPaced, OfRing}
use Rattle.histories.specs.Keeping.{Keeps, KeepsFrom, KeepsPace, taken, taken_after}
use Rattle.squeue_rings.specs.OwnMarks.{EachOwn}
use Rattle.squeue_rings.proofs.OwnMarks.{other_made, own_join, own_made}
use Rattle.histories.proofs.Keeping.{taken_join}

module _ (S : Setting) (r : ℕ) where
  taken_own : (past : List Element) (o : Option ℕ) (e : Element) → pass_of e.mark ≡ r → taken S r past ≡ o → taken S r (past ++ e ∷ []) ≡ taken_after S past o e.mark
  taken_own past o e own is =
      taken_join S r [] None past (e ∷ [])
      ∙ (ap (λ (b : Bool). if b then taken_after S past (taken S r past) e.mark else taken S r past) (eq-eqb (pass_of e.mark) r own)
      ∙ ap (λ (t : Option ℕ). taken_after S past t e.mark) is)

  taken_other : (past : List Element) (o : Option ℕ) (e : Element) → pass_of e.mark ≢ r → taken S r past ≡ o → taken S r (past ++ e ∷ []) ≡ o
  taken_other past o e other is =
      taken_join S r [] None past (e ∷ [])
      ∙ (ap (λ (b : Bool). if b then taken_after S past (taken S r past) e.mark else taken S r past) (ne_eqb (pass_of e.mark) r other) ∙ is)

module _ (squeues spread : ℕ) (mode : Mode) (budget q : ℕ) (S : Setting) (r : ℕ) where
  keeps_join : (past H K : List Element) → KeepsFrom squeues spread mode budget q S r past H → KeepsFrom squeues spread mode budget q S r (past ++ H) K → KeepsFrom squeues spread mode budget q S r past (H ++ K)
  keeps_join past [] K a b = subst (λ (P : List Element). KeepsFrom squeues spread mode budget q S r P K) (append-nil past) b
  keeps_join past (e ∷ H) K a b =
      (a.0, keeps_join (past ++ e ∷ []) H K a.1 (subst (λ (P : List Element). KeepsFrom squeues spread mode budget q S r P K) (sym (append_assoc past (e ∷ []) H)) b))

  -- the element keeps the pace, and its mark is the one for what its turn found
  abbrev pub IsRight : List Element → Element → Type 0
  IsRight past e = Keeps squeues spread mode budget q S r past e × OfRing mode S r past e.mark

  -- behind this past each mark of the ring in K is right so, and afterwards the ring has taken the perimeter so
  pub record Paces (past K : List Element) (o : Option ℕ) : Type 0 where
    pub keeps : KeepsFrom squeues spread mode budget q S r past K
    pub exact : EachOwn (OfRing mode S r) r past K
    pub now : taken S r (past ++ K) ≡ o

  pub paces_join : (past H K : List Element) (o p : Option ℕ) → Paces past H o → Paces (past ++ H) K p → Paces past (H ++ K) p
  paces_join past H K o p a b = record { keeps = keeps_join past H K a.keeps b.keeps; exact = own_join (OfRing mode S r) r past H K a.exact b.exact; now = ap (taken S r) (sym (append_assoc past H K)) ∙ b.now }

  -- one mark of its own
  pub paces_one : (past : List Element) (o p : Option ℕ) (e : Element) → pass_of e.mark ≡ r → taken S r past ≡ o → IsRight past e → taken_after S past o e.mark ≡ p → Paces past (e ∷ []) p
  paces_one past o p e own is k after = record { keeps = (λ _. k.0, tt); exact = (λ _. k.1, tt); now = taken_own S r past o e own is ∙ after }

  -- where each mark of its own is right and changes nothing, all of them are
  module _ (o : Option ℕ) (P : Element → Type 0) (step : (past : List Element) (e : Element) → taken S r past ≡ o → P e → IsRight past e × (taken_after S past o e.mark ≡ o)) where
    pub paces_all : (past K : List Element) → taken S r past ≡ o → Each P (made_by r K) → Paces past K o
    paces_all past [] is each = record { keeps = tt; exact = tt; now = ap (taken S r) (append-nil past) ∙ is }
    paces_all past (e ∷ K) is each =
        elim (cases_eq (pass_of e.mark) r) [
          | inl own ↦
              let h : Each P (e ∷ made_by r K) = subst (Each P) (own_made r e K own) each in
              let one = step past e is h.0 in
              let rest = paces_all (past ++ e ∷ []) K (taken_own S r past o e own is ∙ one.1) h.1 in
              record { keeps = (λ _. one.0.0, rest.keeps); exact = (λ _. one.0.1, rest.exact); now = ap (taken S r) (sym (append_assoc past (e ∷ []) K)) ∙ rest.now }
          | inr other ↦
              let h : Each P (made_by r K) = subst (Each P) (other_made r e K other) each in
              let rest = paces_all (past ++ e ∷ []) K (taken_other S r past o e other is) h in
              record { keeps = (λ own. absurd (other own), rest.keeps); exact = (λ own. absurd (other own), rest.exact); now = ap (taken S r) (sym (append_assoc past (e ∷ []) K)) ∙ rest.now }
        ]

  -- what others make changes nothing
  pub paces_others : (past K : List Element) (o : Option ℕ) → taken S r past ≡ o → made_by r K ≡ [] → Paces past K o
  paces_others past K o is none = paces_all o (λ e. ⊥) (λ past e is no. absurd no) past K is (subst (Each (λ (e : Element). ⊥)) (sym none) tt)

  pub keeps_on : (H K : List Element) → KeepsPace squeues spread mode budget q S r H → made_by r K ≡ [] → KeepsPace squeues spread mode budget q S r (H ++ K)
  keeps_on H K k none = keeps_join [] H K k (paces_others H K (taken S r H) refl none).keeps

  pub paced : (H : List Element) → Paces [] H None → IsPaced squeues spread mode budget q S r H
  paced H p = record { keeps = p.keeps; exact = p.exact; not_taken = p.now }

  pub paces : (H : List Element) → IsPaced squeues spread mode budget q S r H → Paces [] H None
  paces H p = record { keeps = p.keeps; exact = p.exact; now = p.not_taken }
