-- The end of a squeue.
use Rattle.std.proofs.Common.{◌≡◌, inl, inr, if◌then◌else◌, ℕ, Bool, List, [], ◌∷◌, map, sym, ap, ◌∙◌, subst, Some, length}
use Rattle.std.proofs.lemmas.List.{append-nil}
use Rattle.std.proofs.lemmas.Bool.{cases_eq, eq-eqb, ne_eqb}
use Rattle.turn_gate.specs.History.{Begins, Each, Has}
use Rattle.turn_gate.specs.Passes.{number, seen}
use Rattle.turn_gate.specs.declared.pass.Pass.{Pass}
use Rattle.perimeter_core.specs.declared.resident.Resident.{Ghosts}
use Rattle.perimeter_core.specs.declared.marks.Own.TheVariants.{Free}
use Rattle.perimeter_core.specs.History.{Element, Setting, run}
use Rattle.perimeter_core.specs.Legal.{Legal}
use Rattle.perimeter_core.specs.Ending.{IsOver}
use Rattle.perimeter_core.specs.Blocks.{peri}
use Rattle.perimeter_core.proofs.TheEnd.{final}
use Rattle.squeue_state.specs.Told.{marks_of}
use Rattle.squeue_state.specs.declared.guarded.Guarded.{Guarded}
use Rattle.squeue_state.specs.Naming.{Given, Named, setting_of}
use Rattle.squeue_state.specs.Endings.{seen_by}
use Rattle.squeue_state.specs.Behind.{Behind, Noted, IsPeri}
use Rattle.squeue_state.specs.Clauses.{HasSeenEnd, Knows}
use Rattle.squeue_state.proofs.Turns.{lies_free, some_free}

each_both : (P Q : Pass Element → Type 0) (ps : List (Pass Element)) → Each P ps → Each Q ps → Each (λ p. P p × Q p) ps
each_both P Q [] a b = tt
each_both P Q (p ∷ ps) a b = ((a.0, b.0), each_both P Q ps a.1 b.1)

-- the pass of a number, among passes of which each meets Q
at_number : (Q : Pass Element → Type 0) (w : ℕ) (ps : List (Pass Element)) → Has (λ p. number p ≡ w) ps → Each Q ps → (p : Pass Element) × (number p ≡ w) × (seen_by w ps ≡ seen p) × Q p
at_number Q w [] h e = absurd h
at_number Q w (p ∷ ps) h e =
    elim (cases_eq (number p) w) [
      | inl same ↦ (p, same, ap (λ (b : Bool). if b then seen p else seen_by w ps) (eq-eqb (number p) w same), e.0)
      | inr other ↦
          let rest : Has (λ q. number q ≡ w) ps = elim h [ inl same ↦ absurd (other same) | inr more ↦ more ] in
          let r = at_number Q w ps rest e.1 in
          (r.0, r.1, ap (λ (b : Bool). if b then seen p else seen_by w ps) (ne_eqb (number p) w other) ∙ r.2, r.3)
    ]

-- what the worker saw last is the whole history
ended_is : (S : Setting) (a story : List Element) → IsOver S (run S a) → Legal S story → Begins a story → story ≡ a
ended_is S a story end l (([]), e) = e ∙ append-nil a
ended_is S a story end l ((x ∷ rest), e) = absurd (final S a rest x end (subst (Legal S) e l))

module _ {R P O : Type 0} (G : Ghosts R P O) where
  pub record Over (g : Given R) (v : Guarded R) (H : List Element) (ps : List (Pass Element)) : Type 0 where
    pub legal : Legal (setting_of G.limits g) H
    pub ended : IsOver (setting_of G.limits g) (run (setting_of G.limits g) H)
    pub passes : Each (Knows H) ps
    pub resident : (x : R) × (v.inner.resident ≡ Some x) × IsPeri G g x (peri (setting_of G.limits g) H)
    pub trace : marks_of v.trace ≡ (if g.traced then map (λ e. e.mark) H else [])

  pub finished : (t s : Named R) (v : Guarded R) (ps : List (Pass Element)) (story : List Element) → t ≡ s → Has (λ p. number p ≡ length s.given.quotas) ps → Each (HasSeenEnd (setting_of G.limits s.given)) ps
      → Behind G t.given v.inner story × Noted t.given v.traced v.trace story → Each (Knows story) ps → Over s.given v (seen_by (length s.given.quotas) ps) ps
  finished t s v ps story ts has over stood each =
      let S : Setting = setting_of G.limits s.given in
      let w = at_number (λ p. HasSeenEnd S p × Knows story p) (length s.given.quotas) ps has (each_both (HasSeenEnd S) (Knows story) ps over each) in
      let H : List Element = seen_by (length s.given.quotas) ps in
      let b : Behind G s.given v.inner story = subst (λ (x : Named R). Behind G x.given v.inner story) ts stood.0 in
      let n : Noted s.given v.traced v.trace story = subst (λ (x : Named R). Noted x.given v.traced v.trace story) ts stood.1 in
      let end : IsOver S (run S (seen w.0)) = w.3.0 w.1 in
      let e : story ≡ H = ended_is S (seen w.0) story end b.legal w.3.1.0 ∙ sym w.2 in
      let c : Behind G s.given v.inner H = subst (λ (h : List Element). Behind G s.given v.inner h) e b in
      let over_now : IsOver S (run S H) = subst (λ (h : List Element). IsOver S (run S h)) (sym w.2) end in
      let free : v.inner.own ≡ Free = c.own ∙ over_now.free in
      let x = some_free G s.given v.inner.own v.inner.resident (peri S H) c.resident free in
      record {
        legal = c.legal;
        ended = over_now;
        passes = subst (λ (h : List Element). Each (Knows h) ps) e each;
        resident = (x.0, x.1, lies_free G s.given v.inner.own v.inner.resident x.0 (peri S H) c.resident free x.1);
        trace = n.marks ∙ (ap (λ (b' : Bool). if b' then map (λ (y : Element). y.mark) story else []) n.same ∙ ap (λ (h : List Element). if s.given.traced then map (λ (y : Element). y.mark) h else []) e);
      }

pub some_is : {A : Type 0} {x y : A} → Some x ≡ Some y → x ≡ y
some_is e = cc e
