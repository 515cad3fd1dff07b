-- Which calls a try to make one adds to those that its thread has made.
use Rattle.std.proofs.Common.{◌≡◌, ℕ, ◌+◌, ◌==◌, ◌&&◌, inl, inr, Bool, true, false, if◌then◌else◌, List, [], ◌∷◌, refl, ap, sym, ◌∙◌, subst, arith}
use Rattle.std.proofs.lemmas.Bool.{eq-eqb}
use Rattle.turn_gate.specs.Passes.{IsPassOf, mine, number, seen}
use Rattle.turn_gate.specs.declared.pass.Pass.{Pass}
use Rattle.perimeter_core.specs.declared.marks.SynchAct.{SynchAct}
use Rattle.perimeter_core.specs.declared.marks.SynchAct.TheVariants as Done
use Rattle.perimeter_core.specs.Perimeter.{is_free}
use Rattle.perimeter_core.specs.History.{Element, Limits, made_by, run}
use Rattle.perimeter_core.specs.Legal.{Legal}
use Rattle.squeue_state.proofs.Makers.{only_made}
use Rattle.squeue_state.specs.Naming.{Named, setting_of}
use Rattle.histories.specs.Elements.{left_by_pass, number_of}
use Rattle.synch_enter.specs.Synch.{IsWay}
use Rattle.conn_migrate.specs.Moving.{Moved}
use Rattle.squeue_rings.specs.Made.{times_made}
use Rattle.squeue_rings.specs.Calling.{HasTried}
use Rattle.squeue_rings.proofs.CallMarks.{made_more, own_calls}

-- to come a pass makes no call
way_calls_nothing : (p d j m : ℕ) (free : Bool) (ask : Element) (marks : List Element) → IsWay free p ask marks → times_made d j m (ask ∷ marks) ≡ 0
way_calls_nothing p d j m false ask marks w = rw (w.0, w.1) refl
way_calls_nothing p d j m true ask marks w =
    elim w.1 [
      | inl none ↦ rw (w.0, none) refl
      | inr hands ↦ rw (w.0, hands.3) refl
    ]

module _ {R : Type 0} (limits : R → Limits) (s : Named R) (j : ℕ) where
  -- the calls of the pass's thread are those among its own elements
  calls_in_mine : (x : Pass Element) (d m : ℕ) → IsPassOf number_of s.gate x → number x ≡ s.given.rings + j → Legal (setting_of limits s.given) (seen x)
      → times_made d j m (seen x) ≡ times_made d j m (mine x)
  calls_in_mine x d m pass is legal =
      let own : made_by (s.given.rings + j) (seen x) ≡ mine x =
      subst (λ (p : ℕ). made_by p (seen x) ≡ mine x) is (sym (only_made (number x) (seen x)) ∙ pass.2) in
      own_calls (setting_of limits s.given) (seen x) d j m legal ∙ ap (times_made d j m) own

  module _ (x y : Pass Element) (pass : IsPassOf number_of s.gate x) (is : number x ≡ s.given.rings + j)
      (legal : Legal (setting_of limits s.given) (seen x)) where
    -- the pass came to be owner and left with an act: what it made is what the act makes
    moved_makes : (act : SynchAct) → Moved limits s act [] x y → (d m : ℕ)
        → times_made d j m (seen y) ≡ times_made d j m (seen x) + times_made d j m (left_by_pass (number x) 0 act [] ∷ [])
    moved_makes act v d m =
        let b = v.came.behind in
        let before = calls_in_mine x d m pass is legal in
        let now = calls_in_mine y d m v.goes_on.is_pass (v.goes_on.same_number ∙ is) v.goes_on.legal in
        let left = ap (times_made d j m) v.left.now_mine ∙ made_more d j m (mine v.owner) (left_by_pass (number x) 0 act [] ∷ []) in
        let came = ap (times_made d j m) b.now_mine ∙ made_more d j m (mine x) (b.ask ∷ b.marks) in
        let none = way_calls_nothing (number x) d j m (is_free (run (setting_of limits s.given) v.came.found).own) b.ask b.marks b.way in
        omega (arith, before, now, left, came, none)

    -- the call was made: once more, and no other
    pub one_call : (c k : ℕ) → HasTried limits s true c j k x y → (d m : ℕ)
        → times_made d j m (seen y) ≡ times_made d j m (seen x) + (if (c == d) && (k == m) then 1 else 0)
    one_call c k v d m = let e = moved_makes (Done.Call c j k) v d m in by (c == d) (k == m) (j == j) (eq-eqb j j refl) e
      where
        by : (a b t : Bool) → t ≡ true → times_made d j m (seen y) ≡ times_made d j m (seen x) + ((if a && (t && b) then 1 else 0) + 0)
            → times_made d j m (seen y) ≡ times_made d j m (seen x) + (if a && b then 1 else 0)
        by true true true is e = omega (arith, e)
        by true false true is e = omega (arith, e)
        by false true true is e = omega (arith, e)
        by false false true is e = omega (arith, e)
        by a b false is e = cc is

    -- it wasn't, and no other was
    pub no_call : (c k : ℕ) → HasTried limits s false c j k x y → (d m : ℕ) → times_made d j m (seen y) ≡ times_made d j m (seen x)
    no_call c k (inl away) d m =
        let before = calls_in_mine x d m pass is legal in
        let now = calls_in_mine y d m away.goes_on.is_pass (away.goes_on.same_number ∙ is) away.goes_on.legal in
        now ∙ (ap (times_made d j m) away.same_mine ∙ sym before)
    no_call c k (inr gone) d m = let e = moved_makes Done.Away gone.moved d m in omega (arith, e)
