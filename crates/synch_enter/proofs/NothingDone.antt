-- An owner at its Ask that leaves with nothing done, and may have changed how its resident keeps what it stands for.
use Rattle.std.proofs.Common.{◌≡◌, ℕ, ◌+◌, ◌==◌, ◌⊎◌, inl, inr, Bool, true, false, List, [], ◌∷◌, ◌++◌, length, refl, ap, sym, ◌∙◌, subst, arith, append_assoc}
use Rattle.std.proofs.lemmas.Bool.Decides.{nat_tests}
use Rattle.turn_gate.specs.Passes.{IsPassOf, number, seen, mine}
use Rattle.turn_gate.specs.declared.pass.Pass.{Pass}
use Rattle.perimeter_core.specs.declared.resident.Resident.{Ghosts}
use Rattle.perimeter_core.specs.declared.marks.SynchAct.{SynchAct}
use Rattle.perimeter_core.specs.Perimeter.{is_free}
use Rattle.perimeter_core.specs.History.{Element, Limits, Setting, made_by, run}
use Rattle.perimeter_core.specs.Legal.{asks_by}
use Rattle.perimeter_core.specs.Blocks.{Blocks, peri}
use Rattle.perimeter_core.proofs.BlocksFollow.{peri_push}
use Rattle.perimeter_core.proofs.OwnCounts.{own_counts}
use Rattle.squeue_state.specs.Naming.{Given, Named, Turned, setting_of}
use Rattle.squeue_state.specs.Behind.{IsPeri}
use Rattle.histories.specs.Elements.{ask_claimed_by, left_by_pass, number_of}
use Rattle.squeue_state.specs.Clauses.{Found, Marked, peri_left}
use Rattle.squeue_state.proofs.Makers.{only_made}
use Rattle.squeue_enter.proofs.Carrying.{by_append}
use Rattle.squeue_drain.specs.declared.owner.Owner.{Owner}
use Rattle.squeue_drain.specs.Draining.{GoesOn}
use Rattle.squeue_drain.proofs.Deciding.{begins_trans}
use Rattle.synch_enter.specs.Synch.{Came, HandsOn, IsWay, StandsAtItsAsk}
use Rattle.synch_enter.proofs.Exiting.{at, exits}

-- what a pass makes to come and to leave again has one Ask
one_claim : (p rest : ℕ) (act : SynchAct) (marks : List Element) → (marks ≡ []) ⊎ HandsOn p marks → asks_by p ((ask_claimed_by p ∷ marks) ++ left_by_pass p rest act [] ∷ []) ≡ 1
one_claim p rest act marks (inl none) = let b : (p == p) ≡ true = grind (arith, nat_tests) in rw (none, b) refl
one_claim p rest act marks (inr hands) = let b : (p == p) ≡ true = grind (arith, nat_tests) in rw (hands.3, b) refl

one_ask : (p rest : ℕ) (act : SynchAct) (free : Bool) (ask : Element) (marks : List Element) → IsWay free p ask marks → asks_by p ((ask ∷ marks) ++ left_by_pass p rest act [] ∷ []) ≡ 1
one_ask p rest act false ask marks w = let b : (p == p) ≡ true = grind (arith, nat_tests) in rw (w.0, w.1, b) refl
one_ask p rest act true ask marks w = rw w.0 (one_claim p rest act marks w.1)

made_of : {R : Type 0} (s : Named R) (p : Pass Element) → IsPassOf number_of s.gate p → made_by (number p) (seen p) ≡ mine p
made_of s p is = sym (only_made (number p) (seen p)) ∙ is.2

-- one after another
pub both_on : {R : Type 0} (limits : R → Limits) (s : Named R) (from at to : Pass Element) → GoesOn limits s from at → GoesOn limits s at to → GoesOn limits s from to
both_on limits s from at to a b =
    record { is_pass = b.is_pass; same_number = b.same_number ∙ a.same_number; grows = begins_trans (seen from) (seen at) (seen to) a.grows b.grows; legal = b.legal }

-- a resident that was changed and stands for whatever it stood for is the squeue's still
pub still : {R P O : Type 0} (G : Ghosts R P O) (g : Given R) {was is : R} {blocks : Blocks} → ((b : Blocks) → G.stands was b → G.stands is b) → G.limits is ≡ G.limits was → G.size is ≡ G.size was
    → G.origin is ≡ G.origin was → IsPeri G g was blocks → IsPeri G g is blocks
still G g {was} {is} {blocks} stands limits size origin p =
    record { stands_for = stands blocks p.stands_for; same_limits = limits ∙ p.same_limits; same_size = size ∙ p.same_size; same_origin = origin ∙ p.same_origin }

pub stands_for_some : {R P O : Type 0} (G : Ghosts R P O) (s : Named R) (o : Owner R) → StandsAtItsAsk G s [] o → (blocks : Blocks) × G.stands o.resident blocks
stands_for_some G s o is = (peri_left G.limits s.given (seen o.pass) o.hand o.act [], is.owns.resident.stands_for)

module _ {R P O : Type 0} (G : Ghosts R P O) (s : Named R) (o : Owner R) (u : Turned R) (q : Pass Element) (is : StandsAtItsAsk G s [] o) (f : Found G.limits s o.pass u)
    (m : Marked u (left_by_pass u.number (length o.hand.left) o.act []) q) where
  -- what the owner had is what the history did
  pub stands_now : IsPeri G s.given o.resident (peri (setting_of G.limits s.given) (seen q))
  stands_now =
      let S : Setting = setting_of G.limits s.given in
      let e : Element = left_by_pass u.number (length o.hand.left) o.act [] in
      let same : peri S (seen q) ≡ peri_left G.limits s.given u.found o.hand o.act [] = ap (peri S) m.now_seen ∙ peri_push S u.found e (exits G s [] o u is f) in
      subst (λ (blocks : Blocks). IsPeri G s.given o.resident blocks) (sym same) (at G s [] o u is f).resident

  -- and it has asked once
  pub asked_once : (from : Pass Element) → IsPassOf number_of s.gate from → Came G.limits s from o.pass → asks_by (number from) (seen q) ≡ asks_by (number from) (seen from) + 1
  asked_once from was came =
      let p : ℕ = number from in
      let same : number o.pass ≡ p = came.goes_on.same_number in
      let e : Element = left_by_pass u.number (length o.hand.left) o.act [] in
      let way = came.behind.way in
      let own = (came.behind.ask ∷ came.behind.marks) ++ left_by_pass p (length o.hand.left) o.act [] ∷ [] in
      let turned : u.number ≡ p = f.same_number ∙ same in
      let now : mine q ≡ mine from ++ own =
      m.now_mine ∙ (ap (λ (xs : List Element). xs ++ e ∷ []) (f.same_mine ∙ came.behind.now_mine)
      ∙ (append_assoc (mine from) (came.behind.ask ∷ came.behind.marks) (e ∷ [])
      ∙ ap (λ (k : ℕ). mine from ++ ((came.behind.ask ∷ came.behind.marks) ++ left_by_pass k (length o.hand.left) o.act [] ∷ [])) turned)) in
      let is_pass : IsPassOf number_of s.gate q = subst (λ (t : Named R). IsPassOf number_of t.gate q) f.squeue m.is_pass in
      let number_now : number q ≡ p = m.same_number ∙ turned in
      let made_now : made_by p (seen q) ≡ made_by p (seen from) ++ own =
      subst (λ (k : ℕ). made_by k (seen q) ≡ mine q) number_now (made_of s q is_pass) ∙ (now ∙ ap (λ (xs : List Element). xs ++ own) (sym (made_of s from was))) in
      omega (arith, (own_counts p (seen q)).1, ap (asks_by p) made_now, (by_append p (made_by p (seen from)) own).1, (own_counts p (seen from)).1, one_ask p (length o.hand.left) o.act (is_free (run (setting_of G.limits s.given) came.found).own) came.behind.ask came.behind.marks way)
