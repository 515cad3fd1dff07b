-- What a call knows of the value that its turn holds.
use Rattle.std.proofs.Common.{◌≡◌, ◌+◌, arith, ℕ, List, [], ◌∷◌, ◌++◌, ap, sym, ◌∙◌, subst, refl, Some, None, Option, Bool}
use Rattle.perimeter_core.specs.declared.resident.Resident.{Ghosts}
use Rattle.perimeter_core.specs.declared.marks.Own.{Own}
use Rattle.perimeter_core.specs.declared.marks.Own.TheVariants.{Free, Out, Granted}
use Rattle.perimeter_core.specs.History.{Element, Setting}
use Rattle.perimeter_core.specs.Legal.{May}
use Rattle.perimeter_core.specs.Blocks.{Blocks, peri}
use Rattle.perimeter_core.proofs.BlocksFollow.{peri_push}
use Rattle.perimeter_core.proofs.FeedActs.{with_none}
use Rattle.turn_gate.specs.Passes.{IsPassOf, freed_once, turns_of, waited, number, seen, mine, steps}
use Rattle.turn_gate.specs.Helds.{held_value, held_seen, held_mine, held_number, held_steps}
use Rattle.turn_gate.specs.declared.held.Held.{Held}
use Rattle.squeue_state.specs.declared.inner.Inner.{Inner}
use Rattle.squeue_state.specs.declared.guarded.Guarded.{Guarded}
use Rattle.perimeter_core.specs.declared.marks.Kind.{Kind}
use Rattle.squeue_state.specs.Naming.{Given, Named, Turned}
use Rattle.squeue_state.specs.Behind.{Behind, Noted, IsPeri, Lies}
use Rattle.squeue_state.specs.Clauses.{IsTurnOf, turned_of, Marked}
use Rattle.perimeter_core.specs.declared.entries.Entry.{Entry}
use Rattle.perimeter_core.specs.declared.entries.Feed.{Feed}
use Rattle.perimeter_core.specs.History.{start, run}
use Rattle.perimeter_core.specs.Perimeter.{State, after}
use Rattle.perimeter_core.proofs.OneMore.{run_push}
use Rattle.turn_gate.specs.Gates.{gate_id, first_of}
use Rattle.turn_gate.specs.declared.views.LockStep.{LockStep}
use Rattle.turn_gate.specs.declared.views.LockStep.TheVariants.{Serve}
use Rattle.turn_gate.proofs.Passing.{turns_of-append}
use Rattle.turn_gate.specs.declared.gate.Gate.{Gate}
use Rattle.turn_gate.specs.declared.pass.Pass.{Pass}
use Rattle.turn_gate.specs.Helds.{Takes}
use Rattle.squeue_state.specs.Behind.{StandsFor}
use Rattle.squeue_state.specs.Clauses.{named_of}
use Rattle.squeue_state.specs.Lone.{is_fast, is_lone, buffer_of}
use Rattle.squeue_state.proofs.Steps.{own_lone}
use Rattle.histories.specs.Elements.{number_of, fast_by, claimed_by, ask_claimed_by, accepted_by, worked_by}

module _ {R P O : Type 0} (G : Ghosts R P O) where
  -- the value that the turn holds
  pub here : (t : Named R) (h : Held (Guarded R) Kind Element) (u : Turned R) (s : Named R) → IsTurnOf G t h → turned_of t h ≡ u → u.squeue ≡ s
      → Behind G s.given (held_value h).inner u.found
  here t h u s inv is sq =
      subst (λ (x : Named R). Behind G x.given (held_value h).inner u.found) (ap (λ (x : Turned R). x.squeue) is ∙ sq)
      (subst (λ (x : List Element). Behind G t.given (held_value h).inner x) (ap (λ (x : Turned R). x.found) is) inv.1)

  -- the same of a value that was lent from it
  pub lent : (t : Named R) (h : Held (Guarded R) Kind Element) (u : Turned R) (s : Named R) → IsTurnOf G t h → turned_of t h ≡ u → u.squeue ≡ s → (v : Guarded R) → v ≡ held_value h → Behind G s.given v.inner u.found
  lent t h u s inv is sq v same = subst (λ (x : Guarded R). Behind G s.given x.inner u.found) (sym same) (here t h u s inv is sq)

  -- the marks that it keeps
  pub noted : (t : Named R) (h : Held (Guarded R) Kind Element) (u : Turned R) (s t' : Named R) → IsTurnOf G t h → turned_of t h ≡ u → u.squeue ≡ s → t' ≡ s → (v : Guarded R) → v ≡ held_value h
      → Noted t'.given v.traced v.trace (held_seen h)
  noted t h u s t' inv is sq ts v same =
      subst (λ (x : Guarded R). Noted t'.given x.traced x.trace (held_seen h)) (sym same)
      (subst (λ (x : Named R). Noted x.given (held_value h).traced (held_value h).trace (held_seen h)) (ap (λ (x : Turned R). x.squeue) is ∙ (sq ∙ sym ts)) inv.2)

  -- the resident that lies in the gate
  pub lies_free : (g : Given R) (o : Own) (r : Option R) (x : R) (blocks : Blocks) → Lies G g o r blocks → o ≡ Free → r ≡ Some x → IsPeri G g x blocks
  lies_free g o r x blocks l free is = rw (free, is) at l

  pub lies_granted : (g : Given R) (o : Own) (p : ℕ) (r : Option R) (x : R) (blocks : Blocks) → Lies G g o r blocks → o ≡ Granted p → r ≡ Some x → IsPeri G g x blocks
  lies_granted g o p r x blocks l granted is = rw (granted, is) at l

  pub some_free : (g : Given R) (o : Own) (r : Option R) (blocks : Blocks) → Lies G g o r blocks → o ≡ Free → (x : R) × (r ≡ Some x)
  some_free g o None blocks l free = absurd (rw free at l)
  some_free g o (Some x) blocks l free = (x, refl)

  -- the value after the mark, by the turn as it stands behind the gate
  pub ends : (h : Held (Guarded R) Kind Element) (u : Turned R) (t s t' : Named R) → turned_of t h ≡ u → t' ≡ s → (w : Inner R) (e : ℕ → Element)
      → Behind G s.given w (u.found ++ e u.number ∷ []) → Behind G t'.given w (held_seen h ++ e (held_number h) ∷ [])
  ends h u t s t' is ts w e b =
      subst (λ (x : Turned R). Behind G t'.given w (x.found ++ e x.number ∷ [])) (sym is)
      (subst (λ (x : Named R). Behind G x.given w (u.found ++ e u.number ∷ [])) (sym ts) b)

  -- the turn of a gate that was taken
  pub turn_made : (s t : Named R) (gate : Gate (Guarded R) Kind Element) (p : Pass Element) (h : Held (Guarded R) Kind Element) → t ≡ s → named_of gate ≡ s
      → Takes (StandsFor G (first_of gate)) number_of (gate_id gate) p h → IsTurnOf G t h
  turn_made s t gate p h ts gs k = subst (λ (x : Named R). IsTurnOf G x h) (gs ∙ sym ts) (k.0, k.4.0, k.4.1)

-- what the release says of the pass, by the turn
pub marked : {R : Type 0} (t s : Named R) (G : Gate (Guarded R) Kind Element) (h : Held (Guarded R) Kind Element) (u : Turned R) (e : ℕ → Element) (x : Element) (p : Pass Element) → turned_of t h ≡ u → u.squeue ≡ s → named_of G ≡ s → e u.number ≡ x
    → IsPassOf number_of (gate_id G) p × (number p ≡ held_number h) → seen p ≡ held_seen h ++ e (held_number h) ∷ [] → mine p ≡ held_mine h ++ e (held_number h) ∷ []
    → freed_once (held_steps h) (steps p) → Marked u x p
marked {R} t s G h u e x p is sq gs ex its saw made freed =
    let same : named_of G ≡ u.squeue = gs ∙ sym sq in
    record {
      is_pass = subst (λ (n : Named R). IsPassOf number_of n.gate p) same its.0;
      same_number = its.1 ∙ ap (λ (v : Turned R). v.number) is;
      now_seen = saw ∙ (ap (λ (v : Turned R). v.found ++ e v.number ∷ []) is ∙ ap (λ y. u.found ++ y ∷ []) ex);
      now_mine = made ∙ (ap (λ (v : Turned R). v.mine ++ e v.number ∷ []) is ∙ ap (λ y. u.mine ++ y ∷ []) ex);
      one_step = subst (λ (v : Turned R). freed_once v.made (steps p)) is freed;
    }

-- the hand after the mark
pub hand_after : (S : Setting) (H : List Element) (e : Element) (xs : List Entry) → xs ≡ (after (run S H) e.mark).hand → xs ≡ (run S (H ++ e ∷ [])).hand
hand_after S H e xs is = is ∙ sym (ap (λ s. s.hand) (run_push (start S) H e))

-- an owner's buffer after its own mark
pub room_after : (room : ℕ) (S : Setting) (H K : List Element) (e : Element) (p : ℕ) → K ≡ H ++ e ∷ [] → number_of e ≡ p → (after (run S H) e.mark).own ≡ Out p → buffer_of room (is_fast e.mark) ≡ buffer_of room (is_lone (run S K).own K)
room_after room S H K e p is number out =
    let own : (run S (H ++ e ∷ [])).own ≡ Out p = ap (λ (t : State). t.own) (run_push (start S) H e) ∙ out in
    let lone : is_lone (run S (H ++ e ∷ [])).own (H ++ e ∷ []) ≡ is_fast e.mark = ap (λ (o : Own). is_lone o (H ++ e ∷ [])) own ∙ own_lone p H e number in
    sym (ap (λ (L : List Element). buffer_of room (is_lone (run S L).own L)) is ∙ ap (λ (b : Bool). buffer_of room b) lone)

pub fasted_same : (S : Setting) (H : List Element) (p : ℕ) (e : Feed) → May S H (fast_by p e) → peri S (H ++ fast_by p e ∷ []) ≡ peri S H
fasted_same S H p e m = peri_push S H (fast_by p e) m ∙ with_none (peri S H)

pub claimed_same : (S : Setting) (H : List Element) (p : ℕ) (es : List Feed) → May S H (claimed_by p es) → peri S (H ++ claimed_by p es ∷ []) ≡ peri S H
claimed_same S H p es m = peri_push S H (claimed_by p es) m ∙ with_none (peri S H)

pub claimed_ask_same : (S : Setting) (H : List Element) (p : ℕ) → May S H (ask_claimed_by p) → peri S (H ++ ask_claimed_by p ∷ []) ≡ peri S H
claimed_ask_same S H p m = peri_push S H (ask_claimed_by p) m ∙ with_none (peri S H)

pub accepted_same : (S : Setting) (H : List Element) (p : ℕ) → May S H (accepted_by p) → peri S (H ++ accepted_by p ∷ []) ≡ peri S H
accepted_same S H p m = peri_push S H (accepted_by p) m ∙ with_none (peri S H)

pub worked_same : (S : Setting) (H : List Element) (p : ℕ) → May S H (worked_by p) → peri S (H ++ worked_by p ∷ []) ≡ peri S H
worked_same S H p m = peri_push S H (worked_by p) m ∙ with_none (peri S H)

-- steps that free the lock by none of them, and then one that does, are one turn
pub one_turn : (xs ys zs : List LockStep) → waited xs ys → freed_once ys zs → turns_of zs ≡ turns_of xs + 1
one_turn xs ys zs w f =
    let a = turns_of-append xs w.0 in
    let b = turns_of-append ys (Serve f.0 ∷ []) in
    omega (arith, a, b, w.2, ap turns_of w.1, ap turns_of f.1)
