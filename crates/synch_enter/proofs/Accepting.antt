-- A pass to which the perimeter was granted.
use Rattle.std.proofs.Common.{◌≡◌, ℕ, ◌<◌, false, inl, List, [], ◌++◌, length, refl, ap, sym, ◌∙◌, subst, arith}
use Rattle.turn_gate.specs.Passes.{IsPassOf, number, seen}
use Rattle.turn_gate.specs.declared.pass.Pass.{Pass}
use Rattle.perimeter_core.specs.declared.resident.Resident.{Ghosts}
use Rattle.perimeter_core.specs.declared.marks.SynchAct.TheVariants as Done
use Rattle.perimeter_core.specs.declared.marks.Own.TheVariants.{Out, Granted}
use Rattle.perimeter_core.specs.declared.marks.Mark.TheVariants as On
use Rattle.perimeter_core.specs.Perimeter.{State, after, is_closed}
use Rattle.perimeter_core.specs.History.{Element, Setting, Limits, start, worker, run}
use Rattle.perimeter_core.specs.Legal.{May, Legal, only_last_ask}
use Rattle.perimeter_core.specs.Blocks.{peri}
use Rattle.perimeter_core.proofs.OneMore.{run_push}
use Rattle.squeue_state.specs.Naming.{Named, Turned, Handed, setting_of}
use Rattle.squeue_state.specs.Behind.{IsPeri}
use Rattle.histories.specs.Elements.{number_of, accepted_by}
use Rattle.squeue_state.specs.Clauses.{Found, Marked, IsWhole}
use Rattle.perimeter_core.proofs.Since.{known_since}
use Rattle.squeue_drain.proofs.Turning.{others}
use Rattle.histories.proofs.Counts.{quota_kept}
use Rattle.squeue_drain.proofs.Fresh.{fresh}
use Rattle.squeue_drain.proofs.Deciding.{marked_on, same_state}
use Rattle.synch_enter.specs.Synch.{StandsAtItsAsk}

pub may_accept : (S : Setting) (H : List Element) (p : ℕ) → Legal S H → (run S H).own ≡ Granted p → p < worker S → May S H (accepted_by p)
may_accept S H p l own below =
    record {
      step = own;
      range = (omega arith, tt);
      worker_only = omega arith;
      idle = tt;
      kind = tt;
      enters = tt;
      quota = quota_kept S p H (accepted_by p) l refl;
      asks_last = tt;
      at_its_ask = tt;
      act = tt;
      progress = tt;
      note = refl;
    }

pub may_here : {R : Type 0} (limits : R → Limits) (s : Named R) (p : Pass Element) (u : Turned R) → Found limits s p u → number p < length s.given.quotas
    → (run (setting_of limits u.squeue.given) u.found).own ≡ Granted u.number → May (setting_of limits s.given) u.found (accepted_by u.number)
may_here limits s p u f below own =
    may_accept (setting_of limits s.given) u.found u.number f.legal (ap (λ (t : State). t.own) (sym (same_state limits u.squeue s u.found f.squeue)) ∙ own)
    (subst (λ (k : ℕ). k < length s.given.quotas) (sym f.same_number) below)

-- what others made meanwhile leaves whether the pass is closed, and whether it may ask
pub open_at : {R : Type 0} (limits : R → Limits) (s : Named R) (p : Pass Element) (u : Turned R) → IsPassOf number_of s.gate p → Found limits s p u → is_closed (run (setting_of limits s.given) (seen p)) (number p) ≡ false
    → is_closed (run (setting_of limits s.given) u.found) (number p) ≡ false
open_at limits s p u is f opened =
    let S : Setting = setting_of limits s.given in
    let l : Legal S (seen p ++ f.goes_on.0) = subst (λ (G : List Element). Legal S G) f.goes_on.1 f.legal in
    let k = known_since S (seen p) f.goes_on.0 (number p) l (others limits s p u is f) in
    ap (λ (G : List Element). is_closed (run S G) (number p)) f.goes_on.1 ∙ (k.closed ∙ opened)

module _ {R P O : Type 0} (G : Ghosts R P O) (s : Named R) where
  pub accepts : (p : Pass Element) (u : Turned R) (q : Pass Element) (r : R) (h : Handed) → Found G.limits s p u → number p < length s.given.quotas → is_closed (run (setting_of G.limits s.given) u.found) (number p) ≡ false
      → May (setting_of G.limits s.given) u.found (accepted_by u.number) → Marked u (accepted_by u.number) q → IsWhole G.limits s.given (seen q) h → IsPeri G s.given r (peri (setting_of G.limits s.given) (seen q))
      → StandsAtItsAsk G s [] record { pass = q; resident = r; hand = h; act = Done.None }
  accepts p u q r h f below opened may m whole is =
      let S : Setting = setting_of G.limits s.given in
      let on = marked_on G.limits s p q u (accepted_by u.number) f may m in
      let state : run S (seen q) ≡ after (run S u.found) (On.Accept u.number) = ap (run S) m.now_seen ∙ run_push (start S) u.found (accepted_by u.number) in
      let none : (run S (seen q)).hand ≡ [] = ap (λ (t : State). t.hand) state in
      record {
        owns = (fresh G s q r h on.is_pass on.legal (ap (λ (t : State). t.own) state ∙ ap Out (sym m.same_number)) whole is).owns;
        no_worker = subst (λ (k : ℕ). k < length s.given.quotas) (sym on.same_number) below;
        open_pass = ap (λ (t : State). is_closed t (number q)) state ∙ (ap (is_closed (run S u.found)) on.same_number ∙ opened);
        left = whole.is_whole ∙ none;
        at_ask = inl none;
        only = ap (only_last_ask (number q)) none;
        range = tt;
        fits = tt;
        note_fits = refl;
      }
