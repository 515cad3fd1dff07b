-- A squeue's marks are gone through one by one, by a run and a squeue's number.
use Rattle.std.specs.Option.{option_or}
use Rattle.std.specs.Bool.{then_some}
use Rattle.std.proofs.Common.{◌≡◌, ◌↔◌, ℕ, ◌+◌, not, Bool, IsTrue, MatchOption, Option, Some, None, List, [], ◌∷◌, ◌++◌, length, sym, subst}
use Rattle.perimeter_core.specs.declared.marks.Mark.{Mark}
use Rattle.perimeter_core.specs.Ending.{IsOver}
use Rattle.perimeter_core.specs.History.{Element}
use Rattle.perimeter_core.specs.History as history
use Rattle.perimeter_core.specs.Legal.{Legal}
use Rattle.ring_quotas.specs.Quotas.{setting_at}
use Rattle.report_lines.specs.TraceText.{mark_line}
use Rattle.squeue_replay.specs.declared.pace.PaceCheck.{PaceCheck}
use Rattle.squeue_replay.specs.declared.squeue.RunSetup.{RunSetup}
use Rattle.squeue_replay.specs.declared.squeue.ReplayedSqueue.{ReplayedSqueue}
use Rattle.squeue_replay.specs.Histories.{ending_of}
use Rattle.squeue_replay.specs.Marks.{IsPrinted}
use Rattle.squeue_replay.specs.Pacing.{PaceStands}
use Rattle.squeue_replay.specs.Replaying.{history_of, setting_of, squeue_of}
use Rattle.squeue_replay.specs.Standing.{GuestOf, Stands}
use Rattle.trace_replay.specs.Going.{HasAdded, HasGone}
use Rattle.trace_replay.specs.Reasons.{IsIllegalAt}
use Rattle.trace_replay.proofs.Adding.{its_fit, its_legal, its_pace, its_stands, pace_of, stands_of}
use Rattle.trace_replay.proofs.Reaching.{Reached, ends, goes_on, illegal}

module _ (r : RunSetup) (q : ℕ) (old : ReplayedSqueue) (was : PaceCheck) (run_is : old.run ≡ r) (number_is : old.number ≡ q) (setup_is : was.setup ≡ r.setup) (squeue_is : was.squeue ≡ q) (ms : List Mark) (text : List ℕ) (count : ℕ) (unfit : Option ℕ)
    (reached : Reached r.plan.now r.calls.now r.setup q ms text count unfit (squeue_of old) was) where
  -- one mark more was read, and added
  module _ (m : Mark) (rest : List ℕ) (printed : IsPrinted m) (is : text ≡ mark_line m ++ rest) (next : ReplayedSqueue) (after : PaceCheck) (HasRead : Type 0) (read : HasRead) (o : Option Bool)
      (added : (past : List Mark) → Stands (setting_of old) (history_of old past) (squeue_of old) → PaceStands (setting_of old) (history_of old past) was → IsPrinted m → HasRead
      → MatchOption o (Legal (setting_of old) (history_of old (past ++ m ∷ [])) → ⊥) (λ keeps. HasAdded old was past m next after keeps)) where
    answer : MatchOption o (Legal (setting_of old) (history_of old (reached.past ++ m ∷ [])) → ⊥) (λ keeps. HasAdded old was reached.past m next after keeps)
    answer =
        added reached.past (stands_of r q old was run_is number_is setup_is squeue_is reached.past (squeue_of old) reached.stands) (pace_of r q old was run_is number_is setup_is squeue_is reached.past was reached.paced) printed read

    pub stepped : (keeps : Bool) (new_unfit : Option ℕ) → o ≡ Some keeps → new_unfit ≡ option_or unfit (then_some (not keeps) count) → Reached r.plan.now r.calls.now r.setup q ms rest (count + 1) new_unfit (squeue_of next) after
    stepped keeps new_unfit some first =
        let a : HasAdded old was reached.past m next after keeps = subst (λ (x : Option Bool). MatchOption x (Legal (setting_of old) (history_of old (reached.past ++ m ∷ [])) → ⊥) (λ keeps. HasAdded old was reached.past m next after keeps)) some answer in
        subst (λ (u : Option ℕ). Reached r.plan.now r.calls.now r.setup q ms rest (count + 1) u (squeue_of next) after) (sym first)
        (goes_on r.plan.now r.calls.now r.setup q ms text count unfit (squeue_of old) was reached m rest printed is (squeue_of next) after keeps
        (its_stands r q old was run_is number_is setup_is squeue_is (reached.past ++ m ∷ []) (squeue_of next) a.stands)
        (its_pace r q old was run_is number_is setup_is squeue_is (reached.past ++ m ∷ []) after a.paced)
        (its_fit r q old was run_is number_is setup_is squeue_is reached.past m keeps a.fits))

    pub refused : o ≡ None → IsIllegalAt (ending_of r.plan.now r.calls.now r.setup (q, ms)) count
    refused none =
        let a : Legal (setting_of old) (history_of old (reached.past ++ m ∷ [])) → ⊥ = subst (λ (x : Option Bool). MatchOption x (Legal (setting_of old) (history_of old (reached.past ++ m ∷ [])) → ⊥) (λ keeps. HasAdded old was reached.past m next after keeps)) none answer in
        illegal r.plan.now r.calls.now r.setup q ms text count unfit (squeue_of old) was reached m rest printed is (its_legal r q old was run_is number_is setup_is squeue_is (reached.past ++ m ∷ []) a)

  -- all were
  pub gone : (has : Bool) (guests : List GuestOf) → length text ≡ 0 → guests ≡ (squeue_of old).guests
      → ((H : List Element) → Stands (setting_of old) H (squeue_of old) → (IsTrue has ↔ IsOver (setting_of old) (history.run (setting_of old) H))) → HasGone r.setup q (ending_of r.plan.now r.calls.now r.setup (q, ms)) guests has unfit
  gone has guests none are over =
      subst (λ (gs : List GuestOf). HasGone r.setup q (ending_of r.plan.now r.calls.now r.setup (q, ms)) gs has unfit) (sym are)
      (ends r.plan.now r.calls.now r.setup q ms text count unfit (squeue_of old) was has reached none
      (subst (λ (n : ℕ). (H : List Element) → Stands (setting_at r.plan.now r.calls.now r.setup.squeues r.setup.rings r.setup.spread n) H (squeue_of old)
      → (IsTrue has ↔ IsOver (setting_at r.plan.now r.calls.now r.setup.squeues r.setup.rings r.setup.spread n) (history.run (setting_at r.plan.now r.calls.now r.setup.squeues r.setup.rings r.setup.spread n) H))) number_is
      (subst (λ (u : RunSetup). (H : List Element) → Stands (setting_at u.plan.now u.calls.now u.setup.squeues u.setup.rings u.setup.spread old.number) H (squeue_of old)
      → (IsTrue has ↔ IsOver (setting_at u.plan.now u.calls.now u.setup.squeues u.setup.rings u.setup.spread old.number) (history.run (setting_at u.plan.now u.calls.now u.setup.squeues u.setup.rings u.setup.spread old.number) H))) run_is over)))
