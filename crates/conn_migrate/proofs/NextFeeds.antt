-- Who takes a block out has done all feeds that were entered for it.
use Rattle.std.proofs.Common.{◌≡◌, ℕ, ◌+◌, List, [], ◌∷◌, ◌++◌, length, ap, sym, ◌∙◌, subst, arith, length-append}
use Rattle.turn_gate.specs.Passes.{number, seen}
use Rattle.turn_gate.specs.declared.pass.Pass.{Pass}
use Rattle.perimeter_core.specs.declared.entries.Act.{Act}
use Rattle.perimeter_core.specs.declared.entries.Entry.{Entry}
use Rattle.perimeter_core.specs.declared.marks.SynchAct.TheVariants as Done
use Rattle.perimeter_core.specs.Perimeter.{State, after}
use Rattle.perimeter_core.specs.History.{Element, Limits, Setting, start, run, worker}
use Rattle.perimeter_core.specs.Deeds.{acts, done_by, due, fed, feed_acts, feeds_of}
use Rattle.perimeter_core.specs.Legal.{May, Legal}
use Rattle.perimeter_core.specs.Backlog.{queue}
use Rattle.perimeter_core.proofs.BlocksFollow.{acts_push}
use Rattle.perimeter_core.proofs.FeedLists.{feeds_of-append}
use Rattle.perimeter_core.proofs.FeedOrder.{queue_after}
use Rattle.perimeter_core.proofs.NextFeed.{fed-append, fed_feeds, had}
use Rattle.perimeter_core.proofs.OneMore.{due_push, legal_front, legal_next}
use Rattle.perimeter_core.proofs.OrderAndWake.{sound}
use Rattle.squeue_state.specs.Naming.{Named, setting_of}
use Rattle.histories.specs.Elements.{left_by_pass}
use Rattle.conn_migrate.specs.Moving.{Moved}

all_fed : (S : Setting) (F : List Element) (p c : ℕ) → Legal S (F ++ left_by_pass p 0 (Done.Out c) [] ∷ []) → fed (acts S (F ++ left_by_pass p 0 (Done.Out c) [] ∷ []) c) ≡ due (F ++ left_by_pass p 0 (Done.Out c) [] ∷ []) c
all_fed S F p c l =
    let e : Element = left_by_pass p 0 (Done.Out c) [] in
    let s : State = run S F in
    let m : May S F e = legal_next S F [] e l in
    let before : Legal S F = legal_front S F (e ∷ []) l in
    let queued = had S c F before m.act.1 in
    let same = queue_after (worker S) s e.mark m.step (sound S F before) in
    let now : List Act = acts S F c ++ (feed_acts c (done_by s e.mark) ++ []) in
    let a : acts S (F ++ e ∷ []) c ≡ acts S F c ++ (feed_acts c (done_by s e.mark) ++ []) = acts_push c (start S) [] F e in
    let d : due (F ++ e ∷ []) c ≡ due F c + 0 = due_push c 0 F e in
    let one = ap length (feeds_of-append c (queue s) []) ∙ length-append (feeds_of c (queue s)) [] in
    let two = ap length (feeds_of-append c (done_by s e.mark) (queue (after s e.mark))) ∙ length-append (feeds_of c (done_by s e.mark)) (feeds_of c (queue (after s e.mark))) in
    let all = ap (λ (xs : List Entry). length (feeds_of c xs)) same in
    let none = ap length m.act.3 in
    let f = ap fed a in
    let g = fed-append (acts S F c) (feed_acts c (done_by s e.mark) ++ []) in
    let h = fed-append (feed_acts c (done_by s e.mark)) [] in
    omega (arith, queued, d, one, two, all, none, f, g, h, fed_feeds c (done_by s e.mark))

pub fed_is_due : {R : Type 0} {limits : R → Limits} {s : Named R} {c : ℕ} {from to : Pass Element} → Moved limits s (Done.Out c) [] from to → fed (acts (setting_of limits s.given) (seen to) c) ≡ due (seen to) c
fed_is_due {R} {limits} {s} {c} {from} {to} m =
    let S : Setting = setting_of limits s.given in
    let legal : Legal S (m.left.found ++ left_by_pass (number from) 0 (Done.Out c) [] ∷ []) = subst (λ (H : List Element). Legal S H) m.left.now_seen m.goes_on.legal in
    subst (λ (H : List Element). fed (acts S H c) ≡ due H c) (sym m.left.now_seen) (all_fed S m.left.found (number from) c legal)
