use Rattle.std.proofs.Common.{◌≡◌, ◌≢◌, ◌⊎◌, inl, inr, true, [], take, refl, sym, ◌∙◌, subst, rules, arith}
use Rattle.std.proofs.lemmas.Option.{MatchOption-at_some}
use Rattle.perimeter_core.specs.declared.marks.Own.TheVariants.{Out}
use Rattle.perimeter_core.specs.History.{Setting}
use Rattle.squeue_replay.specs.Replaying.{setting_of, squeue_of}
use Rattle.squeue_replay.specs.Steps.{ActMay, Processed}
use Rattle.squeue_replay.proofs.LeaveSteps.{queued_is}
use Rattle.squeue_replay.proofs.MarkDone.{empty_says, few_after, leave_done, leave_seen, leave_tested}
use Rattle.squeue_replay.proofs.SameSetting.{same_notes, same_setting}
use Rattle.squeue_replay.proofs.CountsFew.{counts_few}
use Rattle.squeue_replay.proofs.SettingFacts.{leaves_few}
use Rattle.squeue_replay.proofs.squeue.ReplayedSqueue.leave.Goals as goal
use Rattle.squeue_replay.proofs.squeue.ReplayedSqueue.leave.Goals.{then-empty, else-empty, else-count-eq0-via-then-count-eq0+else-not-empty, else-count-eq0-via-else-count-eq0}

pub returns-then-not-fits-clause-tells : goal.returns-then-not-fits-clause-tells
returns-then-not-fits-clause-tells c = λ H note k noted feeds m.
    let s = c.args.self.now in
    let x = squeue_of s in
    let t = squeue_of c.process.new.self in
    let did : Processed (take c.in-Some.count s.hand.items) c.args.p c.in-Some-2.done.feeds c.in-Some-2.done.ask x t =
    MatchOption-at_some _ (λ done. Processed (take c.in-Some.count s.hand.items) c.args.p done.feeds done.ask x t) c.in-Some-2.done c.in-Some-2.is c.in_ok-done.ensures.processed in
    let says = empty_says c.is_empty-empty.result s.hand.len s.hand.items c.is_empty-empty.ensures (omega (arith, s.hand.ok)) in
    let stands : (s.hand.items ≡ []) ⊎ (c.in-Some-2.done.ask ≡ true) → c.if-empty.at_ask ≡ true =
    λ either. elim c.if-empty.branch [
      | then-empty w ↦ w.at_ask-is ∙ w.if-empty.true
      | else-empty w ↦ elim either [ inl e ↦ absurd (let full = says.1 e in let none = w.if-empty.false in cc (full, none)) | inr a ↦ w.at_ask-is ∙ a ]
    ] in
    let seen = leave_seen (setting_of s) H c.args.p c.args.rest c.in-Some-2.done.feeds c.in-Some.count c.args.act note c.in-Some-2.done.ask s.run.setup.squeues s.run.setup.spread s.number x t k c.in-Some.ensures.1 did c.if-empty.at_ask stands m in
    let same = same_setting c.process.new.self s c.process.ensures.same.0 c.process.ensures.same.1 in
    let refused = c.if-not-fits.ensures.1 (seen.0, subst (λ (S : Setting). ActMay S t.guests c.args.p c.args.act) (sym same) seen.1) in
    cc refused

pub returns-clause-tells : goal.returns-clause-tells
returns-clause-tells c = λ H note k noted feeds.
    let s = c.args.self.now in
    let x = squeue_of s in
    let t = squeue_of c.process.new.self in
    let u = squeue_of c.act.new.self in
    let did : Processed (take c.in-Some.count s.hand.items) c.args.p c.in-Some-2.done.feeds c.in-Some-2.done.ask x t =
    MatchOption-at_some _ (λ done. Processed (take c.in-Some.count s.hand.items) c.args.p done.feeds done.ask x t) c.in-Some-2.done c.in-Some-2.is c.in_ok-done.ensures.processed in
    let says = empty_says c.is_empty-empty.result s.hand.len s.hand.items c.is_empty-empty.ensures (omega (arith, s.hand.ok)) in
    let own : s.own ≡ Out c.args.p = search rules in
    let some : s.hand.items ≢ [] → c.in-Some.count ≢ 0 =
    λ full none. elim c.else-count-eq0.branch [
      | else-count-eq0-via-then-count-eq0+else-not-empty w ↦ full (says.0 w.if-not-empty.false)
      | else-count-eq0-via-else-count-eq0 w ↦ w.if-count-eq0.false none
    ] in
    let stands : c.if-empty.at_ask ≡ true → (s.hand.items ≡ []) ⊎ (c.in-Some-2.done.ask ≡ true) =
    λ asked. elim c.if-empty.branch [ then-empty w ↦ inl (says.0 w.if-empty.true) | else-empty w ↦ inr (sym w.at_ask-is ∙ asked) ] in
    let fit = c.if-not-fits.ensures.0 refl in
    let same = same_setting c.process.new.self s c.process.ensures.same.0 c.process.ensures.same.1 in
    let may = leave_tested (setting_of s) H c.args.p c.args.rest c.in-Some-2.done.feeds c.in-Some.count c.args.act note c.in-Some-2.done.ask s.run.setup.squeues s.run.setup.spread s.number x t k c.in-Some.ensures.1 did c.if-empty.at_ask
    own c.in-Some.ensures.0 some fit.0 stands (subst (λ (S : Setting). ActMay S t.guests c.args.p c.args.act) same fit.1) in
    let few = few_after x.guests t.guests (take c.in-Some.count s.hand.items) (counts_few (setting_of s) H x k (leaves_few s.run.plan.now s.run.calls.now s.run.setup.squeues s.run.setup.rings s.run.setup.spread s.number c.is_sound.ensures)) did.guests in
    let o = c.process.new.self in
    leave_done (setting_of s) H c.args.p c.args.rest c.in-Some-2.done.feeds c.in-Some.count c.args.act note c.in-Some-2.done.ask o.run.setup.squeues o.run.setup.spread o.number x t k c.in-Some.ensures.1 did
    u (squeue_of c.put_back.new.self) _ c.has_queued-self.result may noted (same_notes o s H c.args.act note c.process.ensures.same.0 c.process.ensures.same.1 feeds) (c.in_ok-act.ensures.acted few) c.act.ensures.others c.in_ok-put_back.ensures.back refl
    (queued_is c.has_queued-self.result c.put_back.new.self.chain.items c.has_queued-self.ensures.0 c.has_queued-self.ensures.1)
