use Rattle.std.proofs.Common.{◌≡◌, [], ◌∷◌, ◌++◌, sym, ◌∙◌, subst}
use Rattle.perimeter_core.specs.declared.marks.Mark.TheVariants as On
use Rattle.perimeter_core.specs.declared.marks.Own.TheVariants.{Free}
use Rattle.perimeter_core.specs.History.{Setting, worker}
use Rattle.squeue_replay.specs.Replaying.{setting_of, squeue_of}
use Rattle.squeue_replay.specs.Standing.{SqueueOf, Stands}
use Rattle.squeue_replay.proofs.Reading.{free_now}
use Rattle.squeue_replay.proofs.OwnMarks.{plain, work_stands}
use Rattle.squeue_replay.proofs.SettingFacts.{worker_is}
use Rattle.squeue_replay.proofs.squeue.ReplayedSqueue.work.Goals as goal

pub returns-clause-marked : goal.returns-clause-marked
returns-clause-marked c H k =
    let s = c.args.self.now in
    let S : Setting = setting_of s in
    let owned : s.own ≡ Free = free_now s.own (λ busy. let no_own = c.if-is_taken.ensures.1 busy in let bad : ⊥ = cc in bad) in
    let last : c.args.p ≡ worker S = c.if-p-worker.false ∙ (c.worker.ensures ∙ sym (worker_is s.run.plan.now s.run.calls.now s.run.setup.squeues s.run.setup.rings s.run.setup.spread s.number)) in
    subst (λ (t : SqueueOf). Stands S (H ++ plain (On.Work c.args.p) ∷ []) t) (sym c.take_all.ensures.taken)
    (work_stands S H c.args.p (squeue_of s) k owned c.if-not-self.false last)
