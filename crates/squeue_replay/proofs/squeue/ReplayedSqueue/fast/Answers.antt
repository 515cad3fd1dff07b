use Rattle.std.proofs.Common.{◌≡◌, List, [], ◌∷◌, ◌++◌, refl, sym, subst}
use Rattle.perimeter_core.specs.declared.entries.Entry.TheVariants as Entered
use Rattle.perimeter_core.specs.declared.entries.Feed.{Feed}
use Rattle.perimeter_core.specs.declared.marks.Mark.TheVariants as On
use Rattle.perimeter_core.specs.declared.marks.Own.TheVariants.{Free}
use Rattle.perimeter_core.specs.History.{Setting}
use Rattle.squeue_replay.specs.Entering.{AreSmall, Queues}
use Rattle.squeue_replay.specs.Replaying.{setting_of, squeue_of}
use Rattle.squeue_replay.specs.Standing.{SqueueOf, Stands}
use Rattle.squeue_replay.proofs.Reading.{empty_now, free_now}
use Rattle.squeue_replay.proofs.OwnMarks.{fast_stands, may_fast, plain}
use Rattle.squeue_replay.proofs.squeue.ReplayedSqueue.fast.Goals as goal
use Rattle.squeue_replay.proofs.squeue.ReplayedSqueue.fast.Goals.{then-is_taken-via-then-is_taken, then-is_taken-via-else-is_taken+then-has_queued, then-is_taken-via-else-is_taken+else-has_queued+then-not-is_idle}

pub returns-then-is_taken-clause-marked : goal.returns-then-is_taken-clause-marked
returns-then-is_taken-clause-marked c H k f is small may =
    let m = may_fast (setting_of c.args.self.now) H c.args.p f (squeue_of c.args.self.now) k (subst AreSmall is small) may in
    elim c.then-is_taken.branch [
      | then-is_taken-via-then-is_taken w ↦ w.if-is_taken.ensures.0 refl m.0
      | then-is_taken-via-else-is_taken+then-has_queued w ↦ w.if-has_queued.ensures.0 refl m.1
      | then-is_taken-via-else-is_taken+else-has_queued+then-not-is_idle w ↦ let no_idle = w.if-not-is_idle.ensures.1 m.2 in let bad : ⊥ = cc in bad
    ]

pub returns-then-not-branch-clause-marked : goal.returns-then-not-branch-clause-marked
returns-then-not-branch-clause-marked c H k f is small may =
    let S : Setting = setting_of c.args.self.now in
    let s = squeue_of c.args.self.now in
    let u = (may_fast S H c.args.p f s k (subst AreSmall is small) may).3 in
    let none = rw c.if-not-branch.true at c.in_ok-queue.ensures.queued in
    none u.0 (subst (λ (fs : List Feed). Queues S c.args.p fs s u.0) (sym is) u.1)

pub returns-clause-marked : goal.returns-clause-marked
returns-clause-marked c H k f is small =
    let S : Setting = setting_of c.args.self.now in
    let s = squeue_of c.args.self.now in
    let u = squeue_of c.queue.new.self in
    let q = rw c.if-not-branch.false at c.in_ok-queue.ensures.queued in
    let owned : s.own ≡ Free = free_now s.own (λ busy. let no_own = c.if-is_taken.ensures.1 busy in let bad : ⊥ = cc in bad) in
    let none : s.chain ≡ [] = empty_now s.chain (λ some. let no_chain = c.if-has_queued.ensures.1 some in let bad : ⊥ = cc in bad) in
    subst (λ (t : SqueueOf). Stands S (H ++ plain (On.Fast c.args.p (Entered.Feed f.c f.n)) ∷ []) t) (sym c.take_all.ensures.taken)
    (fast_stands S H c.args.p f s u k owned none (c.if-not-is_idle.ensures.0 refl) (subst AreSmall is small) (subst (λ (fs : List Feed). Queues S c.args.p fs s u) is q))
