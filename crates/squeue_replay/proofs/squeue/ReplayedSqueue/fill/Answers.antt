use Rattle.std.proofs.Common.{◌≡◌, true, refl}
use Rattle.perimeter_core.specs.declared.marks.Own.TheVariants.{Free}
use Rattle.perimeter_core.proofs.Sound.{not_free}
use Rattle.squeue_replay.specs.Replaying.{setting_of, squeue_of}
use Rattle.squeue_replay.proofs.Reading.{free_now}
use Rattle.squeue_replay.proofs.OwnMarks.{fill_stands, may_fill}
use Rattle.squeue_replay.proofs.squeue.ReplayedSqueue.fill.Goals as goal

pub returns-then-not-is_idle-clause-marked : goal.returns-then-not-is_idle-clause-marked
returns-then-not-is_idle-clause-marked c H k some small may =
    let no_idle = c.if-not-is_idle.ensures.1 (may_fill (setting_of c.args.self.now) H c.args.p c.args.feeds.now (squeue_of c.args.self.now) k small may).0 in let bad : ⊥ = cc in bad

pub returns-then-not-branch-clause-marked : goal.returns-then-not-branch-clause-marked
returns-then-not-branch-clause-marked c H k some small may =
    let u = (may_fill (setting_of c.args.self.now) H c.args.p c.args.feeds.now (squeue_of c.args.self.now) k small may).1 in
    let none = rw c.if-not-branch.true at c.in_ok-queue.ensures.queued in
    none u.0 u.1

pub returns-then-not-is_taken-clause-marked : goal.returns-then-not-is_taken-clause-marked
returns-then-not-is_taken-clause-marked c H k some small =
    let s = squeue_of c.args.self.now in
    let u = squeue_of c.queue.new.self in
    let q = rw c.if-not-branch.false at c.in_ok-queue.ensures.queued in
    let owned : u.own ≡ Free = free_now u.own (λ busy. let no_own = c.if-not-is_taken.ensures.1 busy in let bad : ⊥ = cc in bad) in
    fill_stands (setting_of c.args.self.now) H c.args.p c.args.feeds.now s u true k (c.if-not-is_idle.ensures.0 refl) some small q (rw owned refl)

pub returns-else-not-is_taken-clause-marked : goal.returns-else-not-is_taken-clause-marked
returns-else-not-is_taken-clause-marked c H k some small =
    let s = squeue_of c.args.self.now in
    let u = squeue_of c.queue.new.self in
    let q = rw c.if-not-branch.false at c.in_ok-queue.ensures.queued in
    let busy = not_free u.own (c.if-not-is_taken.ensures.0 refl) in
    fill_stands (setting_of c.args.self.now) H c.args.p c.args.feeds.now s u u.wake k (c.if-not-is_idle.ensures.0 refl) some small q (rw busy refl)
