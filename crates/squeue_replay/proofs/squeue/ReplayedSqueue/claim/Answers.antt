use Rattle.std.proofs.Common.{◌≡◌, [], ◌∷◌, ◌++◌, refl, sym, subst}
use Rattle.perimeter_core.specs.declared.marks.Mark.TheVariants as On
use Rattle.perimeter_core.specs.declared.marks.Own.TheVariants.{Free}
use Rattle.perimeter_core.specs.History.{Setting}
use Rattle.perimeter_core.specs.Deeds.{entries}
use Rattle.squeue_replay.specs.Replaying.{setting_of, squeue_of}
use Rattle.squeue_replay.specs.Standing.{SqueueOf, Stands}
use Rattle.squeue_replay.proofs.Reading.{free_now}
use Rattle.squeue_replay.proofs.OwnMarks.{claim_stands, may_claim, plain}
use Rattle.squeue_replay.proofs.squeue.ReplayedSqueue.claim.Goals as goal
use Rattle.squeue_replay.proofs.squeue.ReplayedSqueue.claim.Goals.{then-is_taken-via-then-is_taken, then-is_taken-via-else-is_taken+then-not-is_idle}

pub returns-then-is_taken-clause-marked : goal.returns-then-is_taken-clause-marked
returns-then-is_taken-clause-marked c H k some small may =
    let m = may_claim (setting_of c.args.self.now) H c.args.p c.args.feeds.now (squeue_of c.args.self.now) k small may in
    elim c.then-is_taken.branch [
      | then-is_taken-via-then-is_taken w ↦ w.if-is_taken.ensures.0 refl m.0
      | then-is_taken-via-else-is_taken+then-not-is_idle w ↦ let no_idle = w.if-not-is_idle.ensures.1 m.1 in let bad : ⊥ = cc in bad
    ]

pub returns-then-not-branch-clause-marked : goal.returns-then-not-branch-clause-marked
returns-then-not-branch-clause-marked c H k some small may =
    let u = (may_claim (setting_of c.args.self.now) H c.args.p c.args.feeds.now (squeue_of c.args.self.now) k small may).2 in
    let none = rw c.if-not-branch.true at c.in_ok-queue.ensures.queued in
    none u.0 u.1

pub returns-clause-marked : goal.returns-clause-marked
returns-clause-marked c H k some small =
    let S : Setting = setting_of c.args.self.now in
    let s = squeue_of c.args.self.now in
    let u = squeue_of c.queue.new.self in
    let q = rw c.if-not-branch.false at c.in_ok-queue.ensures.queued in
    let owned : s.own ≡ Free = free_now s.own (λ busy. let no_own = c.if-is_taken.ensures.1 busy in let bad : ⊥ = cc in bad) in
    subst (λ (t : SqueueOf). Stands S (H ++ plain (On.Claim c.args.p (entries c.args.feeds.now)) ∷ []) t) (sym c.take_all.ensures.taken)
    (claim_stands S H c.args.p c.args.feeds.now s u k owned (c.if-not-is_idle.ensures.0 refl) some small q)
