use Rattle.std.proofs.Common.{◌≡◌, [], ◌∷◌, ◌++◌, refl, sym, subst}
use Rattle.perimeter_core.specs.declared.entries.Entry.TheVariants as Entered
use Rattle.perimeter_core.specs.declared.marks.Mark.TheVariants as On
use Rattle.perimeter_core.specs.declared.marks.Own.TheVariants.{Free}
use Rattle.perimeter_core.specs.History.{Setting}
use Rattle.squeue_replay.specs.Replaying.{setting_of, squeue_of}
use Rattle.squeue_replay.specs.Standing.{SqueueOf, Stands}
use Rattle.squeue_replay.proofs.Reading.{free_now, seat, kept}
use Rattle.squeue_replay.proofs.OwnMarks.{claim_ask_stands, may_claim_ask, plain}
use Rattle.squeue_replay.proofs.squeue.ReplayedSqueue.claim_ask.Goals as goal
use Rattle.squeue_replay.proofs.squeue.ReplayedSqueue.claim_ask.Goals.{then-is_taken-via-then-is_taken, then-is_taken-via-else-is_taken+then-not-is_idle}

pub returns-then-is_taken-clause-marked : goal.returns-then-is_taken-clause-marked
returns-then-is_taken-clause-marked c H k may =
    let m = may_claim_ask (setting_of c.args.self.now) H c.args.p (squeue_of c.args.self.now) k may in
    elim c.then-is_taken.branch [
      | then-is_taken-via-then-is_taken w ↦ w.if-is_taken.ensures.0 refl m.0
      | then-is_taken-via-else-is_taken+then-not-is_idle w ↦ let no_idle = w.if-not-is_idle.ensures.1 m.1 in let bad : ⊥ = cc in bad
    ]

pub queue_ask-requires : goal.queue_ask-requires
queue_ask-requires c = let i = c.if-not-is_idle.ensures.0 refl in seat kept c.args.self.now.passes.items c.args.p i.pass i.was

pub returns-then-not-branch-clause-marked : goal.returns-then-not-branch-clause-marked
returns-then-not-branch-clause-marked c H k may =
    let u = (may_claim_ask (setting_of c.args.self.now) H c.args.p (squeue_of c.args.self.now) k may).2 in
    let none = rw c.if-not-branch.true at c.in_ok-queue_ask.ensures.queued in
    none u.0 u.1

pub returns-clause-marked : goal.returns-clause-marked
returns-clause-marked c H k =
    let S : Setting = setting_of c.args.self.now in
    let s = squeue_of c.args.self.now in
    let u = squeue_of c.queue_ask.new.self in
    let q = rw c.if-not-branch.false at c.in_ok-queue_ask.ensures.queued in
    let owned : s.own ≡ Free = free_now s.own (λ busy. let no_own = c.if-is_taken.ensures.1 busy in let bad : ⊥ = cc in bad) in
    subst (λ (t : SqueueOf). Stands S (H ++ plain (On.Claim c.args.p (Entered.Ask c.args.p ∷ [])) ∷ []) t) (sym c.take_all.ensures.taken)
    (claim_ask_stands S H c.args.p s u k owned (c.if-not-is_idle.ensures.0 refl) q)
