use Rattle.std.proofs.Common.{refl}
use Rattle.squeue_replay.specs.Replaying.{setting_of, squeue_of}
use Rattle.squeue_replay.proofs.Reading.{ask_follows, seat, kept}
use Rattle.squeue_replay.proofs.OwnMarks.{may_ask}
use Rattle.squeue_replay.proofs.squeue.ReplayedSqueue.ask.Goals as goal
use Rattle.squeue_replay.proofs.squeue.ReplayedSqueue.ask.Goals.{then-not-is_taken-via-then-not-is_taken, then-not-is_taken-via-else-not-is_taken+then-not-is_idle}

pub returns-then-not-is_taken-clause-marked : goal.returns-then-not-is_taken-clause-marked
returns-then-not-is_taken-clause-marked c H k may =
    let m = may_ask (setting_of c.args.self.now) H c.args.p (squeue_of c.args.self.now) k may in
    elim c.then-not-is_taken.branch [
      | then-not-is_taken-via-then-not-is_taken w ↦ let no_own = w.if-not-is_taken.ensures.1 m.0 in let bad : ⊥ = cc in bad
      | then-not-is_taken-via-else-not-is_taken+then-not-is_idle w ↦ let no_idle = w.if-not-is_idle.ensures.1 m.1 in let bad : ⊥ = cc in bad
    ]

pub queue_ask-requires : goal.queue_ask-requires
queue_ask-requires c = let i = c.if-not-is_idle.ensures.0 refl in seat kept c.args.self.now.passes.items c.args.p i.pass i.was

pub returns-clause-marked : goal.returns-clause-marked
returns-clause-marked c =
    ask_follows (setting_of c.args.self.now) (squeue_of c.args.self.now) (squeue_of c.queue_ask.new.self) c.args.p c.queue_ask.result
    (c.if-not-is_taken.ensures.0 refl) (c.if-not-is_idle.ensures.0 refl) c.queue_ask.ensures.queued
