use Rattle.std.proofs.Common.{◌≡◌, []}
use Rattle.perimeter_core.specs.declared.marks.Own.TheVariants.{Free}
use Rattle.squeue_replay.specs.Replaying.{setting_of, squeue_of}
use Rattle.squeue_replay.proofs.Making.{all_closed, closed_all, over, over_closed}
use Rattle.squeue_replay.proofs.Reading.{empty_now, free_now}
use Rattle.squeue_replay.proofs.squeue.ReplayedSqueue.has_ended.Goals as goal

pub returns : goal.returns
returns c H k =
    let s = c.args.self.now in
    let owned : s.own ≡ Free = free_now s.own (λ busy. let no_own = c.if-is_taken.ensures.1 busy in let bad : ⊥ = cc in bad) in
    let none : s.chain.items ≡ [] = empty_now s.chain.items (λ some. let no_chain = c.if-has_queued.ensures.1 some in let bad : ⊥ = cc in bad) in (
      (λ t. over (setting_of s) H (squeue_of s) k owned none (closed_all s.passes.items (c.all_closed.ensures.0 t))),
      λ o. c.all_closed.ensures.1 (all_closed s.passes.items (over_closed (setting_of s) H (squeue_of s) k o)),
    )
