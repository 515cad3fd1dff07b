use Rattle.perimeter_core.specs.Kinds.{mark_by}
use Rattle.trace_replay.proofs.Adding.{added_one}
use Rattle.trace_replay.proofs.replaying.add.Goals as goal

pub returns-clause-added : goal.returns-clause-added
returns-clause-added c =
    λ past stands paced printed feeds.
    added_one c.args.squeue.now c.args.pace.now past (mark_by c.args.mark.now.p c.args.mark.now.kind c.args.mark.now.feeds.items) c.add.new.self c.keeps.new.self c.keeps.result c.is_taken-taken.result c.has_queued-queued.result c.has_queued-left.result c.in_ok-processed.field-0 c.in-Some.processed c.in-Some.is
    (c.in_ok-processed.ensures.marked past stands printed feeds) stands paced c.is_taken-taken.ensures c.has_queued-queued.ensures c.has_queued-left.ensures c.keeps.ensures.keeps
