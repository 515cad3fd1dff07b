use Rattle.std.proofs.Common.{◌≡◌, rules}
use Rattle.perimeter_core.specs.declared.marks.Own.TheVariants.{Granted}
use Rattle.squeue_replay.specs.Replaying.{setting_of, squeue_of}
use Rattle.squeue_replay.proofs.OwnMarks.{accept_stands}
use Rattle.squeue_replay.proofs.squeue.ReplayedSqueue.accept.Goals as goal

pub returns-clause-marked : goal.returns-clause-marked
returns-clause-marked c H k =
    let granted : c.args.self.now.own ≡ Granted c.args.p = search rules in
    accept_stands (setting_of c.args.self.now) H c.args.p (squeue_of c.args.self.now) k granted
