use Rattle.std.proofs.Common.{take}
use Rattle.perimeter_core.specs.Deeds.{entries}
use Rattle.histories.specs.Keeping.{AreHome}
use Rattle.squeue_replay.proofs.pace.PaceCheck.all_home.Given as goal

abbrev pub invariant-loop-feed : goal.invariant-loop-feed
invariant-loop-feed l = AreHome l.self.setup.squeues l.self.setup.spread l.self.squeue (entries (take l.feed-index l.feeds))
