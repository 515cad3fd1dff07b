use Rattle.std.proofs.Common.{◌≡◌, ◌+◌, drop}
use Rattle.histories.specs.Runs.{run_of}
use Rattle.histories.proofs.homes.Homes.run.Given as goal

abbrev pub invariant-loop-feed : goal.invariant-loop-feed
invariant-loop-feed l =
    record {
      at : l.len ≡ l.feed-index;
      whole : run_of l.self.squeues l.self.spread l.q l.feeds ≡ l.len + run_of l.self.squeues l.self.spread l.q (drop l.len l.feeds);
    }
