use Rattle.std.proofs.Common.{◌≡◌, ◌≤◌, take}
use Rattle.histories.specs.Runs.{count, is_at}
use Rattle.squeue_pool.proofs.keys.feeds_at.Given as goal

abbrev pub invariant-loop-feed : goal.invariant-loop-feed
invariant-loop-feed l = record { counted : l.feeds ≡ count (is_at l.squeues 0 l.q) (take l.feed-index l.list); few : l.feeds ≤ l.feed-index }
