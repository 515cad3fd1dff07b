use Rattle.std.proofs.Common.{◌≢◌, ℕ, ◌<◌, None, Some, slice_get}
use Rattle.live_chats.proofs.reaching.all_heard.Given as goal

abbrev pub invariant-loop-one : goal.invariant-loop-one
invariant-loop-one l = (k : ℕ) → k < l.one-index → slice_get l.heard k ≢ Some None
