use Rattle.std.proofs.Common.{◌≡◌, length}
use Rattle.std.specs.Prelude.{All}
use Rattle.arriving_limiter.proofs.Limits.{IsFresh}
use Rattle.arriving_limiter.proofs.limit_requests.Given as goal

abbrev pub invariant-loop-channel : goal.invariant-loop-channel
invariant-loop-channel g l = All IsFresh l.sources.items × (length l.sources.items ≡ length l.yielded)
