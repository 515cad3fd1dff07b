use Rattle.std.proofs.Common.{ap}
use Rattle.poll_ring.proofs.Keeping.{begins, splits}
use Rattle.poll_ring.proofs.ring.Ring.make.Goals as goal

pub ruled-requires-clause-rule : goal.ruled-requires-clause-rule
ruled-requires-clause-rule c = begins

pub another-taking-requires-clause-rule : goal.another-taking-requires-clause-rule
another-taking-requires-clause-rule c = let first = c.in_ok-queue.ensures.3 in splits _ _ (ap (λ v. v.feeds) first) (ap (λ v. v.polls) first)
