use Rattle.std.proofs.Common.{◌≡◌, false, rules}
use Rattle.ring_threads.proofs.Lying.{as_many, lies_at}
use Rattle.ring_threads.proofs.served.Served.left.Goals as goal

pub returns-clause-count : goal.returns-clause-count
returns-clause-count c = as_many c.args.finished.parts c.requires.there

pub returns-clause-blocks : goal.returns-clause-blocks
returns-clause-blocks c = λ k b is.
    let whole : c.is_short.result ≡ false = search rules in
    (lies_at c.args.finished.parts k b c.requires.there is, c.is_short.ensures whole k b is)
