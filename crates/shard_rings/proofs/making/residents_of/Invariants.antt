use Rattle.std.proofs.Common.{length, reverse}
use Rattle.shard_rings.proofs.Made.{Residing}
use Rattle.shard_rings.proofs.making.residents_of.Given as goal

abbrev pub invariant-squeues : goal.invariant-squeues
invariant-squeues g l = Residing l.fn.shared.items l.fn.ends.items l.shared.items l.ends.items (reverse l.residents.items)

abbrev pub decreases-squeues : goal.decreases-squeues
decreases-squeues g l = length l.shared.items
