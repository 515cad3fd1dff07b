use Rattle.shard_rings.specs.Making.{AreEnds}
use Rattle.shard_rings.proofs.making.no_ends.Given as goal

abbrev pub invariant-loop-q : goal.invariant-loop-q
invariant-loop-q g l = AreEnds 0 l._q l.ends.items
