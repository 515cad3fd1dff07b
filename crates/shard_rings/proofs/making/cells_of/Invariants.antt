use Rattle.std.proofs.Common.{◌≡◌, length}
use Rattle.shard_rings.specs.Making.{AreGrown}
use Rattle.shard_rings.proofs.making.cells_of.Given as goal

abbrev pub invariant-loop-q : goal.invariant-loop-q
invariant-loop-q g l = record { grown : AreGrown l.cells.items l.fn.ends.items l.ends.items; count : length l.cells.items ≡ l.q }
