use Rattle.std.proofs.Common.{◌≡◌, true, take}
use Rattle.conn_blocks.specs.CallLists.{calls_of}
use Rattle.conn_blocks.specs.Orders.{numbers_from}
use Rattle.conn_blocks.specs.Holding.{all_made}
use Rattle.conn_blocks.proofs.block.Block.is_next.Given as goal

abbrev pub invariant-loop-i : goal.invariant-loop-i
invariant-loop-i l = all_made l.self.stages l.j (numbers_from 0 l.c (take l.i (calls_of l.calls l.j))) ≡ true
