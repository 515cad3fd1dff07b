use Rattle.conn_blocks.proofs.SoFar.{SoFar}
use Rattle.conn_blocks.proofs.block.serve_order.Given as goal

abbrev pub invariant-loop-act : goal.invariant-loop-act
invariant-loop-act l = SoFar l.plan l.calls l.c l.order l.act-index l.block.value
