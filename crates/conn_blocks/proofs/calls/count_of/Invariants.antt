use Rattle.std.proofs.Common.{◌≡◌, ◌≤◌, length, take}
use Rattle.conn_blocks.specs.Orders.{numbers_from}
use Rattle.conn_blocks.proofs.calls.count_of.Given as goal

abbrev pub invariant-loop-call : goal.invariant-loop-call
invariant-loop-call l = record {
  value : l.count ≡ length (numbers_from 0 l.c (take l.call-index l.thread));
  most : l.count ≤ l.call-index;
}
