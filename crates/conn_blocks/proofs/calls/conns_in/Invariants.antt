use Rattle.std.proofs.Common.{◌≡◌, ◌≤◌, length, map, take, vec_capacity}
use Rattle.conn_blocks.proofs.calls.conns_in.Given as goal

abbrev pub invariant-loop-call : goal.invariant-loop-call
invariant-loop-call l = record {
  value : l.conns.items ≡ map (λ x. x.0) (take l.call-index l.thread);
  room : length l.thread ≤ vec_capacity l.conns;
}
