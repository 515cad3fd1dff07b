use Rattle.std.proofs.Common.{◌≡◌}
use Rattle.live_server.specs.Congestion.{resends}
use Rattle.live_server.proofs.conn.resend_between.Given as goal

abbrev pub invariant-loop-piece : goal.invariant-loop-piece
invariant-loop-piece l = l.tcb ≡ resends l.piece l.from l.to l.fn.tcb
