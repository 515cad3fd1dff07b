use Rattle.std.proofs.Common.{arith}
use Rattle.byte_queues.specs.ReceiveQueue.{ready_of}
use Rattle.live_server.proofs.conn.read_nxt.Goals as goal

pub overflow_add-unread : goal.overflow_add-unread
unfolding ready_of
overflow_add-unread c = omega (arith, c.ready-unread.ensures.is, c.ready-unread.ensures.near)
