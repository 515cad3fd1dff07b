use Rattle.std.proofs.Common.{◌≡◌, ◌++◌, map, take}
use Rattle.live_server.specs.Acts.{announcing, datagram_of, numbered_as, waited_for}
use Rattle.live_server.proofs.conn.Conn.send.Given as goal

abbrev pub invariant-loop-reply : goal.invariant-loop-reply
invariant-loop-reply l = l.out.items ≡ l.fn.out.items ++ map (λ r. datagram_of l.marking l.tuple (announcing l.most (numbered_as (waited_for l.fn.self) r))) (take l.reply-index l.reply-items)
