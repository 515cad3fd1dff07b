use Rattle.std.proofs.Common.{◌≡◌, ◌++◌, take}
use Rattle.live_chats.proofs.ear.copy_all.Given as goal

abbrev pub invariant-loop-datagram : goal.invariant-loop-datagram
invariant-loop-datagram l = l.out.items ≡ l.fn.out.items ++ take l.datagram-index l.sent
