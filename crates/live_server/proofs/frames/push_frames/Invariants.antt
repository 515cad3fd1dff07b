use Rattle.std.proofs.Common.{◌≡◌, ◌++◌, take}
use Rattle.std.specs.List.{flat_map}
use Rattle.live_server.specs.Frames.{frame_of}
use Rattle.live_server.proofs.frames.push_frames.Given as goal

abbrev pub invariant-loop-datagram : goal.invariant-loop-datagram
invariant-loop-datagram l = l.out.items ≡ l.fn.out.items ++ flat_map frame_of (take l.datagram-index l.sent)
