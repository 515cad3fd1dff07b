use Rattle.std.proofs.Common.{◌≡◌, ◌≤◌, length, take}
use Rattle.live_server.specs.Leaving.{share}
use Rattle.live_server.proofs.crowding.share.Given as goal

abbrev pub invariant-loop-place : goal.invariant-loop-place
invariant-loop-place g l =
    let cs = g.T.ConnTable.conns l.table in
    record {
      counted : l.count ≡ share l.address.0 (take l.place cs);
      bounded : l.count ≤ l.place;
      within : l.place ≤ length cs;
      all : l.place-end ≡ length cs;
    }
