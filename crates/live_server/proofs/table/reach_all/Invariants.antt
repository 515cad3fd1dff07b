use Rattle.std.proofs.Common.{◌≡◌, ◌++◌, length}
use Rattle.live_server.proofs.ReachLemmas.{halfway, told_until}
use Rattle.live_server.proofs.table.reach_all.Given as goal

abbrev pub invariant-loop-place : goal.invariant-loop-place
invariant-loop-place l =
    (l.table.entries ≡ halfway l.measures l.now l.fn.table.entries l.place)
    × (l.out.items ≡ l.fn.out.items ++ told_until l.measures l.now l.fn.table.entries l.place)
    × (l.place-end ≡ length l.fn.table.entries)
