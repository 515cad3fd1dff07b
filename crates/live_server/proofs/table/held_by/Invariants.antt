use Rattle.std.proofs.Common.{◌≡◌, ◌-◌, ◌^◌, length, min, take}
use Rattle.live_server.specs.Table.{total_of}
use Rattle.live_server.proofs.table.held_by.Given as goal

abbrev pub invariant-loop-place : goal.invariant-loop-place
invariant-loop-place l = (l.total ≡ min (2 ^ 64 - 1) (total_of (take l.place l.table.entries))) × (l.place-end ≡ length l.table.entries)
