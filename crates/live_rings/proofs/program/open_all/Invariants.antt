use Rattle.std.proofs.Common.{◌≡◌, ◌+◌, ◌*◌, length}
use Rattle.live_rings.proofs.program.open_all.Given as goal

abbrev pub invariant-files : goal.invariant-files
invariant-files g l = 2 * length l.all.items + length l.rest ≡ length l.names

abbrev pub decreases-files : goal.decreases-files
decreases-files g l = length l.rest
