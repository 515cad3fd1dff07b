use Rattle.std.proofs.Common.{◌≡◌, ◌≤◌, length}
use Rattle.http_pages.specs.Heads.{lines}
use Rattle.http_pages.proofs.cuts.next_line.Given as goal

abbrev pub invariant-loop-bytes : goal.invariant-loop-bytes
invariant-loop-bytes l = (lines l.bytes ≡ lines l.fn.bytes) × (length l.bytes ≤ length l.fn.bytes)

abbrev pub decreases-loop-bytes : goal.decreases-loop-bytes
decreases-loop-bytes l = length l.bytes
