use Rattle.std.proofs.Common.{◌≡◌, ◌≤◌, length}
use Rattle.http_pages.specs.Heads.{behind_head}
use Rattle.http_pages.proofs.heads.behind_head.Given as goal

abbrev pub invariant-loop-bytes : goal.invariant-loop-bytes
invariant-loop-bytes l = (behind_head l.bytes ≡ behind_head l.fn.bytes) × (length l.bytes ≤ length l.fn.bytes)

abbrev pub decreases-loop-bytes : goal.decreases-loop-bytes
decreases-loop-bytes l = length l.bytes
