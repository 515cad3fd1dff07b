use Rattle.std.proofs.Common.{◌≡◌, ◌≤◌, length}
use Rattle.http_pages.specs.Heads.{from_request_line}
use Rattle.http_pages.proofs.heads.from_request_line.Given as goal

abbrev pub invariant-loop-rest : goal.invariant-loop-rest
invariant-loop-rest l = (from_request_line l.bytes ≡ from_request_line l.fn.bytes) × (length l.bytes ≤ length l.fn.bytes)

abbrev pub decreases-loop-rest : goal.decreases-loop-rest
decreases-loop-rest l = length l.bytes
