use Rattle.std.proofs.Common.{◌≡◌, ◌≤◌, length}
use Rattle.http_pages.specs.Requests.{list_elements}
use Rattle.http_pages.proofs.cuts.next_element.Given as goal

abbrev pub invariant-loop-bytes : goal.invariant-loop-bytes
invariant-loop-bytes l = (list_elements l.bytes ≡ list_elements l.fn.bytes) × (length l.bytes ≤ length l.fn.bytes)

abbrev pub decreases-loop-bytes : goal.decreases-loop-bytes
decreases-loop-bytes l = length l.bytes
