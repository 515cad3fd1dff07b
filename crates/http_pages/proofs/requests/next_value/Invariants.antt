use Rattle.std.proofs.Common.{◌≡◌, length}
use Rattle.http_pages.specs.Heads.{lines}
use Rattle.http_pages.specs.Requests.{values_of}
use Rattle.http_pages.proofs.requests.next_value.Given as goal

abbrev pub invariant-loop-line : goal.invariant-loop-line
invariant-loop-line l = values_of l.fn.name (lines l.fields) ≡ values_of l.fn.name (lines l.fn.fields)

abbrev pub decreases-loop-line : goal.decreases-loop-line
decreases-loop-line l = length l.fields
