use Rattle.std.proofs.Common.{◌≡◌, length}
use Rattle.http_pages.specs.Requests.{has_field}
use Rattle.http_pages.specs.Heads.{lines}
use Rattle.http_pages.proofs.requests.has_field.Given as goal

abbrev pub invariant-loop-line : goal.invariant-loop-line
invariant-loop-line l = has_field l.fn.name (lines l.fields) ≡ has_field l.fn.name (lines l.fn.fields)

abbrev pub decreases-loop-line : goal.decreases-loop-line
decreases-loop-line l = length l.fields
