use Rattle.std.proofs.Common.{◌≡◌, length}
use Rattle.std.specs.List.{list_all}
use Rattle.http_pages.specs.Requests.{is_field_line}
use Rattle.http_pages.specs.Heads.{lines}
use Rattle.http_pages.proofs.requests.are_field_lines.Given as goal

abbrev pub invariant-loop-line : goal.invariant-loop-line
invariant-loop-line l = list_all is_field_line (lines l.fields) ≡ list_all is_field_line (lines l.fn.fields)

abbrev pub decreases-loop-line : goal.decreases-loop-line
decreases-loop-line l = length l.fields
