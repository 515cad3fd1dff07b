use Rattle.std.proofs.Common.{◌≡◌, length}
use Rattle.http_pages.specs.Requests.{names_tag}
use Rattle.http_pages.specs.Choosing.{is_same}
use Rattle.http_pages.specs.Heads.{lines}
use Rattle.http_pages.proofs.requests.names_tag.Given as goal

abbrev pub invariant-loop-line : goal.invariant-loop-line
invariant-loop-line l = names_tag l.fn.name (is_same l.fn.weak l.fn.tag) (lines l.fields) ≡ names_tag l.fn.name (is_same l.fn.weak l.fn.tag) (lines l.fn.fields)

abbrev pub decreases-loop-line : goal.decreases-loop-line
decreases-loop-line l = length l.fields
