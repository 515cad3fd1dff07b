use Rattle.std.proofs.Common.{◌≡◌, length}
use Rattle.std.specs.List.{list_all}
use Rattle.http_pages.specs.Requests.{names_host}
use Rattle.http_pages.specs.Heads.{lines}
use Rattle.http_pages.proofs.requests.name_hosts.Given as goal

abbrev pub invariant-loop-line : goal.invariant-loop-line
invariant-loop-line l = list_all names_host (lines l.fields) ≡ list_all names_host (lines l.fn.fields)

abbrev pub decreases-loop-line : goal.decreases-loop-line
decreases-loop-line l = length l.fields
