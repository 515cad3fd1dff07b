use Rattle.std.proofs.Common.{◌≡◌, length}
use Rattle.std.specs.List.{list_any}
use Rattle.http_pages.specs.Choosing.{is_same}
use Rattle.http_pages.specs.Requests.{list_elements}
use Rattle.http_pages.proofs.requests.names_in.Given as goal

abbrev pub invariant-loop-element : goal.invariant-loop-element
invariant-loop-element l = list_any (is_same l.fn.weak l.fn.tag) (list_elements l.value) ≡ list_any (is_same l.fn.weak l.fn.tag) (list_elements l.fn.value)

abbrev pub decreases-loop-element : goal.decreases-loop-element
decreases-loop-element l = length l.value
