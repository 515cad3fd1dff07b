use Rattle.std.proofs.Common.{◌≡◌, List, ◌++◌, length, map}
use Rattle.http1.specs.Fields.{Header, known_fields}
use Rattle.http_pages.specs.Heads.{lines}
use Rattle.http_pages.specs.Requests.{header_of}
use Rattle.http_pages.proofs.requests.known_in.Given as goal

abbrev pub invariant-loop-line : goal.invariant-loop-line
invariant-loop-line l =
    (before : List Header) × (l.known ≡ known_fields before)
    × (before ++ map header_of (lines l.fields) ≡ map header_of (lines l.fn.fields))

abbrev pub decreases-loop-line : goal.decreases-loop-line
decreases-loop-line l = length l.fields
