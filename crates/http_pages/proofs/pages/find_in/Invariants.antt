use Rattle.std.proofs.Common.{◌≡◌, ◌+◌, ◌++◌, length}
use Rattle.std.specs.Prelude.{All}
use Rattle.std.specs.List.{position_from}
use Rattle.percent_encoding.specs.Percent.{percent_decode}
use Rattle.http_pages.specs.Inside.{IsPlaced, pages_at}
use Rattle.http_pages.specs.Pages.{is_at}
use Rattle.http_pages.proofs.pages.find_in.Given as goal

abbrev pub invariant-loop-places : goal.invariant-loop-places
invariant-loop-places l =
    (position_from (is_at (percent_decode l.fn.escaped ++ l.fn.end)) l.passed (pages_at l.fn.pack l.places)
    ≡ position_from (is_at (percent_decode l.fn.escaped ++ l.fn.end)) 0 (pages_at l.fn.pack l.fn.places))
    × (l.passed + length l.places ≡ length l.fn.places) × All (IsPlaced (length l.fn.pack)) l.places

abbrev pub decreases-loop-places : goal.decreases-loop-places
decreases-loop-places l = length l.places
