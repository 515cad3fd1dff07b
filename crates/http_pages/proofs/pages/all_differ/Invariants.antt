use Rattle.std.proofs.Common.{◌≡◌, length}
use Rattle.std.specs.Prelude.{All}
use Rattle.http_pages.specs.Pages.{all_differ}
use Rattle.http_pages.specs.Inside.{IsPlaced, pages_at}
use Rattle.http_pages.proofs.pages.all_differ.Given as goal

abbrev pub invariant-loop-places : goal.invariant-loop-places
invariant-loop-places l = (all_differ (pages_at l.pack l.places) ≡ all_differ (pages_at l.fn.pack l.fn.places)) × All (IsPlaced (length l.fn.pack)) l.places

abbrev pub decreases-loop-places : goal.decreases-loop-places
decreases-loop-places l = length l.places
