use Rattle.std.proofs.Common.{◌≡◌, length}
use Rattle.std.specs.Prelude.{All}
use Rattle.std.specs.List.{list_any}
use Rattle.http_pages.specs.Pages.{is_at}
use Rattle.http_pages.specs.Inside.{IsPlaced, pages_at}
use Rattle.http_pages.proofs.pages.has_path.Given as goal

abbrev pub invariant-loop-places : goal.invariant-loop-places
invariant-loop-places l = (list_any (is_at l.path) (pages_at l.pack l.places) ≡ list_any (is_at l.fn.path) (pages_at l.fn.pack l.fn.places)) × All (IsPlaced (length l.fn.pack)) l.places

abbrev pub decreases-loop-places : goal.decreases-loop-places
decreases-loop-places l = length l.places
