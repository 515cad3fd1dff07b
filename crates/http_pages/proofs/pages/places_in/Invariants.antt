use Rattle.std.proofs.Common.{◌-◌, ◌≤◌, length}
use Rattle.std.specs.Prelude.{All}
use Rattle.http_pages.specs.Inside.{IsPlaced}
use Rattle.http_pages.specs.Limits.{most_pages}
use Rattle.http_pages.proofs.PackLemmas.{Reads}
use Rattle.http_pages.proofs.pages.places_in.Given as goal

abbrev pub invariant-loop-at : goal.invariant-loop-at
invariant-loop-at l = record {
  within : l.at ≤ length l.fn.pack;
  few : length l.places.items ≤ most_pages;
  reads : Reads l.fn.pack l.places.items l.at;
  placed : All (IsPlaced (length l.fn.pack)) l.places.items;
}

abbrev pub decreases-loop-at : goal.decreases-loop-at
decreases-loop-at l = length l.fn.pack - l.at
