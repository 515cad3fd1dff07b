-- What was seen of the parts at a squeue.
use Rattle.std.proofs.Common.{ℕ, Option, Some, None, List, refl, subst}
use Rattle.perimeter_core.specs.declared.entries.Act.{Act}
use Rattle.perimeter_core.specs.Blocks.{Blocks}
use Rattle.perimeter_core.specs.History.{Element, Setting}
use Rattle.placed_parts.specs.Standing.{PlaceAt}
use Rattle.squeue_streams.specs.declared.streams.Stream.{Stream}
use Rattle.squeue_arrivals.specs.Watching.{ArePartsOf, HasLooked, IsPartOf, SawLast}
use Rattle.endless_counters.specs.declared.totals.Adding.{Adding}
use Rattle.endless_counters.specs.declared.totals.Total.{Total}
use Rattle.endless_counters.specs.Counting.{AreSummed, AreTotals, held_at, taken_at}
use Rattle.endless_counters.specs.Serving.{Begins, Step}
use Rattle.endless_counters.proofs.Sums.{IsTotal, is_total, totals}

module _ (w : Adding) where
  at_place : (c : ℕ) (place : Option (Stream ℕ Total)) (block : Option (List Act)) → PlaceAt (λ c stream had. IsPartOf Begins Step w stream had) c (Some place) block → IsTotal (held_at place) (taken_at place)
  at_place c (Some stream) (Some had) is = is_total w _ _ is.made
  at_place c (Some stream) None is = absurd is
  at_place c None (Some had) is = absurd is
  at_place c None None is = record { amounts = refl; total = refl }

  parts_totals : (parts : List (Option (Stream ℕ Total))) (blocks : Blocks) (seen : Total) → ArePartsOf Begins Step w parts blocks → AreSummed held_at parts seen → AreTotals taken_at parts seen
  parts_totals parts blocks seen stand =
      totals held_at taken_at parts seen (λ c place is. at_place c place (blocks c) (subst (λ p. PlaceAt (λ c stream had. IsPartOf Begins Step w stream had) c p (blocks c)) is (stand c)))

  looked : (at : Setting) (H : List Element) (last : Option Total) → HasLooked Begins Step w (AreSummed held_at) at H last → HasLooked Begins Step w (AreTotals taken_at) at H last
  looked at H None is = tt
  looked at H (Some seen) is = record { legal = is.legal; parts = is.parts; stand = is.stand; says = parts_totals is.parts _ seen is.stand is.says }

  pub saw_totals : (at : Setting) (k looks : ℕ) (H : List Element) (last : Option Total) → SawLast Begins Step w (AreSummed held_at) at k looks H last → SawLast Begins Step w (AreTotals taken_at) at k looks H last
  saw_totals at k looks H last s =
      record { before = s.before; is_beginning = s.is_beginning; there = s.there; no_more = s.no_more; some = s.some; looked = looked at s.before last s.looked }
