-- What holds of the items of segments whose times and texts are those of a capture.
use Rattle.std.proofs.Common.{ℕ, ◌*◌, ◌<◌, ◌≤◌, List, [], ◌∷◌, length, arith}
use Rattle.std.specs.List.{AllByRecursion}
use Rattle.std.proofs.lemmas.List.{length-append}
use Rattle.capture_reader.specs.Outcome.{CaptureFile}
use Rattle.conn_classifier.specs.declared.kinds.Arrival.{Arrival}
use Rattle.conn_classifier.specs.declared.kinds.Item.TheVariants.{Time}
use Rattle.conn_classifier.specs.Items.{items_after, items_of}
use Rattle.conn_classifier.specs.Plan.{IsInside, Rises}
use Rattle.conn_classifier.proofs.PlanLaw.{IsIn, inside_after, length-after, rises_after}

pub length-items : (last : ℕ) (arrived : List Arrival) → length (items_of last arrived) ≤ 2 * length arrived
length-items last [] = omega arith
length-items last (a ∷ arrived) = omega (arith, length-after a.at arrived, length-append (items_after a.at arrived) (Time last ∷ []))

pub some_items : (last : ℕ) (arrived : List Arrival) → 0 < length arrived → 0 < length (items_of last arrived)
some_items last [] lt = lt
some_items last (a ∷ arrived) lt = omega arith

module _ (file : CaptureFile) (last : ℕ) where
  pub items_rise : (most : ℕ) (arrived : List Arrival) → last ≤ most → AllByRecursion (IsIn file last) arrived → Rises 0 most (items_of last arrived)
  items_rise most [] lt h = omega arith
  items_rise most (a ∷ arrived) lt h = (omega arith, rises_after file last a.at most arrived h.0.time lt h.1)

  pub items_inside : (arrived : List Arrival) → AllByRecursion (IsIn file last) arrived → AllByRecursion (IsInside file) (items_of last arrived)
  items_inside [] h = tt
  items_inside (a ∷ arrived) h = ((h.0.record_number, h.0.text), inside_after file last a.at arrived h.1)
