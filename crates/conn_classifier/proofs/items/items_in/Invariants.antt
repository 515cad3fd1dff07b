use Rattle.std.proofs.Common.{◌≡◌, ◌≤◌, ◌-◌, length, drop, ◌++◌, ◌∷◌, []}
use Rattle.conn_classifier.specs.declared.kinds.Item.TheVariants.{Time}
use Rattle.conn_classifier.specs.Items.{items_after, items_of}
use Rattle.conn_classifier.proofs.items.items_in.Given as goal

abbrev pub invariant-loop-i : goal.invariant-loop-i
invariant-loop-i l = (l.i ≤ length l.arrivals) × (l.items.items ++ (items_after l.at (drop l.i l.arrivals) ++ Time l.last ∷ []) ≡ items_of l.last l.arrivals)

abbrev pub decreases-loop-i : goal.decreases-loop-i
decreases-loop-i l = length l.arrivals - l.i
