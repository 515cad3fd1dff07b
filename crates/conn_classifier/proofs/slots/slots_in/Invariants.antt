use Rattle.std.proofs.Common.{◌≡◌, ◌≤◌, ◌-◌, List, length, drop, map, ◌++◌, ◌∷◌, []}
use Rattle.std.specs.List.{AllByRecursion}
use Rattle.segment_codec.specs.declared.packet.Packet.{Packet}
use Rattle.conn_classifier.specs.Hints.{hints_of}
use Rattle.conn_classifier.specs.Items.{items_after, items_of}
use Rattle.conn_classifier.specs.Slots.{IsKept, item_of}
use Rattle.conn_classifier.specs.declared.kinds.Arrival.{Arrival}
use Rattle.conn_classifier.specs.declared.kinds.Item.TheVariants.{Time}
use Rattle.conn_classifier.proofs.slots.slots_in.Given as goal

abbrev pub invariant-loop-i : goal.invariant-loop-i
invariant-loop-i l = (l.i ≤ length l.recs)
    × ((ps : List Packet) (xs : List Arrival) → l.recs ≡ map (λ a. a.rec) xs → AllByRecursion (IsKept l.capture.packets ps) xs → l.hints ≡ hints_of xs
    → map (item_of ps) l.slots.items ++ (items_after l.at (drop l.i xs) ++ Time l.last ∷ []) ≡ items_of l.last xs)

abbrev pub decreases-loop-i : goal.decreases-loop-i
decreases-loop-i l = length l.recs - l.i
