use Rattle.std.proofs.Common.{◌≡◌, List, map, take}
use Rattle.std.specs.List.{AllByRecursion}
use Rattle.conn_classifier.specs.Items.{items_of}
use Rattle.conn_classifier.specs.Slots.{IsKept, item_of}
use Rattle.conn_classifier.specs.declared.kinds.Arrival.{Arrival}
use Rattle.conn_classifier.proofs.making.all_items.Given as goal

abbrev pub invariant-loop-list : goal.invariant-loop-list
invariant-loop-list l = (xss : List (List Arrival)) → map (λ v. v.items) l.lists ≡ map (map (λ a. a.rec)) xss
    → AllByRecursion (AllByRecursion (IsKept l.capture.packets l.packets)) xss
    → map (λ x. map (item_of l.packets) x.items) l.items.items ≡ map (items_of l.last) (take l.list-index xss)
