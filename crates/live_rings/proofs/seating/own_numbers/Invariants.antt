use Rattle.std.proofs.Common.{◌≡◌, ◌≤◌, length}
use Rattle.std.specs.VecDeque.{deque_capacity}
use Rattle.live_rings.specs.Seating.{numbers_of}
use Rattle.live_rings.proofs.seating.own_numbers.Given as goal

-- the numbers of the places before this one are there
abbrev pub invariant-loop-n : goal.invariant-loop-n
invariant-loop-n l =
    record {
      numbers : l.numbers.items ≡ numbers_of l.rings l.ring l.n;
      many : length l.numbers.items ≡ l.n;
      room : l.places ≤ deque_capacity l.numbers;
    }
