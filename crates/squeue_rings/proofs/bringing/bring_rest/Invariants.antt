use Rattle.std.proofs.Common.{◌≡◌, ◌++◌, ℕ, List, length}
use Rattle.perimeter_core.specs.declared.entries.Feed.{Feed}
use Rattle.squeue_rings.specs.Bringing.{AreAt, IsReady}
use Rattle.squeue_rings.specs.Paced.{ArePaced}
use Rattle.squeue_rings.proofs.bringing.bring_rest.Given as goal

abbrev pub invariant-loop-rest : goal.invariant-loop-rest
invariant-loop-rest g l =
    record {
      front : List Feed;
      is : l.fn.rest ≡ front ++ l.rest;
      at : (r : ℕ) (list done behind : List Feed) → IsReady g.R.Resident.limits l.pace.homes.squeues l.pace.homes.spread r list l.access.squeues.now done l.fn.rest behind l.fn.places.items
          → AreAt g.R.Resident.limits l.pace.homes.squeues l.pace.homes.spread r l.access.squeues.now (done ++ front) (done ++ front) l.places.items;
      paced : (r : ℕ) (list done behind : List Feed) → IsReady g.R.Resident.limits l.pace.homes.squeues l.pace.homes.spread r list l.access.squeues.now done l.fn.rest behind l.fn.places.items
          → ArePaced g.R.Resident.limits l.pace.homes.squeues l.pace.homes.spread l.pace.mode l.pace.budget r l.access.squeues.now l.fn.places.items
          → ArePaced g.R.Resident.limits l.pace.homes.squeues l.pace.homes.spread l.pace.mode l.pace.budget r l.access.squeues.now l.places.items;
      polling : length l.polling.items ≡ l.pace.homes.squeues;
    }

abbrev pub decreases-loop-rest : goal.decreases-loop-rest
decreases-loop-rest g l = length l.rest
