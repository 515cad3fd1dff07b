use Rattle.std.proofs.Common.{◌≡◌, ◌≤◌, ℕ, length}
use Rattle.squeue_rings.specs.Bringing.{IsFar}
use Rattle.squeue_rings.specs.Paced.{ArePaced}
use Rattle.squeue_rings.proofs.bringing.bring_all.Given as goal

abbrev pub invariant-loop : goal.invariant-loop
invariant-loop g l =
    record {
      ring : l.end.ring ≡ l.ring.ring;
      empty : l.empty ≤ 1024;
      far : (r : ℕ) → IsFar g.R.Resident.limits l.pace.homes.squeues l.pace.homes.spread r l.list l.access.squeues.now 0 l.fn.places.items → IsFar g.R.Resident.limits l.pace.homes.squeues l.pace.homes.spread r l.list l.access.squeues.now l.end.popped l.places.items;
      paced : (r : ℕ) → IsFar g.R.Resident.limits l.pace.homes.squeues l.pace.homes.spread r l.list l.access.squeues.now 0 l.fn.places.items
          → ArePaced g.R.Resident.limits l.pace.homes.squeues l.pace.homes.spread l.pace.mode l.pace.budget r l.access.squeues.now l.fn.places.items
          → ArePaced g.R.Resident.limits l.pace.homes.squeues l.pace.homes.spread l.pace.mode l.pace.budget r l.access.squeues.now l.places.items;
      polling : length l.polling.items ≡ l.pace.homes.squeues;
    }
