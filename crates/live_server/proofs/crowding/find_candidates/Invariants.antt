use Rattle.std.proofs.Common.{◌≡◌, ℕ, ◌+◌, ◌*◌, ◌≤◌, length, take}
use Rattle.live_server.specs.Candidates.{total, weight}
use Rattle.live_server.specs.Leaving.{share}
use Rattle.live_server.proofs.crowding.find_candidates.Given as goal

-- an address with so many that were counted has at least so many who speak for it
abbrev pub invariant-loop-place : goal.invariant-loop-place
invariant-loop-place g l =
    let cs = g.T.ConnTable.conns l.table in
    record {
      kept : (a : ℕ) → 4 * share a (take l.place cs) + total l.found ≤ 4 * weight a l.found + l.place;
      bounded : total l.found ≤ l.place;
      within : l.place ≤ length cs;
      all : l.place-end ≡ length cs;
    }
