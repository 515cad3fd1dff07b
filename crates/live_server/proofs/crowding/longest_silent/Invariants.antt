use Rattle.std.proofs.Common.{◌≡◌, ◌≤◌, length}
use Rattle.sq_base.specs.declared.kinds.Tuple.{Tuple}
use Rattle.live_server.specs.Candidates.{crowds}
use Rattle.live_server.specs.declared.conn.Conn.{Conn}
use Rattle.live_server.proofs.CrowdingLemmas.{Earliest}
use Rattle.live_server.proofs.crowding.longest_silent.Given as goal

abbrev pub invariant-loop-place : goal.invariant-loop-place
invariant-loop-place g l =
    let cs = g.T.ConnTable.conns l.table in
    record {
      earliest : Earliest (λ (c : Tuple × Conn). crowds c.0.client.0 l.crowders) (λ (c : Tuple × Conn). c.1.heard) cs l.place l.found;
      within : l.place ≤ length cs;
      all : l.place-end ≡ length cs;
    }
