use Rattle.std.proofs.Common.{◌≡◌, [], length}
use Rattle.sq_base.specs.declared.kinds.Tuple.{Tuple}
use Rattle.live_server.specs.Serving.{makes_place, server_of}
use Rattle.live_server.specs.Table.{IsNew}
use Rattle.live_server.proofs.rules.Rules.make_place.Given as goal

-- what is left of the waiting leads where all led, and what was new is new
abbrev pub invariant-yielding : goal.invariant-yielding
invariant-yielding g l = record {
  good : g.T.ConnTable.good l.self.table;
  told : g.T.ConnTable.tells l.fn.self.table [] l.self.table;
  leads : makes_place (server_of g.T.ConnTable.conns l.self) ≡ makes_place (server_of g.T.ConnTable.conns l.fn.self);
  new : (t : Tuple) → IsNew t (g.T.ConnTable.conns l.fn.self.table) → IsNew t (g.T.ConnTable.conns l.self.table);
}

abbrev pub decreases-yielding : goal.decreases-yielding
decreases-yielding g l = length l.self.waiting.items
