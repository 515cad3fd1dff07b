use Rattle.std.proofs.Common.{sym, subst}
use Rattle.live_server.specs.Table.{IsNew}
use Rattle.live_server.proofs.TableLemmas.{new_without, within_at}
use Rattle.live_server.proofs.rules.Rules.yield_place.Goals as goal

pub returns-then-is_waiting_at-clause-new : goal.returns-then-is_waiting_at-clause-new
returns-then-is_waiting_at-clause-new g c = λ t new.
    let cs = g.T.ConnTable.conns c.args.self.now.table in
    subst (λ l. IsNew t l) (sym c.leave.ensures.table)
    (new_without t cs c.in-Some.place (within_at c.args.waiting.now.0 cs c.in-Some.place (sym c.in-Some.ensures)) new)
