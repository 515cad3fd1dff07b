use Rattle.std.proofs.Common.{[], ap, append-nil, length, arith, subst}
use Rattle.live_server.specs.Serving.{server_of}
use Rattle.live_server.specs.Table.{Conns}
use Rattle.live_server.specs.Told.{told_time}
use Rattle.live_server.proofs.ShedLemmas.{shed_short}
use Rattle.live_server.proofs.TickLemmas.{left_short}
use Rattle.live_server.proofs.rules.Rules.tick.Goals as goal

pub overflow_sub-left : goal.overflow_sub-left
overflow_sub-left g c =
    let setting = c.args.self.now.setting in
    let here = g.T.ConnTable.conns c.drop_over.new.self in
    let kept = g.T.ConnTable.conns c.drop_leaving.new.self in
    omega (
      arith,
      left_short setting c.args.now here,
      ap (λ (l : Conns). length l) c.drop_leaving.ensures.table,
      shed_short setting c.args.self.now.turned kept,
      ap (λ (l : Conns). length l) c.shed.ensures.table,
      c.len.ensures,
      c.len-here.ensures,
    )

pub returns-clause-told : goal.returns-clause-told
returns-clause-told g c =
    let first = c.args.self.now.table in
    let reached = c.reach_all.new.self in
    let here = c.drop_over.new.self in
    let kept = c.drop_leaving.new.self in
    let last = c.shed.new.self.table in
    let told = told_time (server_of g.T.ConnTable.conns c.args.self.now) in
    subst (λ ws. g.T.ConnTable.tells first ws last) (append-nil told)
    (g.met.T.ConnTable.tells_on first reached last told [] c.in_ok-reach_all.ensures.told
    (g.met.T.ConnTable.tells_on reached here last [] [] c.drop_over.ensures.told
    (g.met.T.ConnTable.tells_on here kept last [] [] c.drop_leaving.ensures.told c.shed.ensures.told)))
