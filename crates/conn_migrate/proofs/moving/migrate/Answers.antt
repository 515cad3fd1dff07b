use Rattle.std.proofs.Common.{◌∙◌}
use Rattle.conn_migrate.proofs.OwnMarks.{knows_out, knows_in, next_out, next_in}
use Rattle.conn_migrate.proofs.NextFeeds.{fed_is_due}
use Rattle.conn_migrate.proofs.moving.migrate.Goals as goal

pub returns-clause-left : goal.returns-clause-left
returns-clause-left g c = knows_out c.requires.from.may_ask.pass c.requires.from.ring c.take_from-left.ensures.moved

pub returns-clause-come : goal.returns-clause-come
returns-clause-come g c = knows_in c.requires.to.may_ask.pass c.requires.to.ring c.put_into-come.ensures

pub returns-clause-next : goal.returns-clause-next
returns-clause-next g c = next_out c.requires.from.may_ask.pass c.requires.from.ring c.take_from-left.ensures.moved

pub returns-clause-due : goal.returns-clause-due
returns-clause-due g c = next_in c.requires.to.may_ask.pass c.requires.to.ring c.put_into-come.ensures ∙ fed_is_due c.take_from-left.ensures.moved
