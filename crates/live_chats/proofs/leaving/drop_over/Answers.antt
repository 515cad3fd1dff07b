use Rattle.live_chats.proofs.leaving.drop_over.Goals as goal

pub returns-clause-table : goal.returns-clause-table
unfolding Rattle.live_server.specs.Table.without_over
returns-clause-table g c = c.drop_who.ensures.table
