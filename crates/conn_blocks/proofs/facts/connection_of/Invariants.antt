use Rattle.conn_blocks.proofs.facts.connection_of.Given as goal

abbrev pub ghost-connection_as : goal.ghost-connection_as
ghost-connection_as a = record { plan = a._plan.now; calls = a._calls.now; c = a._c }
