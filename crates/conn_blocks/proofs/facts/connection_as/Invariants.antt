use Rattle.conn_blocks.proofs.facts.connection_as.Given as goal

abbrev pub ghost-pick : goal.ghost-pick
ghost-pick g a = g.picked
