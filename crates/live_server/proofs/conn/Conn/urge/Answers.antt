use Rattle.live_server.proofs.conn.Conn.urge.Goals as goal

pub returns-clause-met : goal.returns-clause-met
returns-clause-met c = c.hear_pointer-met.ensures.met c.args.tuple.now
