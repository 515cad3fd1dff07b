use Rattle.live_server.proofs.conn.Conn.shorten.Goals as goal

pub returns-clause-met : goal.returns-clause-met
returns-clause-met c = c.in_ok-met.ensures.met c.args.tuple.now
