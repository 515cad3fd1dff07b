use Rattle.live_server.specs.Timing.{computed, timeout}
use Rattle.live_server.proofs.TimingLemmas.{timeout_said}
use Rattle.live_server.proofs.timing.Timing.timeout.Goals as goal

pub returns-clause-is : goal.returns-clause-is
unfolding timeout
returns-clause-is c =
    let t = c.args.self.now in
    timeout_said c.min-2.result t.timeouts c.min.result c.computed.result (computed t.slow t.trip) c.min.ensures c.computed.ensures.least c.computed.ensures.is c.min-2.ensures
