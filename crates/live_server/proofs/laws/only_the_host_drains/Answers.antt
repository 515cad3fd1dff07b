use Rattle.live_server.proofs.HostLemmas.{host_drains, time_keeps_drain}
use Rattle.live_server.proofs.laws.only_the_host_drains.Goals as goal

pub returns-clause-datagram : goal.returns-clause-datagram
returns-clause-datagram c = host_drains

pub returns-clause-time : goal.returns-clause-time
returns-clause-time c = time_keeps_drain
