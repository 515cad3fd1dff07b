use Rattle.datagram_services.proofs.Placing.{call_stands}
use Rattle.datagram_services.proofs.blocks.StreamBlocksResident.call.Goals as goal

pub returns-clause-stands : goal.returns-clause-stands
returns-clause-stands c blocks old = call_stands c.args.self.now.plan.now c.args.self.now.places.items blocks c.args._c c.args._j c.args._k old
