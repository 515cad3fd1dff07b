-- Discard (RFC 863): what is received is thrown away.
use Rattle.byte_queues.specs.ReceiveQueue.{ready_of}
use Rattle.tcb_machine.specs.BlockState.{Block}
use Rattle.echo_services.specs.Closing.{ends, throws}

abbrev pub discard : Block → Block
discard b = ends (throws (ready_of b.recv) b)
