use Rattle.echo_services.proofs.WorkedRows.{handshake_retransmissions}
use Rattle.echo_services.proofs.worked.handshake_retransmissions.Goals as goal

pub returns : goal.returns
returns c = handshake_retransmissions
