use Rattle.echo_services.proofs.WorkedRows.{small_buffer}
use Rattle.echo_services.proofs.worked.small_buffer.Goals as goal

pub returns : goal.returns
returns c = small_buffer
