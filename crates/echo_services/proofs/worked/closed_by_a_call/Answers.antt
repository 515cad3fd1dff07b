use Rattle.echo_services.proofs.WorkedRows.{closed_by_a_call}
use Rattle.echo_services.proofs.worked.closed_by_a_call.Goals as goal

pub returns : goal.returns
returns c = closed_by_a_call
