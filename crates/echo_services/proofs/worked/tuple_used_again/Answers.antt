use Rattle.echo_services.proofs.WorkedRows.{tuple_used_again}
use Rattle.echo_services.proofs.worked.tuple_used_again.Goals as goal

pub returns : goal.returns
returns c = tuple_used_again
