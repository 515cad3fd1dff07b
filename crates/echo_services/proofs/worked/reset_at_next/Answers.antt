use Rattle.echo_services.proofs.WorkedRows.{reset_at_next}
use Rattle.echo_services.proofs.worked.reset_at_next.Goals as goal

pub returns : goal.returns
returns c = reset_at_next
