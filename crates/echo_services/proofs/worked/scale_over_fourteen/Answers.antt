use Rattle.echo_services.proofs.WorkedRows.{scale_over_fourteen}
use Rattle.echo_services.proofs.worked.scale_over_fourteen.Goals as goal

pub returns : goal.returns
returns c = scale_over_fourteen
