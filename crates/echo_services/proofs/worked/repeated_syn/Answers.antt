use Rattle.echo_services.proofs.WorkedRows.{repeated_syn}
use Rattle.echo_services.proofs.worked.repeated_syn.Goals as goal

pub returns : goal.returns
returns c = repeated_syn
