use Rattle.echo_services.proofs.WorkedRows.{daytime_closes_first}
use Rattle.echo_services.proofs.worked.daytime_closes_first.Goals as goal

pub returns : goal.returns
returns c = daytime_closes_first
