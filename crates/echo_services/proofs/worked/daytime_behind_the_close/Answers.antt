use Rattle.echo_services.proofs.WorkedRows.{daytime_behind_the_close}
use Rattle.echo_services.proofs.worked.daytime_behind_the_close.Goals as goal

pub returns : goal.returns
returns c = daytime_behind_the_close
