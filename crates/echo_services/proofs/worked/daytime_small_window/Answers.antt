use Rattle.echo_services.proofs.WorkedRows.{daytime_small_window}
use Rattle.echo_services.proofs.worked.daytime_small_window.Goals as goal

pub returns : goal.returns
returns c = daytime_small_window
