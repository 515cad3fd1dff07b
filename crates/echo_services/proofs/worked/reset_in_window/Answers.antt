use Rattle.echo_services.proofs.WorkedRows.{reset_in_window}
use Rattle.echo_services.proofs.worked.reset_in_window.Goals as goal

pub returns : goal.returns
returns c = reset_in_window
