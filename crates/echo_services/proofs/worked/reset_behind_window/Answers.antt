use Rattle.echo_services.proofs.WorkedRows.{reset_behind_window}
use Rattle.echo_services.proofs.worked.reset_behind_window.Goals as goal

pub returns : goal.returns
returns c = reset_behind_window
