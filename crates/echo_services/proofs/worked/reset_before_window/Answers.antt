use Rattle.echo_services.proofs.WorkedRows.{reset_before_window}
use Rattle.echo_services.proofs.worked.reset_before_window.Goals as goal

pub returns : goal.returns
returns c = reset_before_window
