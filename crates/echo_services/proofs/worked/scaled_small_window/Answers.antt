use Rattle.echo_services.proofs.WorkedRows.{scaled_small_window}
use Rattle.echo_services.proofs.worked.scaled_small_window.Goals as goal

pub returns : goal.returns
returns c = scaled_small_window
