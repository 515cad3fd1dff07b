use Rattle.echo_services.proofs.WorkedRows.{zero_window_probe}
use Rattle.echo_services.proofs.worked.zero_window_probe.Goals as goal

pub returns : goal.returns
returns c = zero_window_probe
