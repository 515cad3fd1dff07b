use Rattle.echo_services.proofs.WorkedRows.{scaled_five_segment_echo}
use Rattle.echo_services.proofs.worked.scaled_five_segment_echo.Goals as goal

pub returns : goal.returns
returns c = scaled_five_segment_echo
