use Rattle.echo_services.proofs.WorkedRows.{five_segment_echo}
use Rattle.echo_services.proofs.worked.five_segment_echo.Goals as goal

pub returns : goal.returns
returns c = five_segment_echo
