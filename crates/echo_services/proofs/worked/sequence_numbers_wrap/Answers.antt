use Rattle.echo_services.proofs.WorkedRows.{sequence_numbers_wrap}
use Rattle.echo_services.proofs.worked.sequence_numbers_wrap.Goals as goal

pub returns : goal.returns
returns c = sequence_numbers_wrap
