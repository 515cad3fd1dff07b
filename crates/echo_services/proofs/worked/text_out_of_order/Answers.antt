use Rattle.echo_services.proofs.WorkedRows.{text_out_of_order}
use Rattle.echo_services.proofs.worked.text_out_of_order.Goals as goal

pub returns : goal.returns
returns c = text_out_of_order
