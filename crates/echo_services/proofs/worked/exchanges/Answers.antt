use Rattle.echo_services.proofs.ExchangeRows.{answered}
use Rattle.echo_services.proofs.worked.exchanges.Goals as goal

pub returns : goal.returns
returns c = answered
