use Rattle.live_server.proofs.UnreachedLemmas.{report_harmless}
use Rattle.live_server.proofs.laws.no_report_ends_an_open_connection.Goals as goal

pub returns : goal.returns
returns c = report_harmless
