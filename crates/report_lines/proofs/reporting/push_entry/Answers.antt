use Rattle.report_lines.proofs.OrderTexts.{call_told}
use Rattle.report_lines.proofs.reporting.push_entry.Goals as goal

pub returns-in_ok-push_pair-in-Call-clause-entry : goal.returns-in_ok-push_pair-in-Call-clause-entry
returns-in_ok-push_pair-in-Call-clause-entry g c = call_told c.args.first c.in-Call.j c.in-Call.k c.args.behind.now _ _ c.in-Call.is c.in_ok-push_pair-in-Call.ensures
