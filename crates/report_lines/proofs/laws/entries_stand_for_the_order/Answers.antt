use Rattle.report_lines.proofs.EntryLemmas.{entries_are_the_order, entries_are_maximal}
use Rattle.report_lines.proofs.laws.entries_stand_for_the_order.Goals as goal

pub returns-clause-acts : goal.returns-clause-acts
returns-clause-acts c = entries_are_the_order

pub returns-clause-maximal : goal.returns-clause-maximal
returns-clause-maximal c = entries_are_maximal
