use Rattle.live_server.proofs.MarkingLemmas.{marked_is_read, marks_a_header}
use Rattle.live_server.proofs.laws.what_is_marked_is_read.Goals as goal

pub returns-clause-segment : goal.returns-clause-segment
returns-clause-segment c = marked_is_read

pub returns-clause-header : goal.returns-clause-header
returns-clause-header c = marks_a_header
