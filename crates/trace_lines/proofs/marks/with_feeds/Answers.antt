use Rattle.trace_lines.proofs.MarkLines.{feeds_owed}
use Rattle.trace_lines.proofs.marks.with_feeds.Goals as goal

pub returns-in_default-2 : goal.returns-in_default-2
returns-in_default-2 c =
    feeds_owed c.args.text.now c.args.form.now c.in-Some.rest.now c.in-Some.p c.requires.form c.requires.blanks c.in-Some.ensures (rw c.in_default-2.is at c.in_ok-others.ensures)
