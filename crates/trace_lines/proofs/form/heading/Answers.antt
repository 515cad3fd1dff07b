use Rattle.trace_lines.proofs.MarkLists.{heading_cut, heading_found, no_heading, other_heading}
use Rattle.trace_lines.proofs.form.heading.Goals as goal

pub returns-in_default : goal.returns-in_default
returns-in_default c = no_heading c.args.text.now c.args.q c.ranges.q.fits c.in_default.ensures

pub returns-then-number-q : goal.returns-then-number-q
returns-then-number-q c = other_heading c.args.text.now c.in-Some.rest.now c.in-Some.number c.args.q c.ranges.q.fits c.in-Some.ensures c.if-number-q.true

pub returns-in_default-number_to : goal.returns-in_default-number_to
returns-in_default-number_to c = heading_cut c.args.text.now c.in-Some.rest.now c.in-Some.number c.args.q c.ranges.q.fits c.in-Some.ensures c.in_default-number_to.ensures

pub returns : goal.returns
returns c =
    heading_found c.args.text.now c.in-Some.rest.now c.in-Some-number_to.marks.now c.in-Some.number c.args.q c.in-Some-number_to.count c.if-number-q.false c.in-Some.ensures c.in-Some-number_to.ensures
