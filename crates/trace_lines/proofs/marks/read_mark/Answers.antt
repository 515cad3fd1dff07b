use Rattle.trace_lines.proofs.ItsFeeds.{of_claim, of_fill}
use Rattle.trace_lines.proofs.MarkLines.{no_mark, with_claim, with_fill}
use Rattle.trace_lines.proofs.marks.read_mark.Goals as goal

pub returns-in-Some-2 : goal.returns-in-Some-2
returns-in-Some-2 c =
    let mark = c.with_feeds.new.mark in
    let read = rw c.in-Some-2.is at c.in_ok-rest.ensures in
    let is = with_fill c.args.text.now c.in-Some-2.rest.now mark.p mark.kind mark.feeds.items read in (is.0, is.1, of_fill mark.kind mark.feeds.items read.1)

pub returns-in_default-3 : goal.returns-in_default-3
returns-in_default-3 c =
    no_mark c.args.text.now c.in_default.ensures c.in_default-fast.ensures (rw c.in_default-2.is at c.in_ok-rest.ensures) (rw c.in_default-3.is at c.in_ok-rest-2.ensures)

pub returns : goal.returns
returns c =
    let mark = c.with_feeds-2.new.mark in
    let read = rw c.in-Some-3.is at c.in_ok-rest-2.ensures in
    let is = with_claim c.args.text.now c.in-Some-3.rest.now mark.p mark.kind mark.feeds.items read in (is.0, is.1, of_claim mark.kind mark.feeds.items read.1)
