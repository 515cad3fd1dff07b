use Rattle.std.proofs.Common.{inr, refl, sym, ◌∙◌}
use Rattle.trace_lines.proofs.MarkLines.{take_line, ask_line, accept_line, work_line, close_line, claim_ask_line, none_without_feeds}
use Rattle.trace_lines.proofs.marks.without_feeds.Goals as goal

pub returns-in-Some : goal.returns-in-Some
returns-in-Some c = let h = c.in-Some.ensures in (h.0, h.1 ∙ sym (take_line c.in-Some.p c.in-Some.rest.now))

pub returns-in-Some-lone_number : goal.returns-in-Some-lone_number
returns-in-Some-lone_number c = let h = c.in-Some-lone_number.ensures in (h.0, h.1 ∙ sym (ask_line c.in-Some-lone_number.p c.in-Some-lone_number.rest.now))

pub returns-in-Some-lone_number-2 : goal.returns-in-Some-lone_number-2
returns-in-Some-lone_number-2 c = let h = c.in-Some-lone_number-2.ensures in (h.0, h.1 ∙ sym (accept_line c.in-Some-lone_number-2.p c.in-Some-lone_number-2.rest.now))

pub returns-in-Some-lone_number-3 : goal.returns-in-Some-lone_number-3
returns-in-Some-lone_number-3 c = let h = c.in-Some-lone_number-3.ensures in (h.0, h.1 ∙ sym (work_line c.in-Some-lone_number-3.p c.in-Some-lone_number-3.rest.now))

pub returns-in-Some-lone_number-4 : goal.returns-in-Some-lone_number-4
returns-in-Some-lone_number-4 c = let h = c.in-Some-lone_number-4.ensures in (h.0, h.1 ∙ sym (close_line c.in-Some-lone_number-4.p c.in-Some-lone_number-4.rest.now))

pub returns-in-Some-lone_number-5 : goal.returns-in-Some-lone_number-5
returns-in-Some-lone_number-5 c = let h = c.in-Some-lone_number-5.ensures in ((h.0, inr refl), h.1 ∙ sym (claim_ask_line c.in-Some-lone_number-5.p c.in-Some-lone_number-5.rest.now))

pub returns : goal.returns
returns c =
    none_without_feeds c.args.text.now c.in_default.ensures c.in_default-lone_number.ensures c.in_default-lone_number-2.ensures c.in_default-lone_number-3.ensures c.in_default-lone_number-4.ensures
    c.in_default-lone_number-5.ensures c.in_default-grant.ensures c.in_default-leave.ensures
