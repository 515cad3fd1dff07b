use Rattle.std.proofs.Common.{rules, arith, ◌≡◌, ◌-◌, length, take, drop, sym, true}
use Rattle.std.proofs.lemmas.Grind.{common_steps}
use Rattle.trace_lines.specs.Fields.{ends_number}
use Rattle.trace_lines.proofs.Numbers.{reads_no_more, reads_on}
use Rattle.trace_lines.proofs.fields.more_digits.Goals as goal
use Rattle.trace_lines.proofs.fields.more_digits.Goals.{in_default, in-len1-up+then-not-is_ascii_digit}

pub returns-in_default-with_digit : goal.returns-in_default-with_digit
returns-in_default-with_digit c =
    reads_no_more c.args.value c.loop-rest.value c.args.text.now c.loop-rest.rest.now (search rules) (search rules) (search rules) c.loop-rest.invariant.3 (search rules)

pub loop-rest-preserved : goal.loop-rest-preserved
loop-rest-preserved c =
    let others : take (length c.loop-rest.rest.now - 1) (drop 1 c.loop-rest.rest.now) ≡ drop 1 c.loop-rest.rest.now = grind (arith, common_steps) in
    let read = reads_on c.args.value c.loop-rest.value c.in-Some.more c.args.text.now c.loop-rest.rest.now (search rules) (search rules) (search rules) (search rules)
    c.loop-rest.invariant.0 c.loop-rest.invariant.2 c.loop-rest.invariant.3 in
    rw others (read.0, search rules, read.1, read.2)

pub returns : goal.returns
returns c =
    let whole : ends_number c.loop-rest.rest.now ≡ true =
    elim c.if-rest-lt1.branch [ in_default w ↦ grind (arith, common_steps, w) | in-len1-up+then-not-is_ascii_digit w ↦ grind (arith, common_steps, w) ] in
    (c.loop-rest.invariant.1, record { joined = sym c.loop-rest.invariant.2; whole = whole })
