use Rattle.std.proofs.Common.{arith, not, ◌∷◌, ap}
use Rattle.trace_lines.specs.Fields.{BeginsWithNumber}
use Rattle.trace_lines.proofs.Numbers.{same_rest}
use Rattle.trace_lines.proofs.fields.number_to.Goals as goal

pub returns-in_default : goal.returns-in_default
returns-in_default c = λ n rest small is. c.in_default.ensures n (c.args.end ∷ rest) small (record { joined = is; whole = ap not c.requires })

pub returns-in_default-behind_byte : goal.returns-in_default-behind_byte
returns-in_default-behind_byte c = λ n rest small is.
    let found = c.in-Some.ensures in
    let here : BeginsWithNumber c.args.text.now n (c.args.end ∷ rest) = record { joined = is; whole = ap not c.requires } in
    c.in_default-behind_byte.ensures rest (same_rest c.args.text.now c.in-Some.n n c.in-Some.rest.now (c.args.end ∷ rest) (omega (arith, found.0)) small found.1 here)
