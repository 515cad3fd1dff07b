use Rattle.std.proofs.Common.{arith, ◌≡◌, ◌^◌, ◌<◌, subst}
use Rattle.trace_lines.proofs.Numbers.{one_number}
use Rattle.trace_lines.proofs.fields.small.Goals as goal

pub returns-in-Err : goal.returns-in-Err
returns-in-Err c = λ n rest small h.
    let found = c.in_ok-value.ensures in
    let same : n ≡ c.in_ok-value.value = one_number c.args.text.now n c.in_ok-value.value rest c.in_ok-value.rest.now (omega (arith, small)) found.0 h found.1 in
    c.in-Err.ensures (subst (λ x. x < 2 ^ 32) same small)
