use Rattle.std.proofs.Common.{rules, arith, ◌≡◌, ℕ, ◌-◌, ◌^◌, ◌<◌, ◌++◌, List, length, take, drop, get_or, ◌∙◌, true, ap, subst, MatchOption}
use Rattle.std.specs.Char.{is_ascii_digit}
use Rattle.std.specs.Fmt.{decimal}
use Rattle.std.proofs.lemmas.Grind.{common_steps}
use Rattle.trace_lines.specs.Fields.{BeginsWithNumber, ends_number}
use Rattle.trace_lines.proofs.Numbers.{first_is_digit, is_zero, with_first, zero_ends}
use Rattle.trace_lines.proofs.fields.number.Goals as goal

pub returns-in_default : goal.returns-in_default
returns-in_default c = λ n rest small h. grind (arith, common_steps, c.in_default, first_is_digit c.args.text.now n rest small h)

pub returns-then-not-is_ascii_digit : goal.returns-then-not-is_ascii_digit
returns-then-not-is_ascii_digit c = λ n rest small h. grind (arith, common_steps, c.is_ascii_digit.ensures.value, first_is_digit c.args.text.now n rest small h)

pub returns-then-begins_with_digit : goal.returns-then-begins_with_digit
returns-then-begins_with_digit c = λ n rest small h.
    let others : take (length c.args.text.now - 1) (drop 1 c.args.text.now) ≡ drop 1 c.args.text.now = grind (arith, common_steps) in
    let some : 0 < length c.args.text.now = search rules in
    grind (arith, others, c.begins_with_digit.ensures, zero_ends c.args.text.now n rest some c.if-first-eq48.true small h)

pub returns-else-begins_with_digit : goal.returns-else-begins_with_digit
returns-else-begins_with_digit c =
    let others : take (length c.args.text.now - 1) (drop 1 c.args.text.now) ≡ drop 1 c.args.text.now = grind (arith, common_steps) in
    let some : 0 < length c.args.text.now = search rules in
    let ends : ends_number (drop 1 c.args.text.now) ≡ true = grind (arith, others, c.begins_with_digit.ensures) in
    (omega arith, rw others (is_zero c.args.text.now some c.if-first-eq48.true ends))

pub returns : goal.returns
returns c =
    let others : take (length c.args.text.now - 1) (drop 1 c.args.text.now) ≡ drop 1 c.args.text.now = grind (arith, common_steps) in
    let some : 0 < length c.args.text.now = search rules in
    let is : is_ascii_digit (get_or c.args.text.now 0 0) ≡ true = search rules in
    let whole : decimal c.from.result ++ take (length c.args.text.now - 1) (drop 1 c.args.text.now) ≡ c.args.text.now =
    rw others (ap (λ n. decimal n ++ drop 1 c.args.text.now) c.from.ensures ∙ with_first c.args.text.now some is) in
    subst (λ t. MatchOption c.more_digits.result ((n : ℕ) (rest : List ℕ) → n < 2 ^ 64 → BeginsWithNumber t n rest → ⊥) (λ r. (r.0 < 2 ^ 64) × BeginsWithNumber t r.0 r.1.now)) whole c.more_digits.ensures
