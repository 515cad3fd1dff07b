use Rattle.std.proofs.Common.{rules, ◌≡◌, true}
use Rattle.shell.specs.Numbers.{is_numeral}
use Rattle.shell.proofs.NumberLemmas.{numeral_unfit}
use Rattle.shell.proofs.numbers.numeral.Goals as goal

pub returns-in-Err : goal.returns-in-Err
returns-in-Err c =
    let number : is_numeral c.args.text.now ≡ true = search rules in
    numeral_unfit c.args.text.now number c.in-Err.ensures.value.0
