use Rattle.std.proofs.Common.{rules, ◌≡◌, true}
use Rattle.shell.specs.Numbers.{is_number}
use Rattle.shell.proofs.NumberLemmas.{too_great}
use Rattle.shell.proofs.numbers.number_between.Goals as goal

pub returns-in_default-3 : goal.returns-in_default-3
returns-in_default-3 c =
    let number : is_number c.args.text.now ≡ true = search rules in
    too_great c.args.text.now c.args.least c.args.most c.ranges.most.fits number c.in_default.ensures.value.0
