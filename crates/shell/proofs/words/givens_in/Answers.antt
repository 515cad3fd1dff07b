use Rattle.std.proofs.Common.{rules, ◌≡◌, ◌∙◌, ◌<◌, ◌++◌, ◌∷◌, [], ap, arith, length, sym}
use Rattle.std.specs.Prelude.{option_map}
use Rattle.clap.specs.Words.{found_of, rows_of}
use Rattle.shell.specs.Asked.{given_is}
use Rattle.shell.specs.Command.{HoldsOne}
use Rattle.shell.proofs.Givens.{row_given, row_holds, row_spoils}
use Rattle.shell.proofs.words.givens_in.Goals as goal

pub returns-in_default-clause-usage : goal.returns-in_default-clause-usage
returns-in_default-clause-usage c us holds e =
    let within : c.loop-row.row-index < length c.args.options.now = omega (arith, c.loop-row-test.true) in
    row_spoils us c.args.options.now c.loop-row.row-index _ within
    (sym (ap (option_map given_is) c.in_default.is) ∙ c.given_in.ensures us (row_holds (HoldsOne (rows_of (found_of c.args.matches.now)) us) c.args.options.now c.loop-row.row-index _ within holds.each))

pub loop-row-preserved : goal.loop-row-preserved
loop-row-preserved c us holds =
    let within : c.loop-row.row-index < length c.args.options.now = omega (arith, c.loop-row-test.true) in
    let items : c.push.new.self.items ≡ c.loop-row.givens.items ++ c.in-Some.given ∷ [] = search rules in
    row_given us c.args.options.now c.loop-row.row-index _ within c.loop-row.givens.items c.push.new.self.items c.in-Some.given (c.loop-row.invariant us holds)
    (sym (ap (option_map given_is) c.in-Some.is) ∙ c.given_in.ensures us (row_holds (HoldsOne (rows_of (found_of c.args.matches.now)) us) c.args.options.now c.loop-row.row-index _ within holds.each))
    items
