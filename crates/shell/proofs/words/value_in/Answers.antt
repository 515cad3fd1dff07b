use Rattle.std.proofs.Common.{◌∙◌}
use Rattle.clap.specs.Words.{found_of, rows_of}
use Rattle.clap.proofs.WalkLemmas.{first_value-rows, one_text-rows}
use Rattle.shell.proofs.Values.{flag_given, number_given, text_given}
use Rattle.shell.proofs.words.value_in.Goals as goal

pub returns-in-Nothing : goal.returns-in-Nothing
returns-in-Nothing c us holds =
    let found = found_of c.args.matches.now in
    let name = c.args.row.now.name.now in
    flag_given c.args.row.now.takes name (rows_of found) us holds c.get_flag.result _ c.in-Nothing.is
    (λ e. c.get_flag.ensures.value (one_text-rows found name ∙ e)) (λ e. c.get_flag.ensures.other (one_text-rows found name ∙ e)) c.set_where.ensures

pub returns-in-Number : goal.returns-in-Number
returns-in-Number c us holds =
    let found = found_of c.args.matches.now in
    let name = c.args.row.now.name.now in
    number_given c.args.row.now.takes name (rows_of found) us holds c.in-Number.least c.in-Number.most c.in-Number.default _ _ c.in-Number.is
    (c.get_str.ensures ∙ first_value-rows found name) c.number_in.ensures

pub returns-in-Text : goal.returns-in-Text
returns-in-Text c us holds =
    let found = found_of c.args.matches.now in
    let name = c.args.row.now.name.now in
    text_given c.args.row.now.takes name (rows_of found) us holds c.in-Text.shown c.in-Text.default _ _ c.in-Text.is
    (c.get_str-in-Text.ensures ∙ first_value-rows found name) c.text_in.ensures
