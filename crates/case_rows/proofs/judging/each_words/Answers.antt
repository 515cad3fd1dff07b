use Rattle.std.proofs.Common.{◌∙◌, subst, sym}
use Rattle.std.specs.List.{AllByRecursion}
use Rattle.std.proofs.lemmas.List.{take_all}
use Rattle.case_rows.specs.Rows.{Line}
use Rattle.case_rows.specs.Runs.{PassesEach, PassesWords}
use Rattle.case_rows.proofs.Outputs.{some_lines}
use Rattle.case_rows.proofs.RunLemmas.{all_on, words_on, words_passed}
use Rattle.case_rows.proofs.judging.each_words.Goals as goal

pub loop-line-preserved : goal.loop-line-preserved
loop-line-preserved g c =
    let given = c.args.given.now in
    let fields = c.args.row.now.fields.items in
    let lines = c.lines-lines.result.now in
    let had = c.loop-line.invariant in (
      words_on given c.loop-line.given c.run_words.new.given had.0 c.in_ok-run_words.ensures.same,
      all_on (λ (line : Line). PassesWords g.P.Fn c.args.program.now fields given line.now) lines c.loop-line.line-index _ c.loop-line-test.true had.1
          (words_passed g.P.Fn c.args.program.now fields given c.loop-line.given _ had.0 c.in_ok-run_words.ensures.passes),
    )

pub returns : goal.returns
returns g c =
    let given = c.args.given.now in
    let fields = c.args.row.now.fields.items in
    let lines = c.lines-lines.result.now in
    let every = subst (AllByRecursion (λ (line : Line). PassesWords g.P.Fn c.args.program.now fields given line.now)) (take_all c.loop-line.line-index lines c.loop-line-test.false) c.loop-line.invariant.1 in
    subst (PassesEach g.P.Fn c.args.program.now fields) c.lines-lines.ensures record {
      given = given;
      gives = c.requires.gives;
      some = some_lines lines (sym c.is_empty.ensures ∙ c.in_ok-expect_some.ensures);
      each = every;
    }
