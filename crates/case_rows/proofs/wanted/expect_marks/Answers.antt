use Rattle.std.proofs.Common.{◌≡◌, ◌∙◌, Ok, ap, map, rules}
use Rattle.std.specs.Str.Lines.{lines}
use Rattle.std.specs.declared.alloc.AllocError.{AllocError}
use Rattle.std.proofs.lemmas.Iterator.Consumers.{map_from_collect}
use Rattle.std.proofs.lemmas.Iterator.Splits.{YieldsList-from_lines}
use Rattle.case_rows.specs.Rows.{Line}
use Rattle.case_rows.proofs.WordLemmas.{marks_ok}
use Rattle.case_rows.proofs.wanted.expect_marks.Goals as goal

pub returns : goal.returns
returns c =
    let all = map_from_collect {E = AllocError} (Ok c.in_ok-all.all) c.in_ok-all.ensures.ran (YieldsList-from_lines c.in-Ok.text.now c.lines.ensures.rest) in
    let text : c.in-Ok.text.now ≡ c.args.out.now = search rules in
    marks_ok c.expect_marks_among.result c.args.least c.args.most _ c.args.out.now (ap (map (λ (l : Line). l.now)) c.deref.ensures.value ∙ (all ∙ ap lines text)) c.expect_marks_among.ensures.told c.expect_marks_among.ensures.limits
