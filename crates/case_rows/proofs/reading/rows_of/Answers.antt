use Rattle.std.proofs.Common.{◌∙◌, ◌&&◌, [], Ok, ap, map, sym}
use Rattle.std.specs.declared.alloc.AllocError.{AllocError}
use Rattle.std.proofs.lemmas.Result.{IfOk-weaker, on_ok_weaker}
use Rattle.std.proofs.lemmas.Iterator.Consumers.{map_from_collect}
use Rattle.std.proofs.lemmas.Iterator.Splits.{YieldsList-from_lines}
use Rattle.case_rows.specs.Files.{begins, fit_rows, groups, numbered, rows_in, said, starts}
use Rattle.case_rows.specs.Rows.{Line}
use Rattle.case_rows.proofs.reading.rows_of.Goals as goal

pub returns-clause-rows : goal.returns-clause-rows
returns-clause-rows c =
    let all = map_from_collect {E = AllocError} (Ok c.in_ok-all.all) c.in_ok-all.ensures.ran (YieldsList-from_lines c.args.text.now c.lines.ensures.rest) in
    let lines = ap (map (λ (l : Line). l.now)) c.deref.ensures.value ∙ all in
    let saids = ap (map numbered) c.deref-2.ensures.value ∙ (c.in_ok-said.ensures ∙ ap (said 1) lines) in
    IfOk-weaker c.rows_among.result _ _ (λ rows h. h ∙ ap (λ ls. rows_in [] (groups begins ls)) saids) c.rows_among.ensures.rows

pub returns-clause-fits : goal.returns-clause-fits
returns-clause-fits c =
    let all = map_from_collect {E = AllocError} (Ok c.in_ok-all.all) c.in_ok-all.ensures.ran (YieldsList-from_lines c.args.text.now c.lines.ensures.rest) in
    let lines = ap (map (λ (l : Line). l.now)) c.deref.ensures.value ∙ all in
    let saids = ap (map numbered) c.deref-2.ensures.value ∙ (c.in_ok-said.ensures ∙ ap (said 1) lines) in
    on_ok_weaker c.rows_among.result (λ h. ap (λ ls. starts begins ls && fit_rows [] [] (groups begins ls)) (sym saids) ∙ h) c.rows_among.ensures.fits
