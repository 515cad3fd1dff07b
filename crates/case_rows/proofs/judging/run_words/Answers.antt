use Rattle.std.proofs.Common.{ℕ, List, refl, subst}
use Rattle.std.proofs.lemmas.Result.{on_ok_weaker}
use Rattle.case_rows.specs.Runs.{Passes, all}
use Rattle.case_rows.specs.declared.given.Given.{Given}
use Rattle.case_rows.proofs.RunLemmas.{on_ok_by}
use Rattle.case_rows.proofs.judging.run_words.Goals as goal

pub returns-clause-passes : goal.returns-clause-passes
returns-clause-passes g c =
    let given : Given = record c.args.given.now { words = c.in_ok-given.field-0 } in
    on_ok_weaker c.in_run.result (λ p.
    (given, record { same = refl; words = c.in_ok-given.ensures }, subst (λ (input : List ℕ). Passes g.P.Fn c.args.program.now c.args.row.now.fields.items given input all) c.deref.ensures.value p))
    (on_ok_by c.in_run.result c.judge_one-judged.result _ c.in_run.ensures c.judge_one-judged.ensures)
