use Rattle.std.proofs.Common.{ℕ, List, refl, subst}
use Rattle.std.proofs.lemmas.Result.{on_ok_weaker}
use Rattle.case_rows.specs.Runs.{Passes, all}
use Rattle.case_rows.specs.declared.given.Given.{Given}
use Rattle.case_rows.proofs.RunLemmas.{on_ok_by}
use Rattle.case_rows.proofs.judging.run_read.Goals as goal

pub returns-clause-passes : goal.returns-clause-passes
returns-clause-passes g c =
    let given : Given = record c.args.given.now { failing = record c.args.given.now.failing { reads = c.let_fail.new.calls } } in
    on_ok_weaker c.in_numbered.result (λ p.
    (given, record { same = refl; only = c.in_ok-let_fail.ensures }, subst (λ (input : List ℕ). Passes g.P.Fn c.args.program.now c.args.row.now.fields.items given input all) c.deref.ensures.value p))
    (on_ok_by c.in_numbered.result c.judge_one-judged.result _ c.in_numbered.ensures c.judge_one-judged.ensures)
