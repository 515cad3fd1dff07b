use Rattle.std.proofs.Common.{ℕ, List, subst}
use Rattle.std.proofs.lemmas.Result.{on_ok_weaker}
use Rattle.case_rows.specs.Runs.{Passes}
use Rattle.case_rows.proofs.judging.judge_once.Goals as goal

pub returns : goal.returns
returns g c =
    on_ok_weaker c.judge_one.result (λ p. record {
      given = c.args.given.now;
      gives = c.requires.gives;
      len = c.in_ok-len.len;
      bytes = c.in_ok-len.ensures;
      passes = subst (λ (input : List ℕ). Passes g.P.Fn c.args.program.now c.args.row.now.fields.items c.args.given.now input c.in_ok-len.len) c.deref.ensures.value p;
    }) c.judge_one.ensures
