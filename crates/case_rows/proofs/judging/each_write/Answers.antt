use Rattle.std.proofs.Common.{◌≤◌, arith, rules}
use Rattle.case_rows.specs.Runs.{PassesWrite}
use Rattle.case_rows.proofs.RunLemmas.{below_next, write_passed, writes_on}
use Rattle.case_rows.proofs.judging.each_write.Goals as goal

pub loop-call-preserved : goal.loop-call-preserved
loop-call-preserved g c =
    let given = c.args.given.now in
    let fields = c.args.row.now.fields.items in
    let had = c.loop-call.invariant in (
      writes_on given c.loop-call.given c.run_write.new.given had.0 c.in_ok-run_write.ensures.same,
      below_next (PassesWrite g.P.Fn c.args.program.now fields given) c.loop-call.call had.1
          (write_passed g.P.Fn c.args.program.now fields given c.loop-call.given c.loop-call.call had.0 c.in_ok-run_write.ensures.passes),
    )

pub returns : goal.returns
returns g c =
    let some : 1 ≤ c.in_ok-runs.runs = search rules in
    let over : c.in_ok-runs.runs ≤ c.loop-call.call = search rules in
    record {
      given = c.args.given.now;
      gives = c.requires.gives;
      runs = c.in_ok-runs.runs;
      number = c.in_ok-runs.ensures;
      some = some;
      each = λ k lt. c.loop-call.invariant.1 k (omega (arith, lt, over));
    }
