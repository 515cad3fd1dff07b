use Rattle.std.proofs.Common.{◌∙◌, ◌<◌, length, ap, arith}
use Rattle.std.proofs.lemmas.Result.{IfOk-weaker}
use Rattle.clap.specs.Words.{app_of, with_rule}
use Rattle.shell.specs.Command.{calls_rule}
use Rattle.shell.proofs.Rules.{rules_all, rules_step}
use Rattle.shell.proofs.command.command.Goals as goal

pub loop-row-preserved : goal.loop-row-preserved
loop-row-preserved c =
    let within : c.loop-row.row-index < length c.args.table.now.options.now = omega (arith, c.loop-row-test.true) in
    rules_step c.args.table.now.program.now c.args.table.now.options.now c.loop-row.row-index _ (app_of c.loop-row.line) (app_of c.in_ok-line.line) within c.in_ok-line.ensures c.loop-row.invariant

pub returns : goal.returns
returns c =
    IfOk-weaker c.with_calls.result _ _
    (λ m h. h ∙ (ap (λ a. with_rule a calls_rule) c.loop-row.invariant ∙ rules_all c.args.table.now.program.now c.args.table.now.options.now c.loop-row.row-index c.loop-row-test.false))
    c.with_calls.ensures
