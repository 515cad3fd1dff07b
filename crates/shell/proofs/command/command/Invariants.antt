use Rattle.std.proofs.Common.{◌≡◌, map, take}
use Rattle.clap.specs.Words.{app_of}
use Rattle.shell.specs.Command.{app_with, rule_for}
use Rattle.shell.specs.Table.{option_of}
use Rattle.shell.proofs.command.command.Given as goal

-- the options so far
abbrev pub invariant-loop-row : goal.invariant-loop-row
invariant-loop-row l = app_of l.line ≡ app_with l.table.program.now (map (λ o. rule_for (option_of o)) (take l.row-index l.table.options.now))
