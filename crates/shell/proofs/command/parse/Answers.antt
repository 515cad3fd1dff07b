use Rattle.std.proofs.Common.{◌≡◌, rules}
use Rattle.clap.specs.Words.{app_of}
use Rattle.shell.specs.Command.{command_app}
use Rattle.shell.specs.Table.{table_of}
use Rattle.shell.proofs.Simple.{fails_as, free, rows_as, simple}
use Rattle.shell.proofs.command.parse.Goals as goal

pub returns : goal.returns
returns c =
    let t = table_of c.args.table.now in
    let line_is : app_of c.in_ok-line.line ≡ command_app t = search rules in
    let parse = c.try_get_matches_from in
    record {
      fails = fails_as (app_of c.in_ok-line.line) (command_app t) _ parse.result line_is (free t c.requires) parse.ensures.kinds;
      rows = rows_as (app_of c.in_ok-line.line) (command_app t) _ parse.result line_is (simple t c.requires) parse.ensures.matches;
    }
