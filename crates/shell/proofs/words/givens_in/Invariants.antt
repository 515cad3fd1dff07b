use Rattle.std.proofs.Common.{◌≡◌, List, Some, take}
use Rattle.clap.specs.Words.{found_of, rows_of}
use Rattle.shell.specs.Asked.{givens, givens_of}
use Rattle.shell.specs.Command.{Holds}
use Rattle.shell.specs.Table.{options_of}
use Rattle.shell.specs.Words.{Use}
use Rattle.shell.proofs.words.givens_in.Given as goal

-- what is given of the options so far
abbrev pub invariant-loop-row : goal.invariant-loop-row
invariant-loop-row l = (us : List Use) → Holds (options_of l.options) (rows_of (found_of l.matches)) us
    → givens (options_of (take l.row-index l.options)) us ≡ Some (givens_of l.givens.items)
