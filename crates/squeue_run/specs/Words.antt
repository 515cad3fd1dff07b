-- The words of `sqrun`: its options in the order of the usage line, its CALLs, and that line.
use Rattle.std.specs.Prelude.{[], ◌∷◌, ◌++◌, None, Some, codes}
use Rattle.conn_blocks.specs.Limits.{most_calls}
use Rattle.ring_quotas.specs.Limits.{most_budget, most_rings, most_spread, most_squeues}
use Rattle.histories.specs.ModeWords.{mode_words}
use Rattle.shell.specs.Table.{TableOf, nothing, number, row, text}
pub use Rattle.shell.specs.Table.{Text}
use Rattle.shell.specs.Lines.{line}

-- the name that the program calls itself by
abbrev pub sqrun : Text
sqrun = codes "sqrun"

abbrev pub sqrun_table : TableOf
sqrun_table = record {
  program = sqrun;
  options =
      row (codes "squeues") (number 1 most_squeues (Some 1))
      ∷ row (codes "rings") (number 1 most_rings (Some 1))
      ∷ row (codes "mode") (text mode_words (Some (codes "process")))
      ∷ row (codes "budget") (number 1 most_budget (Some 64))
      ∷ row (codes "spread") (number 0 most_spread (Some 0))
      ∷ row (codes "verify") nothing
      ∷ row (codes "trace") nothing
      ∷ row (codes "gen") (number 0 4294967295 None)
      ∷ [];
  most_calls = most_calls;
}

-- what is written where the words are refused
abbrev pub usage_line : Text
usage_line =
    codes "usage: sqrun [--squeues N] [--rings N] [--mode "
    ++ (mode_words ++ line (codes "] [--budget N] [--spread N] [--verify] [--trace] [--gen N] [CALL]..."))
