-- What the program calls itself, and how it is used: its other lines are those of `shell` under this name.
use Rattle.std.specs.Prelude.{ℕ, List, ◌++◌, codes}
use Rattle.histories.specs.ModeWords.{mode_words}
use Rattle.shell.specs.Lines.{line}

abbrev pub sqmore : List ℕ
sqmore = codes "sqmore"

abbrev pub usage_line : List ℕ
usage_line = codes "usage: sqmore [--squeues N] [--rings N] [--mode " ++ (mode_words ++ line (codes "] [--budget N]"))
