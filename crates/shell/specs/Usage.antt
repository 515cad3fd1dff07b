-- The line that says which words a program takes.
use Rattle.std.specs.Prelude.{ℕ, nat_lt, List, [], ◌∷◌, ◌++◌, map, codes, if◌then◌else◌}
use Rattle.std.specs.List.{concat}
use Rattle.shell.specs.Lines.{line}
use Rattle.shell.specs.Table.{OptionOf, TableOf, TakesOf, Text, nothing, number, text}

-- what an option takes, behind its name and a space (32)
abbrev pub taken_text : TakesOf → Text
taken_text nothing = []
taken_text (number least most default) = codes " N"
taken_text (text shown default) = 32 ∷ shown

abbrev pub option_text : OptionOf → Text
option_text o = codes " [--" ++ (o.name ++ (taken_text o.takes ++ codes "]"))

abbrev pub options_text : List OptionOf → Text
options_text options = concat (map option_text options)

abbrev pub calls_text : ℕ → Text
calls_text most = if nat_lt 0 most then codes " [CALL]..." else []

abbrev pub usage_line : TableOf → Text
usage_line t = codes "usage: " ++ (t.program ++ (options_text t.options ++ (calls_text t.most_calls ++ line [])))
