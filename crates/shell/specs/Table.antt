-- Which words a program takes: its name, its options, and how many CALLs.
use Rattle.std.specs.Prelude.{ℕ, Bool, true, false, not, ◌&&◌, List, [], ◌∷◌, map, Option, option_map, codes}
use Rattle.std.specs.List.{list_any}
use Rattle.std.specs.Str.{bytes_eq}
use Rattle.shell.specs.declared.table.Takes.{Takes}
use Rattle.shell.specs.declared.table.Takes.TheVariants as Takes'
use Rattle.shell.specs.declared.table.OptionRow.{OptionRow}
use Rattle.shell.specs.declared.table.Table.{Table}

abbrev pub Text : Type 0
Text = List ℕ

-- an option takes nothing, as a flag; a number in a range, or a text, which the usage line shows so, each with what it is where the option isn't given
pub data TakesOf : Type 0 where
  nothing : TakesOf
  number : ℕ → ℕ → Option ℕ → TakesOf
  text : Text → Option Text → TakesOf

pub record OptionOf : Type 0 where
  pub name : Text
  pub takes : TakesOf

pub record TableOf : Type 0 where
  pub program : Text
  pub options : List OptionOf
  pub most_calls : ℕ

-- an option of this name
abbrev pub row : Text → TakesOf → OptionOf
row name takes = record { name = name; takes = takes }

-- what a program's own table says
abbrev pub takes_of : Takes → TakesOf
takes_of Takes'.Nothing = nothing
takes_of (Takes'.Number least most default) = number least most default
takes_of (Takes'.Text shown default) = text shown.now (option_map (λ t. t.now) default)

abbrev pub option_of : OptionRow → OptionOf
option_of row = record { name = row.name.now; takes = takes_of row.takes }

abbrev pub options_of : List OptionRow → List OptionOf
options_of = map option_of

abbrev pub table_of : Table → TableOf
table_of t = record { program = t.program.now; options = options_of t.options.now; most_calls = t.most_calls }

-- an option that takes nothing is a flag
abbrev pub takes_nothing : TakesOf → Bool
takes_nothing nothing = true
takes_nothing (number least most default) = false
takes_nothing (text shown default) = false

-- whether a flag is called so, and whether an option is that takes a value
abbrev pub is_flag : List OptionOf → Text → Bool
is_flag options name = list_any (λ o. takes_nothing o.takes && bytes_eq o.name name) options

abbrev pub is_option : List OptionOf → Text → Bool
is_option options name = list_any (λ o. not (takes_nothing o.takes) && bytes_eq o.name name) options

-- no name stands twice
abbrev pub stand_once : List Text → Bool
stand_once [] = true
stand_once (name ∷ names) = not (list_any (bytes_eq name) names) && stand_once names

abbrev pub names_in : List OptionOf → List Text
names_in = map (λ o. o.name)

-- no option is called as another, or as the CALLs are
abbrev pub are_apart : List OptionOf → Bool
are_apart options = stand_once (codes "calls" ∷ names_in options)

abbrev pub is_table : TableOf → Bool
is_table t = are_apart t.options
