-- A table as a clap command: the options, of which a flag takes nothing and every other one a text, and the CALLs.
use Rattle.std.specs.Prelude.{◌≡◌, codes, Bool, true, List, [], ◌∷◌, ◌++◌, map, Some, unwrap_or, if◌then◌else◌}
use Rattle.std.specs.List.{AllByRecursion, list_any}
use Rattle.clap.specs.Walk.{Row, Rule, all_of, first_of, one_of}
use Rattle.clap.specs.Words.{App, new_app, new_rule}
use Rattle.clap.specs.Simple.{on_top}
use Rattle.clap.specs.declared.builder.ArgAction.TheVariants.{Set, SetTrue, Append}
use Rattle.shell.specs.Table.{OptionOf, TableOf, TakesOf, Text, nothing, number, text}
use Rattle.shell.specs.Words.{Use, calls_in, sets, text_of}

abbrev pub option_rule : Text → Rule
option_rule name = record (new_rule name) { long = Some name; action = Some Set }

abbrev pub flag_rule : Text → Rule
flag_rule name = record (new_rule name) { long = Some name; action = Some SetTrue }

abbrev pub calls_rule : Rule
calls_rule = record (new_rule (codes "calls")) { action = Some Append }

abbrev pub rule_as : TakesOf → Text → Rule
rule_as nothing name = flag_rule name
rule_as (number least most default) name = option_rule name
rule_as (text shown default) name = option_rule name

abbrev pub rule_for : OptionOf → Rule
rule_for o = rule_as o.takes o.name

-- a command with these rules, whose words have no program's name before them
abbrev pub app_with : Text → List Rule → App
app_with program rules = on_top (λ s. record s {
  rules = rules;
  no_binary_name = true;
  disable_help_flag = true;
  disable_version_flag = true;
}) (new_app program)

abbrev pub command_app : TableOf → App
command_app t = app_with t.program (map rule_for t.options ++ calls_rule ∷ [])

-- the values of an argument, in the order of its uses
abbrev pub values_at : Text → List Row → List Text
values_at id rows = unwrap_or (all_of id rows) []

abbrev pub flag_text : Bool → Text
flag_text b = if b then codes "true" else codes "false"

-- clap's matches hold what the uses give an option, by what it takes
abbrev pub HoldsAs : TakesOf → Text → List Row → List Use → Type 0
HoldsAs nothing name rows us = one_of name rows ≡ Some (flag_text (list_any (sets name) us))
HoldsAs (number least most default) name rows us = first_of name rows ≡ text_of name us
HoldsAs (text shown default) name rows us = first_of name rows ≡ text_of name us

abbrev pub HoldsOne : List Row → List Use → OptionOf → Type 0
HoldsOne rows us o = HoldsAs o.takes o.name rows us

-- and so of all of them, and the CALLs
pub record Holds (options : List OptionOf) (rows : List Row) (us : List Use) : Type 0 where
  pub each : AllByRecursion (HoldsOne rows us) options
  pub calls : values_at (codes "calls") rows ≡ calls_in us
