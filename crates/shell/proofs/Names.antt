-- What clap knows of a table, as the walk asks for it: the rules of the command that is built, and what each name finds in them.
use Rattle.std.proofs.Common.{◌≡◌, ℕ, Bool, true, false, true≢false, refl, sym, ap, ◌∙◌, codes, List, [], Some, None}
use Rattle.clap.specs.Simple.{App, Shape, built, filled, new_shape}
use Rattle.clap.specs.Walk.{Rule, arg_by_id, arg_by_index, arg_by_long, arg_by_short}
use Rattle.shell.specs.Command.{command_app, flag_rule, option_rule}
use Rattle.shell.specs.Table.{TableOf, Text, is_flag, is_option, is_table}
use Rattle.shell.proofs.Known.{calls_built, calls_by_id, calls_by_index, calls_no_flag, calls_no_option, names_once, no_short, none_is_calls, rules_are, rules_from}
use Rattle.shell.proofs.Known as known

abbrev pub shape_with : Text → List Rule → Shape
shape_with program rules = record (new_shape program) {
  rules = rules;
  no_binary_name = true;
  disable_help_flag = true;
  disable_help_subcommand = true;
  disable_version_flag = true;
  is_built = true;
}

abbrev pub app_built : Text → List Rule → App
app_built program rules = record { top = shape_with program rules; subs = [] }

module _ (t : TableOf) (apart : is_table t ≡ true) where
  abbrev pub rules_built : List Rule
  rules_built = rules_from t.options

  abbrev pub shape_built : Shape
  shape_built = shape_with t.program rules_built

  -- the command that is built has these rules, and no subcommand
  pub built_is : built (command_app t) ≡ app_built t.program rules_built
  built_is = ap (app_built t.program) (rules_are t)

  pub known_long : (name : Text) → is_option t.options name ≡ true → arg_by_long rules_built name ≡ Some (filled (option_rule name))
  known_long name is = known.known_long name t.options (names_once t.options apart) is

  pub known_id : (name : Text) → is_option t.options name ≡ true → arg_by_id rules_built name ≡ Some (filled (option_rule name))
  known_id name is = known.known_id name t.options (names_once t.options apart) is

  pub known_flag : (name : Text) → is_flag t.options name ≡ true → arg_by_long rules_built name ≡ Some (filled (flag_rule name))
  known_flag name is = known.known_flag name t.options (names_once t.options apart) is

  pub not_known : (name : Text) → is_option t.options name ≡ false → is_flag t.options name ≡ false → arg_by_long rules_built name ≡ None
  not_known name e f = known.not_known name t.options e f

  pub flag_no_option : (name : Text) → is_flag t.options name ≡ true → is_option t.options name ≡ false
  flag_no_option name is = known.flag_no_option name t.options (names_once t.options apart) is

  pub option_no_flag : (name : Text) → is_option t.options name ≡ true → is_flag t.options name ≡ false
  option_no_flag name is = go (is_flag t.options name) refl
    where
      go : (b : Bool) → is_flag t.options name ≡ b → b ≡ false
      go false e = refl
      go true e = absurd (true≢false (sym is ∙ flag_no_option name e))

  pub by_id : arg_by_id rules_built (codes "calls") ≡ Some calls_built
  by_id = calls_by_id t.options (none_is_calls t.options apart)

  pub by_index : arg_by_index rules_built 1 ≡ Some calls_built
  by_index = calls_by_index t.options

  pub short_none : (c : ℕ) → arg_by_short rules_built c ≡ None
  short_none c = no_short t.options c

  pub calls_free : is_option t.options (codes "calls") ≡ false
  calls_free = calls_no_option t.options apart

  pub calls_flagless : is_flag t.options (codes "calls") ≡ false
  calls_flagless = calls_no_flag t.options apart
