-- After the walk nothing fails but what was pending.
use Rattle.std.proofs.Common.{◌≡◌, ◌∙◌, Bool, cond, true, false, refl, ap, ap₂, List, [], ◌∷◌, ◌||◌, ◌&&◌, not}
use Rattle.clap.specs.Words.{Kinds, Row, fault_of}
use Rattle.clap.specs.Walk.{Rule, has_row, is_empty, finished, nothing_held, settled, walk, walk_from, with_default}
use Rattle.clap.specs.Kinds.{check_kinds, or_else}
use Rattle.clap.specs.Takes.{is_given}
use Rattle.clap.specs.Faults.{built_fault, check_fault, default_fault, defaults_fault, given_default_fault, settle_fault, walk_fault}
use Rattle.clap.specs.Simple.{App, filled}
use Rattle.clap.proofs.FaultLemmas.{leaf_fault}
use Rattle.clap.proofs.OnLiterals.{clap_on_literals}
use Rattle.shell.specs.Command.{command_app, flag_rule, option_rule, rule_as}
use Rattle.shell.specs.Table.{OptionOf, TableOf, TakesOf, Text, is_table, nothing, number, text}
use Rattle.shell.proofs.Known.{calls_built, none_built, rules_from}
use Rattle.shell.proofs.Names.{app_built, built_is, rules_built, shape_built}

abbrev Quiet : Rule → Type 0
Quiet a = (rows : List Row) → default_fault rows a ≡ []

abbrev AllQuiet : List Rule → Type 0
AllQuiet [] = Unit {0}
AllQuiet (a ∷ rest) = Quiet a × AllQuiet rest

defaults_quiet : (rules : List Rule) (rows : List Row) → AllQuiet rules → defaults_fault rows rules ≡ []
unfolding defaults_fault
defaults_quiet [] rows q = refl
defaults_quiet (a ∷ rest) rows q = ap (λ k. or_else k (defaults_fault (with_default rows a) rest)) (q.0 rows) ∙ defaults_quiet rest (with_default rows a) q.1

quiet_none : (a : Rule) → a.defaults ≡ [] → Quiet a
quiet_none a none rows = go (has_row a.id rows)
  where
    empty : is_empty a.defaults ≡ true
    empty = ap is_empty none

    go : (b : Bool) → cond (b || is_empty a.defaults) [] (given_default_fault a a.defaults) ≡ []
    go true = refl
    go false = ap (λ e. cond e [] (given_default_fault a a.defaults)) empty

quiet_flag : (name : Text) → Quiet (filled (flag_rule name))
unfolding clap_on_literals
quiet_flag name rows = go (has_row name rows)
  where
    go : (b : Bool) → cond {A = Kinds} (b || false) [] [] ≡ []
    go true = refl
    go false = refl

or_else_nil : (k : Kinds) → or_else k [] ≡ k
or_else_nil [] = refl
or_else_nil (x ∷ xs) = refl

quiet_rules : (os : List OptionOf) → AllQuiet (rules_from os)
quiet_rules [] = (quiet_none calls_built refl, tt)
quiet_rules (o ∷ os) = (go o.takes o.name, quiet_rules os)
  where
    go : (takes : TakesOf) (n : Text) → Quiet (filled (rule_as takes n))
    go nothing n = quiet_flag n
    go (number least most default) n = quiet_none (filled (option_rule n)) refl
    go (text shown default) n = quiet_none (filled (option_rule n)) refl

module _ (t : TableOf) (apart : is_table t ≡ true) where
  -- no argument has to be there
  check_none : (rows : List Row) → check_fault (shape_built t apart) rows false ≡ []
  check_none rows = ap (check_kinds false false) (none_built (λ a. a.required && not (is_given a.id rows)) refl (λ n. refl) (λ n. refl) t.options)

  -- the whole fault is the walk's, and then that of what is pending at its end
  pub fault_is : (ws : List Text) → fault_of (command_app t) ws ≡ or_else (walk_fault (shape_built t apart) [] (walk_from nothing_held) ws)
      (settle_fault (rules_built t apart) false (walk (rules_built t apart) [] nothing_held ws).held)
  fault_is ws =
      let end = (walk (rules_built t apart) [] nothing_held ws).held in
      ap (λ (a : App). built_fault a nothing_held ws) (built_is t apart)
      ∙ (leaf_fault (app_built t.program (rules_built t apart)) nothing_held ws refl
      ∙ (ap₂ (λ (d c : Kinds). or_else (walk_fault (shape_built t apart) [] (walk_from nothing_held) ws) (or_else (settle_fault (rules_built t apart) false end) (or_else d c)))
      (defaults_quiet (rules_built t apart) (settled (rules_built t apart) end).rows (quiet_rules t.options)) (check_none (finished (rules_built t apart) end))
      ∙ ap (or_else (walk_fault (shape_built t apart) [] (walk_from nothing_held) ws)) (or_else_nil (settle_fault (rules_built t apart) false end))))
