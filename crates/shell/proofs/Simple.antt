-- The command of a table is one of which clap's walk gives the matches and the faults.
use Rattle.std.proofs.Common.{◌≡◌, ◌∙◌, ℕ, List, [], ◌∷◌, ◌&&◌, not, Result, IfOk, true, refl, ap, subst}
use Rattle.std.specs.Prelude.{count_by, is_some}
use Rattle.std.specs.List.{list_all, list_any}
use Rattle.std.proofs.lemmas.Result.{IfOk-weaker}
use Rattle.clap.specs.Simple.{built, filled, is_buildable, is_in_order, is_ready, is_ready_leaf}
use Rattle.clap.specs.Walk.{Rule, is_early_multiple}
use Rattle.clap.specs.Faults.{is_free_app}
use Rattle.clap.specs.Words.{App, FailsBy, HasMatchesOf, Text, fault_of, found_of, is_simple, is_simple_and_free, matches_of, rows_of}
use Rattle.clap.specs.declared.error.Error.{Error}
use Rattle.clap.specs.declared.parser.matches.ArgMatches.{ArgMatches}
use Rattle.shell.specs.Command.{command_app, rule_as}
use Rattle.shell.specs.Table.{OptionOf, TableOf, TakesOf, is_table, nothing, number, text}
use Rattle.shell.proofs.Known.{each_built, each_given, none_built, rules_from}
use Rattle.shell.proofs.Names.{app_built, built_is, rules_built}

-- the CALLs alone have a place
places : (os : List OptionOf) → count_by (λ (a : Rule). is_some a.index) (rules_from os) ≡ 1
places [] = refl
places (o ∷ os) = go o.takes o.name (places os)
  where
    go : (takes : TakesOf) (n : Text) → count_by (λ (a : Rule). is_some a.index) (rules_from os) ≡ 1 → count_by (λ (a : Rule). is_some a.index) (filled (rule_as takes n) ∷ rules_from os) ≡ 1
    go nothing n h = h
    go (number least most default) n h = h
    go (text shown default) n h = h

in_order : (os : List OptionOf) → is_in_order (rules_from os) ≡ true
in_order os =
    ap (λ (n : ℕ). not (list_any (is_early_multiple n) (rules_from os))) (places os)
    ∙ ap not (none_built (is_early_multiple 1) refl (λ n. refl) (λ n. refl) os)

module _ (t : TableOf) (apart : is_table t ≡ true) where
  buildable : is_buildable (command_app t) ≡ true
  buildable = ap (λ b. b && true) (each_given (λ a. a.is_simple) refl (λ n. refl) (λ n. refl) t.options)

  ready : is_ready (app_built t.program (rules_built t apart)).top ≡ true
  ready =
      ap (λ b. b && is_in_order (rules_built t apart)) (each_built (λ a. a.is_simple) refl (λ n. refl) (λ n. refl) t.options)
      ∙ in_order t.options

  pub simple : is_simple (command_app t) ≡ true
  simple =
      ap (λ b. b && (is_ready (built (command_app t)).top && list_all is_ready_leaf (built (command_app t)).subs)) buildable
      ∙ (ap (λ (a : App). is_ready a.top && list_all is_ready_leaf a.subs) (built_is t apart)
      ∙ ap (λ b. b && true) ready)

  pub free : is_simple_and_free (command_app t) ≡ true
  free =
      ap (λ b. b && is_free_app (built (command_app t))) simple
      ∙ (ap is_free_app (built_is t apart)
      ∙ ap (λ b. b && true) (each_built (λ a. a.is_free) refl (λ n. refl) (λ n. refl) t.options))

-- what a parse of the command a says, of the command b that it equals
pub rows_as : (a b : App) (ws : List Text) (r : Result ArgMatches Error) → a ≡ b → is_simple b ≡ true → IfOk r (HasMatchesOf a ws)
    → IfOk r (λ m. rows_of (found_of m) ≡ matches_of b ws)
rows_as a b ws r e is h = IfOk-weaker r (HasMatchesOf b ws) (λ m. rows_of (found_of m) ≡ matches_of b ws) (λ m k. (k is).0) (subst (λ x. IfOk r (HasMatchesOf x ws)) e h)

pub fails_as : (a b : App) (ws : List Text) (r : Result ArgMatches Error) → a ≡ b → is_simple_and_free b ≡ true
    → (is_simple_and_free a ≡ true → FailsBy (fault_of a ws) r) → FailsBy (fault_of b ws) r
fails_as a b ws r e is h = subst (λ x. is_simple_and_free x ≡ true → FailsBy (fault_of x ws) r) e h is
