-- The rules of a table, one option at a time.
use Rattle.std.proofs.Common.{◌≡◌, ◌∙◌, ℕ, ◌+◌, ◌<◌, ◌≤◌, refl, sym, ap, List, [], ◌∷◌, ◌++◌, length, take, get_or, map}
use Rattle.std.proofs.lemmas.List.{take_more, take_all, map-append}
use Rattle.clap.specs.Walk.{Rule}
use Rattle.clap.specs.Words.{App, with_rule}
use Rattle.shell.specs.Command.{app_with, calls_rule, rule_for}
use Rattle.shell.specs.Table.{Text, option_of, options_of}
use Rattle.shell.specs.declared.table.OptionRow.{OptionRow}

abbrev pub rule_of_row : OptionRow → Rule
rule_of_row o = rule_for (option_of o)

pub rules_step : (program : Text) (os : List OptionRow) (i : ℕ) (d : OptionRow) (a b : App) → i < length os → b ≡ with_rule a (rule_of_row (get_or os i d))
    → a ≡ app_with program (map rule_of_row (take i os)) → b ≡ app_with program (map rule_of_row (take (i + 1) os))
rules_step program os i d a b within made so_far =
    made ∙ (ap (λ (x : App). with_rule x (rule_of_row (get_or os i d))) so_far
    ∙ sym (ap (λ (l : List OptionRow). app_with program (map rule_of_row l)) (take_more os i d within)
    ∙ ap (app_with program) (map-append rule_of_row (take i os) (get_or os i d ∷ []))))

rules_map : (os : List OptionRow) → map rule_of_row os ≡ map rule_for (options_of os)
rules_map [] = refl
rules_map (o ∷ os) = ap (λ (rs : List Rule). rule_of_row o ∷ rs) (rules_map os)

pub rules_all : (program : Text) (os : List OptionRow) (i : ℕ) → length os ≤ i
    → with_rule (app_with program (map rule_of_row (take i os))) calls_rule ≡ app_with program (map rule_for (options_of os) ++ calls_rule ∷ [])
rules_all program os i past =
    ap (λ (l : List OptionRow). with_rule (app_with program (map rule_of_row l)) calls_rule) (take_all i os past)
    ∙ ap (λ (rs : List Rule). app_with program (rs ++ calls_rule ∷ [])) (rules_map os)
