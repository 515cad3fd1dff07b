-- What a use does to clap's rows, and whether clap takes it there.
use Rattle.std.proofs.Common.{◌≡◌, ◌∙◌, Bool, true, false, refl, sym, ap, List, [], ◌∷◌, ◌++◌, ◌&&◌, not}
use Rattle.clap.specs.Words.{Kinds, Row}
use Rattle.clap.specs.Kinds.{or_else}
use Rattle.clap.specs.Walk.{Rule, has_row, used}
use Rattle.clap.specs.Simple.{filled, with_index}
use Rattle.shell.specs.Command.{calls_rule, flag_rule, option_rule}
use Rattle.shell.specs.Table.{TableOf, is_table, Text, is_flag, is_option}
use Rattle.shell.specs.Words.{Use, value, flag, call}
use Rattle.shell.proofs.Tests.{and_assoc, and_false}

abbrev pub rule_used : Use → Rule
rule_used (value name v) = filled (option_rule name)
rule_used (flag name) = filled (flag_rule name)
rule_used (call word) = with_index 1 (filled calls_rule)

abbrev pub values_for : Use → List Text
values_for (value name v) = v ∷ []
values_for (flag name) = []
values_for (call word) = word ∷ []

-- the rows after a use
abbrev pub apply : Use → List Row → List Row
apply u rows = used (rule_used u) (values_for u) rows

abbrev pub apply_all : List Use → List Row → List Row
apply_all [] rows = rows
apply_all (u ∷ us) rows = apply_all us (apply u rows)

pub apply_all-append : (us vs : List Use) (rows : List Row) → apply_all (us ++ vs) rows ≡ apply_all vs (apply_all us rows)
apply_all-append [] vs rows = refl
apply_all-append (u ∷ us) vs rows = apply_all-append us vs (apply u rows)

-- nothing is found wrong
abbrev pub quiet : Kinds → Bool
quiet [] = true
quiet (k ∷ ks) = false

pub quiet-or_else : (a b : Kinds) → quiet (or_else a b) ≡ (quiet a && quiet b)
quiet-or_else [] b = refl
quiet-or_else (k ∷ ks) b = refl

module _ (t : TableOf) (apart : is_table t ≡ true) where
  -- an option or a flag that is known and has no row may be used, and a CALL may always
  abbrev pub permitted : Use → List Row → Bool
  permitted (value name v) rows = (is_option t.options) name && not (has_row name rows)
  permitted (flag name) rows = (is_flag t.options) name && not (has_row name rows)
  permitted (call word) rows = true

  abbrev pub fine : List Use → List Row → Bool
  fine [] rows = true
  fine (u ∷ us) rows = permitted u rows && fine us (apply u rows)

  pub fine-append : (us vs : List Use) (rows : List Row) → fine (us ++ vs) rows ≡ (fine us rows && fine vs (apply_all us rows))
  fine-append [] vs rows = refl
  fine-append (u ∷ us) vs rows = ap (λ b. permitted u rows && b) (fine-append us vs (apply u rows)) ∙ sym (and_assoc (permitted u rows) (fine us (apply u rows)) (fine vs (apply_all us (apply u rows))))

  -- an unknown option makes all of it wrong
  pub unknown_fine : (before : List Use) (name v : Text) (us : List Use) (rows : List Row) → (is_option t.options) name ≡ false → fine (before ++ value name v ∷ us) rows ≡ false
  unknown_fine before name v us rows e =
      fine-append before (value name v ∷ us) rows
      ∙ (ap (λ b. fine before rows && ((b && not (has_row name (apply_all before rows))) && fine us (apply (value name v) (apply_all before rows)))) e
      ∙ and_false (fine before rows))
