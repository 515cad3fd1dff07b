-- What clap's answer says of the words.
use Rattle.std.proofs.Common.{◌≡◌, ◌∙◌, true, false, true≢false, refl, sym, ap, subst, List, [], ◌∷◌, Option, Some, None, is_some, map, String, Global}
use Rattle.std.specs.String.{string_bytes}
use Rattle.std.specs.List.{AllByRecursion}
use Rattle.std.specs.Str.{IsUtf8}
use Rattle.std.proofs.lemmas.Str.{IsUtf8-had}
use Rattle.clap.specs.Words.{Kinds, IsAmong, Row, fault_of, matches_of}
use Rattle.clap.specs.declared.error.kind.ErrorKind.{ErrorKind}
use Rattle.shell.specs.Command.{command_app, Holds}
use Rattle.shell.specs.Table.{TableOf, Text, is_table}
use Rattle.shell.specs.Words.{Use, uses_of}
use Rattle.shell.proofs.Characters.{readable}
use Rattle.shell.proofs.Matches.{faults_agree, matches_agree}
use Rattle.shell.proofs.Uses.{quiet}

abbrev pub texts_of : List (String Global) → List Text
texts_of = map (λ s. string_bytes s)

-- a `String` is text
pub strings_are_text : (words : List (String Global)) → AllByRecursion IsUtf8 (texts_of words)
strings_are_text [] = tt
strings_are_text (w ∷ ws) = (IsUtf8-had (string_bytes w) w.ok, strings_are_text ws)

some_uses : (o : Option (List Use)) → is_some o ≡ true → (us : List Use) × (o ≡ Some us)
some_uses None e = absurd (true≢false (sym e))
some_uses (Some us) e = (us, refl)

no_uses : (o : Option (List Use)) → is_some o ≡ false → o ≡ None
no_uses None e = refl
no_uses (Some us) e = absurd (true≢false e)

loud : (kinds : Kinds) (k : ErrorKind) → IsAmong k kinds → quiet kinds ≡ false
loud [] k among = absurd among
loud (x ∷ xs) k among = refl

module _ (t : TableOf) (apart : is_table t ≡ true) where
  -- words of which clap finds nothing wrong are accepted, and its matches hold their texts
  pub accepted : (words : List (String Global)) (rows : List Row) → fault_of (command_app t) (texts_of words) ≡ [] → rows ≡ matches_of (command_app t) (texts_of words)
      → (us : List Use) × (uses_of t.options (texts_of words) ≡ Some us) × Holds t.options rows us
  accepted words rows none same =
      let text = readable (texts_of words) (strings_are_text words) in
      let taken : is_some (uses_of t.options (texts_of words)) ≡ true = sym (faults_agree t apart (texts_of words) text) ∙ ap quiet none in
      let some = some_uses (uses_of t.options (texts_of words)) taken in
      (some.0, some.1, subst (λ (r : List Row). Holds t.options r some.0) (sym same) (matches_agree t apart (texts_of words) text some.0 some.1))

  -- and words with which clap finds something wrong are refused
  pub refused_by : (words : List (String Global)) (k : ErrorKind) → IsAmong k (fault_of (command_app t) (texts_of words)) → uses_of t.options (texts_of words) ≡ None
  refused_by words k among =
      let text = readable (texts_of words) (strings_are_text words) in
      no_uses (uses_of t.options (texts_of words)) (sym (faults_agree t apart (texts_of words) text) ∙ loud (fault_of (command_app t) (texts_of words)) k among)
