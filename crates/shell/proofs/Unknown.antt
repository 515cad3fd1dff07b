-- Names that are no option's.
use Rattle.std.proofs.Common.{◌≡◌, Bool, true, false, refl, ap, List, [], ◌∷◌, Option, Some, None, ◌++◌}
use Rattle.std.specs.Option.{option_map_or}
use Rattle.clap.specs.Words.{Row}
use Rattle.clap.specs.Walk.{Held, arg_by_long}
use Rattle.clap.specs.Faults.{long_fault}
use Rattle.shell.specs.Table.{TableOf, is_table, Text, is_flag, is_option}
use Rattle.shell.specs.Words.{Look, Use, value, dashed, end, look_of, named, plain, valued, uses_from, and_then_uses, met}
use Rattle.shell.proofs.Names.{known_flag}
use Rattle.shell.proofs.Names.{rules_built, not_known}
use Rattle.shell.proofs.Uses.{fine, quiet, unknown_fine}

module _ (t : TableOf) (apart : is_table t ≡ true) where
  -- `--name=value` of no option is refused
  pub unknown_valued : (name v : Text) (h : Held) → (is_option t.options) name ≡ false → quiet (long_fault (rules_built t apart) false (arg_by_long (rules_built t apart) name) (Some v) h) ≡ false
  unknown_valued name v h e = go ((is_flag t.options) name) refl
    where
      go : (b : Bool) → (is_flag t.options) name ≡ b → quiet (long_fault (rules_built t apart) false (arg_by_long (rules_built t apart) name) (Some v) h) ≡ false
      go true f = ap (λ a. quiet (long_fault (rules_built t apart) false a (Some v) h)) ((known_flag t apart) name f)
      go false f = ap (λ a. quiet (long_fault (rules_built t apart) false a (Some v) h)) ((not_known t apart) name e f)

  -- and so is `--name` of none but the flags
  pub unknown_named : (name : Text) (h : Held) → (is_option t.options) name ≡ false → (is_flag t.options) name ≡ false → quiet (long_fault (rules_built t apart) false (arg_by_long (rules_built t apart) name) None h) ≡ false
  unknown_named name h e f = ap (λ a. quiet (long_fault (rules_built t apart) false a None h)) ((not_known t apart) name e f)

  -- the words' own definition refuses them too
  abbrev pub taken : List Use → List Row → Option (List Use) → Bool
  taken before rows o = option_map_or (λ us. (fine t apart) (before ++ us) rows) o false

  pub taken_unknown : (before : List Use) (name v : Text) (rows : List Row) (o : Option (List Use)) → (is_option t.options) name ≡ false → taken before rows (and_then_uses (value name v) o) ≡ false
  taken_unknown before name v rows None e = refl
  taken_unknown before name v rows (Some us) e = (unknown_fine t apart) before name v us rows e

  pub taken_waiting : (before : List Use) (name : Text) (rows : List Row) (ws : List Text) → (is_option t.options) name ≡ false → taken before rows ((uses_from t.options) ws (Some name)) ≡ false
  unfolding uses_from
  taken_waiting before name rows [] e = refl
  taken_waiting before name rows (w ∷ ws) e = go (look_of w)
    where
      go : (l : Look) → taken before rows ((met t.options) (Some name) l w ws ((uses_from t.options) ws)) ≡ false
      go plain = taken_unknown before name w rows ((uses_from t.options) ws None) e
      go end = refl
      go (valued n v) = refl
      go (named n) = refl
      go dashed = refl
