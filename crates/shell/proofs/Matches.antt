-- What clap's matches say of accepted words.
use Rattle.std.proofs.Common.{◌≡◌, ◌∙◌, Bool, cond, true, false, true≢false, refl, sym, ap, subst, codes, List, [], ◌∷◌, Option, Some, None, ◌&&◌, ◌||◌, not, is_some, fold}
use Rattle.std.specs.Prelude.{option_map, option_and_then, slice_get, unwrap_or}
use Rattle.std.specs.List.{AllByRecursion, list_all, list_any}
use Rattle.std.specs.Str.{bytes_eq}
use Rattle.std.proofs.lemmas.Bool.{or_parts}
use Rattle.std.proofs.lemmas.Slice.Eq.{bytes_eq-Decides}
use Rattle.clap.specs.Words.{Row, fault_of, matches_of}
use Rattle.clap.specs.Walk.{Held, Rule, default_rows, finished, first_of, has_row, idle, more_values, nothing_held, one_of, reading_by, row_text, rows_after, settled, walk, walk_from, with_default, with_values}
use Rattle.clap.specs.Simple.{App, filled, names_of as app_names}
use Rattle.clap.specs.Faults.{settle_fault, walk_fault}
use Rattle.clap.specs.declared.parser.matches.ValueSource.TheVariants.{DefaultValue}
use Rattle.shell.specs.Command.{command_app, flag_rule, flag_text, option_rule, rule_as, Holds, HoldsAs, HoldsOne}
use Rattle.shell.specs.Table.{OptionOf, TableOf, TakesOf, Text, is_flag, is_option, is_table, names_in, nothing, number, stand_once, takes_nothing, text}
use Rattle.shell.specs.Words.{Use, accepted, is_known, names_of, sets, text_of, uses_from, uses_of}
use Rattle.shell.proofs.Agree.{Readable, end_of, from_front, quiet_from}
use Rattle.shell.proofs.Chains.{some_is}
use Rattle.shell.proofs.Ends.{fault_is}
use Rattle.shell.proofs.Found.{look, look_flag, look_none, look_option, look_other, set_row, value_row, values_calls, has_row-look}
use Rattle.shell.proofs.Known.{calls_built, clash, flag_there, names_once, rules_from, same_name}
use Rattle.shell.proofs.Names.{built_is, calls_flagless, option_no_flag, rules_built, shape_built}
use Rattle.shell.proofs.Once.{accepted_fine}
use Rattle.shell.proofs.Rows.{fresh, find_last}
use Rattle.shell.proofs.Tests.{and_left, and_right, or_right}
use Rattle.shell.proofs.Turns.{at, hold}
use Rattle.shell.proofs.Unknown.{taken}
use Rattle.shell.proofs.Uses.{apply_all, fine, quiet, quiet-or_else}

no_default : (a : Rule) (rows : List Row) → a.defaults ≡ [] → with_default rows a ≡ rows
no_default a rows e = ap (λ d. cond (has_row a.id rows) rows (default_rows a.id (reading_by a) d rows)) e ∙ go (has_row a.id rows)
  where
    go : (b : Bool) → cond b rows rows ≡ rows
    go true = refl
    go false = refl

-- rows with a flag's default
abbrev with_flag : Text → List Row → List Row
with_flag n rows = with_default rows (filled (flag_rule n))

look_default : (n name : Text) (rows : List Row) → bytes_eq n name ≡ false → look name (with_flag n rows) ≡ look name rows
look_default n name rows e = go (has_row n rows)
  where
    go : (b : Bool) → look name (cond b rows (with_values n (reading_by (filled (flag_rule n))) DefaultValue (codes "false" ∷ []) rows)) ≡ look name rows
    go true = refl
    go false = look_other n name (reading_by (filled (flag_rule n))) DefaultValue (codes "false" ∷ []) rows e

one_default : (n : Text) → bytes_eq n n ≡ true → (b : Bool) (rows : List Row) → look n rows ≡ set_row n b → one_of n (with_flag n rows) ≡ Some (flag_text b)
one_default n own true rows e =
    let has : has_row n rows ≡ true = has_row-look n rows ∙ ap is_some e in
    ap (λ (b : Bool). one_of n (cond b rows (with_values n (reading_by (filled (flag_rule n))) DefaultValue (codes "false" ∷ []) rows))) has
    ∙ ap (λ (o : Option Row). option_and_then row_text o) e
one_default n own false rows e =
    let has : has_row n rows ≡ false = has_row-look n rows ∙ ap is_some e in
    ap (λ (b : Bool). one_of n (cond b rows (with_values n (reading_by (filled (flag_rule n))) DefaultValue (codes "false" ∷ []) rows))) has
    ∙ (ap (one_of n) (fresh n (more_values DefaultValue (codes "false" ∷ [])) _ rows has)
    ∙ ap (λ (o : Option Row). option_and_then row_text o) (find_last (λ (r : Row). bytes_eq r.id n) rows _ own (look_none n rows has)))

value_back : (name : Text) (v : Option Text) → option_and_then (λ r. slice_get r.values 0) (value_row name v) ≡ v
value_back name None = refl
value_back name (Some v) = refl

none_is : (us : List Use) → None ≡ Some us → ⊥
none_is us e = cc

-- ---- the flags' defaults

abbrev with_one : TakesOf → Text → List Row → List Row
with_one nothing n rows = with_flag n rows
with_one (number least most default) n rows = rows
with_one (text shown default) n rows = rows

abbrev with_flags : List OptionOf → List Row → List Row
with_flags [] rows = rows
with_flags (o ∷ os) rows = with_flags os (with_one o.takes o.name rows)

one_is : (takes : TakesOf) (n : Text) (rows : List Row) → with_default rows (filled (rule_as takes n)) ≡ with_one takes n rows
one_is nothing n rows = refl
one_is (number least most default) n rows = no_default (filled (option_rule n)) rows refl
one_is (text shown default) n rows = no_default (filled (option_rule n)) rows refl

fold_is : (os : List OptionOf) (rows : List Row) → fold with_default rows (rules_from os) ≡ with_flags os rows
fold_is [] rows = no_default calls_built rows refl
fold_is (o ∷ os) rows = ap (λ (r : List Row). fold with_default r (rules_from os)) (one_is o.takes o.name rows) ∙ fold_is os (with_one o.takes o.name rows)

-- they leave the rows of other names alone
look_flags : (name : Text) (os : List OptionOf) (rows : List Row) → is_flag os name ≡ false → look name (with_flags os rows) ≡ look name rows
look_flags name [] rows e = refl
look_flags name (o ∷ os) rows e = go o.takes o.name (λ rs h. look_flags name os rs h) e
  where
    go : (takes : TakesOf) (n : Text) → ((rs : List Row) → is_flag os name ≡ false → look name (with_flags os rs) ≡ look name rs)
        → ((takes_nothing takes && bytes_eq n name) || is_flag os name) ≡ false → look name (with_flags os (with_one takes n rows)) ≡ look name rows
    go nothing n more f =
        let parts = or_parts (bytes_eq n name) (is_flag os name) f in
        more (with_flag n rows) parts.1 ∙ look_default n name rows parts.0
    go (number least most default) n more f = more rows f
    go (text shown default) n more f = more rows f

-- and a flag has its default where it isn't used
flag_value : (name : Text) (os : List OptionOf) (rows : List Row) (b : Bool) → stand_once (names_in os) ≡ true → is_flag os name ≡ true → look name rows ≡ set_row name b
    → one_of name (with_flags os rows) ≡ Some (flag_text b)
flag_value name [] rows b once is e = absurd (true≢false (sym is))
flag_value name (o ∷ os) rows b once is e =
    let alone = and_left (not (list_any (bytes_eq o.name) (names_in os))) (stand_once (names_in os)) once in
    let others = and_right (not (list_any (bytes_eq o.name) (names_in os))) (stand_once (names_in os)) once in
    go o.takes o.name (bytes_eq o.name name) refl (λ same h. clash o.name name (names_in os) same alone (flag_there name os h)) (λ rs h f. flag_value name os rs b others h f) is
  where
    -- the flag's own default, behind which no other flag is called so
    own : (n : Text) → bytes_eq n name ≡ true → is_flag os name ≡ false → one_of name (with_flags os (with_flag n rows)) ≡ Some (flag_text b)
    own n same none =
        ap (λ (m : Text). one_of name (with_flags os (with_flag m rows))) (same_name n name same)
        ∙ (ap (λ (r : Option Row). option_and_then row_text r) (look_flags name os (with_flag name rows) none)
        ∙ one_default name ((bytes_eq-Decides name name).1 refl) b rows e)

    no_more : (c : Bool) → is_flag os name ≡ c → (is_flag os name ≡ true → ⊥) → is_flag os name ≡ false
    no_more false f twice = f
    no_more true f twice = absurd (twice f)

    go : (takes : TakesOf) (n : Text) (c : Bool) → bytes_eq n name ≡ c → (bytes_eq n name ≡ true → is_flag os name ≡ true → ⊥)
        → ((rs : List Row) → is_flag os name ≡ true → look name rs ≡ set_row name b → one_of name (with_flags os rs) ≡ Some (flag_text b))
        → ((takes_nothing takes && c) || is_flag os name) ≡ true → one_of name (with_flags os (with_one takes n rows)) ≡ Some (flag_text b)
    go nothing n true same twice more h = own n same (no_more (is_flag os name) refl (twice same))
    go nothing n false same twice more h = more (with_flag n rows) h (look_default n name rows same ∙ e)
    go (number least most default) n c same twice more h = more rows h e
    go (text shown default) n c same twice more h = more rows h e

module _ (t : TableOf) (apart : is_table t ≡ true) where
  -- ---- the matches

  finished_is : (h : Held) → finished (rules_built t apart) h ≡ with_flags t.options (settled (rules_built t apart) h).rows
  finished_is h = fold_is t.options (settled (rules_built t apart) h).rows

  matches_are : (ws : List Text) → matches_of (command_app t) ws ≡ finished (rules_built t apart) (walk (rules_built t apart) [] nothing_held ws).held
  matches_are ws = ap (λ (a : App). rows_after a.top.rules (app_names a) ws) (built_is t apart)

  module _ (us : List Use) (good : fine t apart us [] ≡ true) where
    abbrev ends : List Row
    ends = with_flags t.options (apply_all us [])

    first_is : (name : Text) → is_option t.options name ≡ true → first_of name ends ≡ text_of name us
    first_is name known =
        ap (λ (o : Option Row). option_and_then (λ r. slice_get r.values 0) o) (look_flags name t.options (apply_all us []) (option_no_flag t apart name known) ∙ look_option t apart name known us [] good)
        ∙ value_back name (text_of name us)

    flag_is : (name : Text) → is_flag t.options name ≡ true → one_of name ends ≡ Some (flag_text (list_any (sets name) us))
    flag_is name known = flag_value name t.options (apply_all us []) (list_any (sets name) us) (names_once t.options apart) known (look_flag t apart name known us [] good)

    -- an option of the table, by what it takes
    holds_one : (takes : TakesOf) (n : Text) → ((not (takes_nothing takes) && bytes_eq n n) ≡ true → is_option t.options n ≡ true)
        → ((takes_nothing takes && bytes_eq n n) ≡ true → is_flag t.options n ≡ true) → HoldsAs takes n ends us
    holds_one nothing n option flag = flag_is n (flag ((bytes_eq-Decides n n).1 refl))
    holds_one (number least most default) n option flag = first_is n (option ((bytes_eq-Decides n n).1 refl))
    holds_one (text shown default) n option flag = first_is n (option ((bytes_eq-Decides n n).1 refl))

    each_holds : (os : List OptionOf) → ((name : Text) → is_option os name ≡ true → is_option t.options name ≡ true)
        → ((name : Text) → is_flag os name ≡ true → is_flag t.options name ≡ true) → AllByRecursion (HoldsOne ends us) os
    each_holds [] options flags = tt
    each_holds (o ∷ os) options flags = (
      holds_one o.takes o.name
          (λ h. options o.name (ap (λ b. b || is_option os o.name) h))
          (λ h. flags o.name (ap (λ b. b || is_flag os o.name) h)),
      each_holds os
          (λ name h. options name (or_right (not (takes_nothing o.takes) && bytes_eq o.name name) (is_option os name) h))
          (λ name h. flags name (or_right (takes_nothing o.takes && bytes_eq o.name name) (is_flag os name) h)),
    )

    reads_uses : Holds t.options ends us
    reads_uses = record {
      each = each_holds t.options (λ name h. h) (λ name h. h);
      calls = ap (λ (o : Option Row). unwrap_or (option_map (λ (r : Row). r.values) o) []) (look_flags (codes "calls") t.options (apply_all us []) (calls_flagless t apart)) ∙ values_calls t apart us [] good;
    }

  -- ---- the law

  fault_quiet : (ws : List Text) → quiet (fault_of (command_app t) ws) ≡ quiet_from t apart (at (hold None []) idle false) ws
  fault_quiet ws =
      ap quiet (fault_is t apart ws)
      ∙ quiet-or_else (walk_fault (shape_built t apart) [] (walk_from nothing_held) ws) (settle_fault (rules_built t apart) false (walk (rules_built t apart) [] nothing_held ws).held)

  taken_given : (o : Option (List Use)) → taken t apart [] [] o ≡ is_some (option_and_then (accepted t.options) o)
  taken_given None = refl
  taken_given (Some us) = sym (accepted_fine t apart us) ∙ go (list_all (is_known t.options) us && stand_once (names_of us))
    where
      go : (b : Bool) → b ≡ is_some (cond b (Some us) None)
      go true = refl
      go false = refl

  -- clap finds nothing wrong exactly where the words are accepted
  pub faults_agree : (ws : List Text) → Readable ws → quiet (fault_of (command_app t) ws) ≡ is_some (uses_of t.options ws)
  faults_agree ws readable = fault_quiet ws ∙ ((from_front t apart ws readable).faults ∙ taken_given (uses_from t.options ws None))

  -- and then its matches are the texts that the words give
  pub matches_agree : (ws : List Text) → Readable ws → (us : List Use) → uses_of t.options ws ≡ Some us → Holds t.options (matches_of (command_app t) ws) us
  matches_agree ws readable us e = by_uses (uses_from t.options ws None) refl e
    where
      by_test : (vs : List Use) (b : Bool) → uses_from t.options ws None ≡ Some vs → fine t apart vs [] ≡ b → cond b (Some vs) None ≡ Some us → Holds t.options (matches_of (command_app t) ws) us
      by_test vs true said good is =
          let rows : (settled (rules_built t apart) (end_of t apart (at (hold None []) idle false) ws).held).rows ≡ apply_all vs [] = (from_front t apart ws readable).ends vs said good in
          let whole : matches_of (command_app t) ws ≡ ends vs good =
          matches_are ws ∙ (finished_is (end_of t apart (at (hold None []) idle false) ws).held ∙ ap (with_flags t.options) rows) in
          subst (λ (r : List Row). Holds t.options r us) (sym whole) (subst (λ (x : List Use). Holds t.options (ends vs good) x) (some_is is) (reads_uses vs good))
      by_test vs false said good is = absurd (none_is us is)

      by_uses : (o : Option (List Use)) → uses_from t.options ws None ≡ o → option_and_then (accepted t.options) o ≡ Some us → Holds t.options (matches_of (command_app t) ws) us
      by_uses None said is = absurd (none_is us is)
      by_uses (Some vs) said is = by_test vs (fine t apart vs []) said refl (ap (λ (b : Bool). cond b (Some vs) None) (sym (accepted_fine t apart vs)) ∙ is)
