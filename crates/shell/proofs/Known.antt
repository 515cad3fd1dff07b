-- What clap knows of a table: each name finds its rule, and no other name finds one.
use Rattle.std.proofs.Common.{◌≡◌, ◌∙◌, ℕ, Bool, cond, true, false, true≢false, refl, sym, ap, codes, List, [], ◌∷◌, ◌++◌, map, Some, None, ◌||◌, ◌&&◌, not}
use Rattle.std.specs.List.{list_all, list_any}
use Rattle.std.specs.Str.{bytes_eq}
use Rattle.std.proofs.lemmas.Bool.{not-true, or_parts}
use Rattle.std.proofs.lemmas.Slice.Eq.{bytes_eq-Decides}
use Rattle.clap.specs.Walk.{Rule, arg_by_id, arg_by_index, arg_by_long, arg_by_short}
use Rattle.clap.specs.Simple.{built, filled, filled_from, with_index}
use Rattle.shell.specs.Command.{calls_rule, command_app, flag_rule, option_rule, rule_as, rule_for}
use Rattle.shell.specs.Table.{OptionOf, TableOf, TakesOf, Text, are_apart, is_flag, is_option, names_in, nothing, number, stand_once, takes_nothing, text}
use Rattle.shell.proofs.Tests.{and_left, and_right, or_right}

-- ---- the rules, as building leaves them

abbrev pub calls_built : Rule
calls_built = with_index 1 (filled calls_rule)

abbrev pub rules_from : List OptionOf → List Rule
rules_from [] = calls_built ∷ []
rules_from (o ∷ os) = filled (rule_for o) ∷ rules_from os

filled_next : (takes : TakesOf) (name : Text) (rest : List Rule) → filled_from 1 (rule_as takes name ∷ rest) ≡ filled (rule_as takes name) ∷ filled_from 1 rest
filled_next nothing name rest = refl
filled_next (number least most default) name rest = refl
filled_next (text shown default) name rest = refl

filled_all : (os : List OptionOf) → filled_from 1 (map rule_for os ++ calls_rule ∷ []) ≡ rules_from os
filled_all [] = refl
filled_all (o ∷ os) = filled_next o.takes o.name (map rule_for os ++ calls_rule ∷ []) ∙ ap (λ (rs : List Rule). filled (rule_for o) ∷ rs) (filled_all os)

pub rules_are : (t : TableOf) → (built (command_app t)).top.rules ≡ rules_from t.options
rules_are t = filled_all t.options

-- ---- names

pub same_name : (a b : Text) → bytes_eq a b ≡ true → a ≡ b
same_name a b e = (bytes_eq-Decides a b).0 e

turned : (a b : Text) → bytes_eq a b ≡ true → bytes_eq b a ≡ true
turned a b e = (bytes_eq-Decides b a).1 (sym (same_name a b e))

pub turned_apart : (a b : Text) → bytes_eq a b ≡ false → bytes_eq b a ≡ false
turned_apart a b e = go (bytes_eq b a) refl
  where
    go : (c : Bool) → bytes_eq b a ≡ c → c ≡ false
    go false f = refl
    go true f = absurd (true≢false (sym (turned b a f) ∙ e))

-- a name that stands among these, and isn't there again
pub clash : (n name : Text) (names : List Text) → bytes_eq n name ≡ true → not (list_any (bytes_eq n) names) ≡ true → list_any (bytes_eq name) names ≡ true → ⊥
clash n name names e apart there =
    let mine : list_any (bytes_eq n) names ≡ true = ap (λ (m : Text). list_any (bytes_eq m) names) (same_name n name e) ∙ there in
    true≢false (sym apart ∙ ap not mine)

module _ (name : Text) where
  named_first : (o : OptionOf) (os : List OptionOf) → bytes_eq o.name name ≡ true → list_any (bytes_eq name) (names_in (o ∷ os)) ≡ true
  named_first o os e = ap (λ b. b || list_any (bytes_eq name) (names_in os)) (turned o.name name e)

  pub option_there : (os : List OptionOf) → is_option os name ≡ true → list_any (bytes_eq name) (names_in os) ≡ true
  option_there [] is = absurd (true≢false (sym is))
  option_there (o ∷ os) is = go (takes_nothing o.takes) (bytes_eq o.name name) refl (option_there os) is
    where
      go : (k b : Bool) → bytes_eq o.name name ≡ b → (is_option os name ≡ true → list_any (bytes_eq name) (names_in os) ≡ true)
          → ((not k && b) || is_option os name) ≡ true → list_any (bytes_eq name) (names_in (o ∷ os)) ≡ true
      go false true e more h = named_first o os e
      go false false e more h = or_right (bytes_eq name o.name) (list_any (bytes_eq name) (names_in os)) (more h)
      go true b e more h = or_right (bytes_eq name o.name) (list_any (bytes_eq name) (names_in os)) (more h)

  pub flag_there : (os : List OptionOf) → is_flag os name ≡ true → list_any (bytes_eq name) (names_in os) ≡ true
  flag_there [] is = absurd (true≢false (sym is))
  flag_there (o ∷ os) is = go (takes_nothing o.takes) (bytes_eq o.name name) refl (flag_there os) is
    where
      go : (k b : Bool) → bytes_eq o.name name ≡ b → (is_flag os name ≡ true → list_any (bytes_eq name) (names_in os) ≡ true)
          → ((k && b) || is_flag os name) ≡ true → list_any (bytes_eq name) (names_in (o ∷ os)) ≡ true
      go true true e more h = named_first o os e
      go true false e more h = or_right (bytes_eq name o.name) (list_any (bytes_eq name) (names_in os)) (more h)
      go false b e more h = or_right (bytes_eq name o.name) (list_any (bytes_eq name) (names_in os)) (more h)

  -- ---- what a rule in front does to a search by name

  skips_long : (takes : TakesOf) (n : Text) (rest : List Rule) → bytes_eq n name ≡ false → arg_by_long (filled (rule_as takes n) ∷ rest) name ≡ arg_by_long rest name
  skips_long nothing n rest e = ap (λ b. cond (b || false) (Some (filled (flag_rule n))) (arg_by_long rest name)) e
  skips_long (number least most default) n rest e = ap (λ b. cond (b || false) (Some (filled (option_rule n))) (arg_by_long rest name)) e
  skips_long (text shown default) n rest e = ap (λ b. cond (b || false) (Some (filled (option_rule n))) (arg_by_long rest name)) e

  skips_id : (takes : TakesOf) (n : Text) (rest : List Rule) → bytes_eq n name ≡ false → arg_by_id (filled (rule_as takes n) ∷ rest) name ≡ arg_by_id rest name
  skips_id nothing n rest e = ap (λ b. cond b (Some (filled (flag_rule n))) (arg_by_id rest name)) e
  skips_id (number least most default) n rest e = ap (λ b. cond b (Some (filled (option_rule n))) (arg_by_id rest name)) e
  skips_id (text shown default) n rest e = ap (λ b. cond b (Some (filled (option_rule n))) (arg_by_id rest name)) e

  stops_long : (n : Text) (rest : List Rule) → bytes_eq n name ≡ true → arg_by_long (filled (option_rule n) ∷ rest) name ≡ Some (filled (option_rule name))
  stops_long n rest e =
      ap (λ b. cond (b || false) (Some (filled (option_rule n))) (arg_by_long rest name)) e ∙ ap (λ (m : Text). Some (filled (option_rule m))) (same_name n name e)

  stops_id : (n : Text) (rest : List Rule) → bytes_eq n name ≡ true → arg_by_id (filled (option_rule n) ∷ rest) name ≡ Some (filled (option_rule name))
  stops_id n rest e =
      ap (λ b. cond b (Some (filled (option_rule n))) (arg_by_id rest name)) e ∙ ap (λ (m : Text). Some (filled (option_rule m))) (same_name n name e)

  stops_flag : (n : Text) (rest : List Rule) → bytes_eq n name ≡ true → arg_by_long (filled (flag_rule n) ∷ rest) name ≡ Some (filled (flag_rule name))
  stops_flag n rest e =
      ap (λ b. cond (b || false) (Some (filled (flag_rule n))) (arg_by_long rest name)) e ∙ ap (λ (m : Text). Some (filled (flag_rule m))) (same_name n name e)

  -- ---- an option's or a flag's name finds its rule

  pub known_long : (os : List OptionOf) → stand_once (names_in os) ≡ true → is_option os name ≡ true → arg_by_long (rules_from os) name ≡ Some (filled (option_rule name))
  known_long [] once is = absurd (true≢false (sym is))
  known_long (o ∷ os) once is =
      let alone = and_left (not (list_any (bytes_eq o.name) (names_in os))) (stand_once (names_in os)) once in
      let others = and_right (not (list_any (bytes_eq o.name) (names_in os))) (stand_once (names_in os)) once in
      go o.takes o.name (bytes_eq o.name name) refl (λ e h. clash o.name name (names_in os) e alone (option_there os h)) (known_long os others) is
    where
      go : (takes : TakesOf) (n : Text) (b : Bool) → bytes_eq n name ≡ b → (bytes_eq n name ≡ true → is_option os name ≡ true → ⊥)
          → (is_option os name ≡ true → arg_by_long (rules_from os) name ≡ Some (filled (option_rule name)))
          → ((not (takes_nothing takes) && b) || is_option os name) ≡ true → arg_by_long (filled (rule_as takes n) ∷ rules_from os) name ≡ Some (filled (option_rule name))
      go nothing n true e twice more h = absurd (twice e h)
      go nothing n false e twice more h = skips_long nothing n (rules_from os) e ∙ more h
      go (number least most default) n true e twice more h = stops_long n (rules_from os) e
      go (number least most default) n false e twice more h = skips_long (number least most default) n (rules_from os) e ∙ more h
      go (text shown default) n true e twice more h = stops_long n (rules_from os) e
      go (text shown default) n false e twice more h = skips_long (text shown default) n (rules_from os) e ∙ more h

  pub known_id : (os : List OptionOf) → stand_once (names_in os) ≡ true → is_option os name ≡ true → arg_by_id (rules_from os) name ≡ Some (filled (option_rule name))
  known_id [] once is = absurd (true≢false (sym is))
  known_id (o ∷ os) once is =
      let alone = and_left (not (list_any (bytes_eq o.name) (names_in os))) (stand_once (names_in os)) once in
      let others = and_right (not (list_any (bytes_eq o.name) (names_in os))) (stand_once (names_in os)) once in
      go o.takes o.name (bytes_eq o.name name) refl (λ e h. clash o.name name (names_in os) e alone (option_there os h)) (known_id os others) is
    where
      go : (takes : TakesOf) (n : Text) (b : Bool) → bytes_eq n name ≡ b → (bytes_eq n name ≡ true → is_option os name ≡ true → ⊥)
          → (is_option os name ≡ true → arg_by_id (rules_from os) name ≡ Some (filled (option_rule name)))
          → ((not (takes_nothing takes) && b) || is_option os name) ≡ true → arg_by_id (filled (rule_as takes n) ∷ rules_from os) name ≡ Some (filled (option_rule name))
      go nothing n true e twice more h = absurd (twice e h)
      go nothing n false e twice more h = skips_id nothing n (rules_from os) e ∙ more h
      go (number least most default) n true e twice more h = stops_id n (rules_from os) e
      go (number least most default) n false e twice more h = skips_id (number least most default) n (rules_from os) e ∙ more h
      go (text shown default) n true e twice more h = stops_id n (rules_from os) e
      go (text shown default) n false e twice more h = skips_id (text shown default) n (rules_from os) e ∙ more h

  pub known_flag : (os : List OptionOf) → stand_once (names_in os) ≡ true → is_flag os name ≡ true → arg_by_long (rules_from os) name ≡ Some (filled (flag_rule name))
  known_flag [] once is = absurd (true≢false (sym is))
  known_flag (o ∷ os) once is =
      let alone = and_left (not (list_any (bytes_eq o.name) (names_in os))) (stand_once (names_in os)) once in
      let others = and_right (not (list_any (bytes_eq o.name) (names_in os))) (stand_once (names_in os)) once in
      go o.takes o.name (bytes_eq o.name name) refl (λ e h. clash o.name name (names_in os) e alone (flag_there os h)) (known_flag os others) is
    where
      go : (takes : TakesOf) (n : Text) (b : Bool) → bytes_eq n name ≡ b → (bytes_eq n name ≡ true → is_flag os name ≡ true → ⊥)
          → (is_flag os name ≡ true → arg_by_long (rules_from os) name ≡ Some (filled (flag_rule name)))
          → ((takes_nothing takes && b) || is_flag os name) ≡ true → arg_by_long (filled (rule_as takes n) ∷ rules_from os) name ≡ Some (filled (flag_rule name))
      go nothing n true e twice more h = stops_flag n (rules_from os) e
      go nothing n false e twice more h = skips_long nothing n (rules_from os) e ∙ more h
      go (number least most default) n true e twice more h = absurd (twice e h)
      go (number least most default) n false e twice more h = skips_long (number least most default) n (rules_from os) e ∙ more h
      go (text shown default) n true e twice more h = absurd (twice e h)
      go (text shown default) n false e twice more h = skips_long (text shown default) n (rules_from os) e ∙ more h

  -- and a name that is neither finds none
  pub not_known : (os : List OptionOf) → is_option os name ≡ false → is_flag os name ≡ false → arg_by_long (rules_from os) name ≡ None
  not_known [] e f = refl
  not_known (o ∷ os) e f = go o.takes o.name (bytes_eq o.name name) refl (not_known os) e f
    where
      go : (takes : TakesOf) (n : Text) (b : Bool) → bytes_eq n name ≡ b
          → (is_option os name ≡ false → is_flag os name ≡ false → arg_by_long (rules_from os) name ≡ None)
          → ((not (takes_nothing takes) && b) || is_option os name) ≡ false → ((takes_nothing takes && b) || is_flag os name) ≡ false
          → arg_by_long (filled (rule_as takes n) ∷ rules_from os) name ≡ None
      go nothing n true same more e f = absurd (true≢false f)
      go nothing n false same more e f = skips_long nothing n (rules_from os) same ∙ more e f
      go (number least most default) n true same more e f = absurd (true≢false e)
      go (number least most default) n false same more e f = skips_long (number least most default) n (rules_from os) same ∙ more e f
      go (text shown default) n true same more e f = absurd (true≢false e)
      go (text shown default) n false same more e f = skips_long (text shown default) n (rules_from os) same ∙ more e f

  -- no option is called as a flag is
  pub flag_no_option : (os : List OptionOf) → stand_once (names_in os) ≡ true → is_flag os name ≡ true → is_option os name ≡ false
  flag_no_option [] once is = refl
  flag_no_option (o ∷ os) once is =
      let alone = and_left (not (list_any (bytes_eq o.name) (names_in os))) (stand_once (names_in os)) once in
      let others = and_right (not (list_any (bytes_eq o.name) (names_in os))) (stand_once (names_in os)) once in
      go (takes_nothing o.takes) (bytes_eq o.name name) (is_option os name) refl refl (λ e h. clash o.name name (names_in os) e alone (option_there os h))
      (λ e h. clash o.name name (names_in os) e alone (flag_there os h)) (flag_no_option os others) is
    where
      go : (k b c : Bool) → bytes_eq o.name name ≡ b → is_option os name ≡ c → (bytes_eq o.name name ≡ true → is_option os name ≡ true → ⊥)
          → (bytes_eq o.name name ≡ true → is_flag os name ≡ true → ⊥) → (is_flag os name ≡ true → is_option os name ≡ false)
          → ((k && b) || is_flag os name) ≡ true → ((not k && b) || is_option os name) ≡ false
      go true true true e f no_option no_flag more h = absurd (no_option e f)
      go true true false e f no_option no_flag more h = f
      go true false c e f no_option no_flag more h = more h
      go false true c e f no_option no_flag more h = absurd (no_flag e h)
      go false false c e f no_option no_flag more h = more h

-- ---- the CALLs

abbrev calls : Text
calls = codes "calls"

module _ (os : List OptionOf) (apart : are_apart os ≡ true) where
  pub names_once : stand_once (names_in os) ≡ true
  names_once = and_right (not (list_any (bytes_eq calls) (names_in os))) (stand_once (names_in os)) apart

  pub none_is_calls : list_any (bytes_eq calls) (names_in os) ≡ false
  none_is_calls = not-true (list_any (bytes_eq calls) (names_in os)) (and_left (not (list_any (bytes_eq calls) (names_in os))) (stand_once (names_in os)) apart)

  pub calls_no_option : is_option os calls ≡ false
  calls_no_option = go (is_option os calls) refl
    where
      go : (b : Bool) → is_option os calls ≡ b → b ≡ false
      go false e = refl
      go true e = absurd (true≢false (sym (option_there calls os e) ∙ none_is_calls))

  pub calls_no_flag : is_flag os calls ≡ false
  calls_no_flag = go (is_flag os calls) refl
    where
      go : (b : Bool) → is_flag os calls ≡ b → b ≡ false
      go false e = refl
      go true e = absurd (true≢false (sym (flag_there calls os e) ∙ none_is_calls))

-- they are found by their id and by their place
pub calls_by_id : (os : List OptionOf) → list_any (bytes_eq calls) (names_in os) ≡ false → arg_by_id (rules_from os) calls ≡ Some calls_built
calls_by_id [] none = refl
calls_by_id (o ∷ os) none =
    let here = or_parts (bytes_eq calls o.name) (list_any (bytes_eq calls) (names_in os)) none in
    skips_id calls o.takes o.name (rules_from os) (turned_apart calls o.name here.0) ∙ calls_by_id os here.1

pub calls_by_index : (os : List OptionOf) → arg_by_index (rules_from os) 1 ≡ Some calls_built
calls_by_index [] = refl
calls_by_index (o ∷ os) = go o.takes o.name ∙ calls_by_index os
  where
    go : (takes : TakesOf) (n : Text) → arg_by_index (filled (rule_as takes n) ∷ rules_from os) 1 ≡ arg_by_index (rules_from os) 1
    go nothing n = refl
    go (number least most default) n = refl
    go (text shown default) n = refl

-- nothing has a short name
pub no_short : (os : List OptionOf) (c : ℕ) → arg_by_short (rules_from os) c ≡ None
no_short [] c = refl
no_short (o ∷ os) c = go o.takes o.name ∙ no_short os c
  where
    go : (takes : TakesOf) (n : Text) → arg_by_short (filled (rule_as takes n) ∷ rules_from os) c ≡ arg_by_short (rules_from os) c
    go nothing n = refl
    go (number least most default) n = refl
    go (text shown default) n = refl

-- ---- a plain command

-- what holds of each rule that a table may give holds of all
pub each_given : (P : Rule → Bool) → P calls_rule ≡ true → ((name : Text) → P (flag_rule name) ≡ true) → ((name : Text) → P (option_rule name) ≡ true)
    → (os : List OptionOf) → list_all P (map rule_for os ++ calls_rule ∷ []) ≡ true
each_given P c f p [] = ap (λ b. b && true) c
each_given P c f p (o ∷ os) = go o.takes o.name (each_given P c f p os)
  where
    go : (takes : TakesOf) (n : Text) → list_all P (map rule_for os ++ calls_rule ∷ []) ≡ true → (P (rule_as takes n) && list_all P (map rule_for os ++ calls_rule ∷ [])) ≡ true
    go nothing n h = ap (λ b. b && list_all P (map rule_for os ++ calls_rule ∷ [])) (f n) ∙ h
    go (number least most default) n h = ap (λ b. b && list_all P (map rule_for os ++ calls_rule ∷ [])) (p n) ∙ h
    go (text shown default) n h = ap (λ b. b && list_all P (map rule_for os ++ calls_rule ∷ [])) (p n) ∙ h

-- and of each as building leaves it; a test that none passes is passed by none
pub each_built : (P : Rule → Bool) → P calls_built ≡ true → ((name : Text) → P (filled (flag_rule name)) ≡ true) → ((name : Text) → P (filled (option_rule name)) ≡ true)
    → (os : List OptionOf) → list_all P (rules_from os) ≡ true
each_built P c f p [] = ap (λ b. b && true) c
each_built P c f p (o ∷ os) = go o.takes o.name (each_built P c f p os)
  where
    go : (takes : TakesOf) (n : Text) → list_all P (rules_from os) ≡ true → (P (filled (rule_as takes n)) && list_all P (rules_from os)) ≡ true
    go nothing n h = ap (λ b. b && list_all P (rules_from os)) (f n) ∙ h
    go (number least most default) n h = ap (λ b. b && list_all P (rules_from os)) (p n) ∙ h
    go (text shown default) n h = ap (λ b. b && list_all P (rules_from os)) (p n) ∙ h

pub none_built : (P : Rule → Bool) → P calls_built ≡ false → ((name : Text) → P (filled (flag_rule name)) ≡ false) → ((name : Text) → P (filled (option_rule name)) ≡ false)
    → (os : List OptionOf) → list_any P (rules_from os) ≡ false
none_built P c f p [] = ap (λ b. b || false) c
none_built P c f p (o ∷ os) = go o.takes o.name (none_built P c f p os)
  where
    go : (takes : TakesOf) (n : Text) → list_any P (rules_from os) ≡ false → (P (filled (rule_as takes n)) || list_any P (rules_from os)) ≡ false
    go nothing n h = ap (λ b. b || list_any P (rules_from os)) (f n) ∙ h
    go (number least most default) n h = ap (λ b. b || list_any P (rules_from os)) (p n) ∙ h
    go (text shown default) n h = ap (λ b. b || list_any P (rules_from os)) (p n) ∙ h
