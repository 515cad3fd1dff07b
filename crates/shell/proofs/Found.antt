-- What clap's rows hold for each name after the uses, and when all uses are permitted.
use Rattle.std.proofs.Common.{◌≡◌, ◌∙◌, Bool, cond, true, false, true≢false, refl, sym, ap, codes, List, [], ◌∷◌, ◌++◌, Option, Some, None, ◌||◌, not, is_some, append_assoc}
use Rattle.std.specs.Prelude.{find, option_map, unwrap_or}
use Rattle.std.specs.List.{list_any}
use Rattle.std.specs.Str.{bytes_eq}
use Rattle.std.proofs.lemmas.List.{append-nil}
use Rattle.std.proofs.lemmas.Slice.Eq.{bytes_eq-Decides}
use Rattle.std.proofs.lemmas.Bool.{not-true}
use Rattle.clap.specs.Words.{Row}
use Rattle.clap.specs.Walk.{Rule, has_row, more_values, reading_by, stronger, with_values, without}
use Rattle.clap.specs.declared.builder.value_parser.Reading.{Reading}
use Rattle.clap.specs.declared.parser.matches.ValueSource.{ValueSource}
use Rattle.clap.specs.declared.parser.matches.ValueSource.TheVariants.{CommandLine}
use Rattle.shell.specs.Table.{TableOf, is_table, Text, is_flag, is_option}
use Rattle.shell.specs.Words.{Use, value, flag, call, sets, text_of, calls_in}
use Rattle.shell.specs.Command.{values_at}
use Rattle.shell.proofs.Names.{calls_flagless, calls_free, flag_no_option}
use Rattle.shell.proofs.Known.{turned_apart}
use Rattle.shell.proofs.Rows.{fresh, find_first, find_last}
use Rattle.shell.proofs.Uses.{apply, apply_all, fine, permitted, rule_used}
use Rattle.shell.proofs.Tests.{and_left, and_right}

abbrev pub look : Text → List Row → Option Row
look id rows = find (λ r. bytes_eq r.id id) rows

abbrev pub row_with : Rule → Text → List Text → Row
row_with rule id values = record { id = id; values = values; count = None; source = Some CommandLine; reading = reading_by rule }

abbrev pub option_row : Text → Text → Row
option_row name v = row_with (rule_used (value name v)) name (v ∷ [])

abbrev pub flag_row : Text → Row
flag_row name = row_with (rule_used (flag name)) name (codes "true" ∷ [])

-- a name without a row has none taken away
without_none : (id : Text) (rows : List Row) → has_row id rows ≡ false → without id rows ≡ rows
without_none id rows e = fresh id (λ r. []) [] rows e ∙ append-nil rows

set_once : (id : Text) (how : Reading) (s : ValueSource) (values : List Text) (rows : List Row) → has_row id rows ≡ false
    → with_values id how s values (without id rows) ≡ rows ++ record { id = id; values = values; count = None; source = Some s; reading = how } ∷ []
set_once id how s values rows e =
    ap (with_values id how s values) (without_none id rows e) ∙ fresh id (more_values s values) (record { id = id; values = values; count = None; source = Some s; reading = how } ∷ []) rows e

pub apply_value : (name v : Text) (rows : List Row) → has_row name rows ≡ false → apply (value name v) rows ≡ rows ++ option_row name v ∷ []
apply_value name v rows e = set_once name (reading_by (rule_used (value name v))) CommandLine (v ∷ []) rows e

pub apply_flag : (name : Text) (rows : List Row) → has_row name rows ≡ false → apply (flag name) rows ≡ rows ++ flag_row name ∷ []
apply_flag name rows e = set_once name (reading_by (rule_used (flag name))) CommandLine (codes "true" ∷ []) rows e

true_from : (a b : Text) → bytes_eq a b ≡ true → a ≡ b
true_from a b e = (bytes_eq-Decides a b).0 e

-- a row that is changed in place keeps its id, so another name's row stays
pub look_other : (id other : Text) (how : Reading) (s : ValueSource) (values : List Text) (rows : List Row) → bytes_eq id other ≡ false → look other (with_values id how s values rows) ≡ look other rows
look_other id other how s values [] e = ap (λ b. cond b (Some (record { id = id; values = values; count = None; source = Some s; reading = how })) None) e
look_other id other how s values (r ∷ rs) e = go (bytes_eq r.id id) refl (look_other id other how s values rs e)
  where
    go : (b : Bool) → bytes_eq r.id id ≡ b → look other (with_values id how s values rs) ≡ look other rs → look other (cond b (more_values s values r ++ rs) (r ∷ with_values id how s values rs)) ≡ look other (r ∷ rs)
    go true f more =
        let apart : bytes_eq r.id other ≡ false = ap (λ (t : Text). bytes_eq t other) (true_from r.id id f) ∙ e in
        ap (λ (b : Bool). cond b (Some (record r { values = r.values ++ values; source = Some (stronger r.source s) })) (look other rs)) apart ∙ sym (ap (λ (b : Bool). cond b (Some r) (look other rs)) apart)
    go false f more = ap (λ (o : Option Row). cond (bytes_eq r.id other) (Some r) o) more

pub has_other : (id other : Text) (how : Reading) (s : ValueSource) (values : List Text) (rows : List Row) → bytes_eq id other ≡ false → has_row other (with_values id how s values rows) ≡ has_row other rows
has_other id other how s values [] e = ap (λ b. b || false) e
has_other id other how s values (r ∷ rs) e = go (bytes_eq r.id id) (has_other id other how s values rs e)
  where
    go : (b : Bool) → has_row other (with_values id how s values rs) ≡ has_row other rs → has_row other (cond b (more_values s values r ++ rs) (r ∷ with_values id how s values rs)) ≡ has_row other (r ∷ rs)
    go true more = refl
    go false more = ap (λ b. bytes_eq r.id other || b) more

-- values are added at the end
pub values_more : (id : Text) (how : Reading) (s : ValueSource) (values : List Text) (rows : List Row) → bytes_eq id id ≡ true → values_at id (with_values id how s values rows) ≡ values_at id rows ++ values
values_more id how s values [] e = ap (λ b. unwrap_or (option_map (λ (r : Row). r.values) (cond b (Some (record { id = id; values = values; count = None; source = Some s; reading = how })) None)) []) e
values_more id how s values (r ∷ rs) e = go (bytes_eq r.id id) refl (values_more id how s values rs e)
  where
    go : (b : Bool) → bytes_eq r.id id ≡ b → values_at id (with_values id how s values rs) ≡ values_at id rs ++ values
        → unwrap_or (option_map (λ (x : Row). x.values) (look id (cond b (more_values s values r ++ rs) (r ∷ with_values id how s values rs)))) []
        ≡ unwrap_or (option_map (λ (x : Row). x.values) (cond b (Some r) (look id rs))) [] ++ values
    go true f more = ap (λ b. unwrap_or (option_map (λ (x : Row). x.values) (cond b (Some (record r { values = r.values ++ values; source = Some (stronger r.source s) })) (look id rs))) []) f
    go false f more = ap (λ b. unwrap_or (option_map (λ (x : Row). x.values) (cond b (Some r) (look id (with_values id how s values rs)))) []) f ∙ more

pub has_row-push : (id : Text) (rows : List Row) (r : Row) → has_row id (rows ++ r ∷ []) ≡ (has_row id rows || bytes_eq r.id id)
has_row-push id [] r = go (bytes_eq r.id id)
  where
    go : (b : Bool) → (b || false) ≡ b
    go true = refl
    go false = refl
has_row-push id (x ∷ xs) r = ap (λ b. bytes_eq x.id id || b) (has_row-push id xs r) ∙ go (bytes_eq x.id id)
  where
    go : (b : Bool) → (b || (has_row id xs || bytes_eq r.id id)) ≡ ((b || has_row id xs) || bytes_eq r.id id)
    go true = refl
    go false = refl

pub has_row-look : (id : Text) (rows : List Row) → has_row id rows ≡ is_some (look id rows)
has_row-look id [] = refl
has_row-look id (r ∷ rs) = go (bytes_eq r.id id) (has_row-look id rs)
  where
    go : (b : Bool) → has_row id rs ≡ is_some (look id rs) → (b || has_row id rs) ≡ is_some (cond b (Some r) (look id rs))
    go true more = refl
    go false more = more

pub look_none : (id : Text) (rows : List Row) → has_row id rows ≡ false → look id rows ≡ None
look_none id rows e = go (look id rows) (sym (has_row-look id rows) ∙ e)
  where
    go : (o : Option Row) → is_some o ≡ false → o ≡ None
    go None f = refl
    go (Some r) f = absurd (true≢false f)

abbrev pub or_first : Option Row → Option Row → Option Row
or_first None o = o
or_first (Some r) o = Some r

or_first-none : (o : Option Row) → or_first o None ≡ o
or_first-none None = refl
or_first-none (Some r) = refl

-- a row of another name at the end
push_other : (id : Text) (rows : List Row) (r : Row) → bytes_eq r.id id ≡ false → look id (rows ++ r ∷ []) ≡ look id rows
push_other id rows r e = find_first (λ (x : Row). bytes_eq x.id id) rows r e

push_own : (id : Text) (rows : List Row) (r : Row) → bytes_eq r.id id ≡ true → has_row id rows ≡ false → look id (rows ++ r ∷ []) ≡ Some r
push_own id rows r e none = find_last (λ (x : Row). bytes_eq x.id id) rows r e (look_none id rows none)

abbrev pub value_row : Text → Option Text → Option Row
value_row name v = option_map (option_row name) v

abbrev pub set_row : Text → Bool → Option Row
set_row name b = cond b (Some (flag_row name)) None

module _ (t : TableOf) (apart : is_table t ≡ true) where
  -- two names of which one is an option's and the other isn't
  option_apart : (name other : Text) → (is_option t.options) name ≡ true → (is_option t.options) other ≡ false → bytes_eq name other ≡ false
  option_apart name other e f = go (bytes_eq name other) refl
    where
      go : (b : Bool) → bytes_eq name other ≡ b → bytes_eq name other ≡ false
      go true g = absurd (true≢false (sym e ∙ (ap (is_option t.options) (true_from name other g) ∙ f)))
      go false g = g

  pub other_apart : (name other : Text) → (is_option t.options) name ≡ false → (is_option t.options) other ≡ true → bytes_eq name other ≡ false
  other_apart name other e f = go (bytes_eq name other) refl
    where
      go : (b : Bool) → bytes_eq name other ≡ b → bytes_eq name other ≡ false
      go true g = absurd (true≢false (sym f ∙ (ap (is_option t.options) (sym (true_from name other g)) ∙ e)))
      go false g = g

  -- an option has the row of its first value
  pub look_option : (name : Text) → (is_option t.options) name ≡ true → (us : List Use) (rows : List Row) → (fine t apart) us rows ≡ true → look name (apply_all us rows) ≡ or_first (look name rows) (value_row name (text_of name us))
  look_option name known [] rows good = sym (or_first-none (look name rows))
  look_option name known (value n v ∷ us) rows good =
      let may = and_left ((permitted t apart) (value n v) rows) ((fine t apart) us (apply (value n v) rows)) good in
      let none : has_row n rows ≡ false = not-true (has_row n rows) (and_right ((is_option t.options) n) (not (has_row n rows)) may) in
      let added : apply (value n v) rows ≡ rows ++ option_row n v ∷ [] = apply_value n v rows none in
      look_option name known us (apply (value n v) rows) (and_right ((permitted t apart) (value n v) rows) ((fine t apart) us (apply (value n v) rows)) good)
      ∙ (ap (λ (l : List Row). or_first (look name l) (value_row name (text_of name us))) added ∙ go (bytes_eq n name) refl none)
    where
      go : (b : Bool) → bytes_eq n name ≡ b → has_row n rows ≡ false → or_first (look name (rows ++ option_row n v ∷ [])) (value_row name (text_of name us)) ≡ or_first (look name rows) (value_row name (cond b (Some v) (text_of name us)))
      go true e none =
          let same : n ≡ name = true_from n name e in
          let mine : has_row name rows ≡ false = ap (λ (t : Text). has_row t rows) (sym same) ∙ none in
          ap (λ (o : Option Row). or_first o (value_row name (text_of name us))) (push_own name rows (option_row n v) e mine)
          ∙ (ap (λ (t : Text). Some (option_row t v)) same
          ∙ sym (ap (λ (o : Option Row). or_first o (value_row name (Some v))) (look_none name rows mine)))
      go false e none = ap (λ (o : Option Row). or_first o (value_row name (text_of name us))) (push_other name rows (option_row n v) e)
  look_option name known (flag n ∷ us) rows good =
      let may = and_left ((permitted t apart) (flag n) rows) ((fine t apart) us (apply (flag n) rows)) good in
      let none : has_row n rows ≡ false = not-true (has_row n rows) (and_right ((is_flag t.options) n) (not (has_row n rows)) may) in
      look_option name known us (apply (flag n) rows) (and_right ((permitted t apart) (flag n) rows) ((fine t apart) us (apply (flag n) rows)) good)
      ∙ ap (λ (o : Option Row). or_first o (value_row name (text_of name us)))
      (ap (look name) (apply_flag n rows none) ∙ push_other name rows (flag_row n) (other_apart n name ((flag_no_option t apart) n (and_left ((is_flag t.options) n) (not (has_row n rows)) may)) known))
  look_option name known (call word ∷ us) rows good =
      look_option name known us (apply (call word) rows) good
      ∙ ap (λ (o : Option Row). or_first o (value_row name (text_of name us)))
      (look_other (codes "calls") name (reading_by (rule_used (call word))) CommandLine (word ∷ []) rows (other_apart (codes "calls") name (calls_free t apart) known))

  -- no flag is called so
  pub calls_apart : (name : Text) → (is_flag t.options) name ≡ true → bytes_eq (codes "calls") name ≡ false
  calls_apart name is = go (bytes_eq (codes "calls") name) refl
    where
      go : (b : Bool) → bytes_eq (codes "calls") name ≡ b → b ≡ false
      go false e = refl
      go true e = absurd (true≢false (sym is ∙ (ap (is_flag t.options) (sym (true_from (codes "calls") name e)) ∙ calls_flagless t apart)))

  -- a flag has its row where it is used
  pub look_flag : (name : Text) → (is_flag t.options) name ≡ true → (us : List Use) (rows : List Row) → (fine t apart) us rows ≡ true → look name (apply_all us rows) ≡ or_first (look name rows) (set_row name (list_any (sets name) us))
  look_flag name known [] rows good = sym (or_first-none (look name rows))
  look_flag name known (value n v ∷ us) rows good =
      let may = and_left ((permitted t apart) (value n v) rows) ((fine t apart) us (apply (value n v) rows)) good in
      let none : has_row n rows ≡ false = not-true (has_row n rows) (and_right ((is_option t.options) n) (not (has_row n rows)) may) in
      look_flag name known us (apply (value n v) rows) (and_right ((permitted t apart) (value n v) rows) ((fine t apart) us (apply (value n v) rows)) good)
      ∙ ap (λ (o : Option Row). or_first o (set_row name (list_any (sets name) us)))
      (ap (look name) (apply_value n v rows none) ∙ push_other name rows (option_row n v) (option_apart n name (and_left ((is_option t.options) n) (not (has_row n rows)) may) ((flag_no_option t apart) name known)))
  look_flag name known (flag n ∷ us) rows good =
      let may = and_left ((permitted t apart) (flag n) rows) ((fine t apart) us (apply (flag n) rows)) good in
      let none : has_row n rows ≡ false = not-true (has_row n rows) (and_right ((is_flag t.options) n) (not (has_row n rows)) may) in
      look_flag name known us (apply (flag n) rows) (and_right ((permitted t apart) (flag n) rows) ((fine t apart) us (apply (flag n) rows)) good)
      ∙ (ap (λ (l : List Row). or_first (look name l) (set_row name (list_any (sets name) us))) (apply_flag n rows none) ∙ go (bytes_eq n name) refl none)
    where
      go : (b : Bool) → bytes_eq n name ≡ b → has_row n rows ≡ false → or_first (look name (rows ++ flag_row n ∷ [])) (set_row name (list_any (sets name) us)) ≡ or_first (look name rows) (set_row name (b || list_any (sets name) us))
      go true e none =
          let same : n ≡ name = true_from n name e in
          let mine : has_row name rows ≡ false = ap (λ (t : Text). has_row t rows) (sym same) ∙ none in
          ap (λ (o : Option Row). or_first o (set_row name (list_any (sets name) us))) (push_own name rows (flag_row n) e mine)
          ∙ (ap (λ (t : Text). Some (flag_row t)) same
          ∙ sym (ap (λ (o : Option Row). or_first o (Some (flag_row name))) (look_none name rows mine)))
      go false e none = ap (λ (o : Option Row). or_first o (set_row name (list_any (sets name) us))) (push_other name rows (flag_row n) e)
  look_flag name known (call word ∷ us) rows good =
      look_flag name known us (apply (call word) rows) good
      ∙ ap (λ (o : Option Row). or_first o (set_row name (list_any (sets name) us)))
      (look_other (codes "calls") name (reading_by (rule_used (call word))) CommandLine (word ∷ []) rows (calls_apart name known))

  apart_calls : (name : Text) → (is_flag t.options) name ≡ true → bytes_eq name (codes "calls") ≡ false
  apart_calls name is = turned_apart (codes "calls") name (calls_apart name is)

  -- the CALLs are all there, in order
  pub values_calls : (us : List Use) (rows : List Row) → (fine t apart) us rows ≡ true → values_at (codes "calls") (apply_all us rows) ≡ values_at (codes "calls") rows ++ calls_in us
  values_calls [] rows good = sym (append-nil (values_at (codes "calls") rows))
  values_calls (value n v ∷ us) rows good =
      let may = and_left ((permitted t apart) (value n v) rows) ((fine t apart) us (apply (value n v) rows)) good in
      let none : has_row n rows ≡ false = not-true (has_row n rows) (and_right ((is_option t.options) n) (not (has_row n rows)) may) in
      values_calls us (apply (value n v) rows) (and_right ((permitted t apart) (value n v) rows) ((fine t apart) us (apply (value n v) rows)) good)
      ∙ ap (λ (o : Option Row). unwrap_or (option_map (λ (x : Row). x.values) o) [] ++ calls_in us)
      (ap (look (codes "calls")) (apply_value n v rows none) ∙ push_other (codes "calls") rows (option_row n v) (option_apart n (codes "calls") (and_left ((is_option t.options) n) (not (has_row n rows)) may) (calls_free t apart)))
  values_calls (flag n ∷ us) rows good =
      let may = and_left ((permitted t apart) (flag n) rows) ((fine t apart) us (apply (flag n) rows)) good in
      let none : has_row n rows ≡ false = not-true (has_row n rows) (and_right ((is_flag t.options) n) (not (has_row n rows)) may) in
      values_calls us (apply (flag n) rows) (and_right ((permitted t apart) (flag n) rows) ((fine t apart) us (apply (flag n) rows)) good)
      ∙ ap (λ (o : Option Row). unwrap_or (option_map (λ (x : Row). x.values) o) [] ++ calls_in us)
      (ap (look (codes "calls")) (apply_flag n rows none) ∙ push_other (codes "calls") rows (flag_row n) (apart_calls n (and_left ((is_flag t.options) n) (not (has_row n rows)) may)))
  values_calls (call word ∷ us) rows good =
      values_calls us (apply (call word) rows) good
      ∙ (ap (λ (vs : List Text). vs ++ calls_in us) (values_more (codes "calls") (reading_by (rule_used (call word))) CommandLine (word ∷ []) rows refl)
      ∙ append_assoc (values_at (codes "calls") rows) (word ∷ []) (calls_in us))
