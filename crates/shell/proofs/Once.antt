-- Uses are permitted one after another exactly where all are known and no name stands twice.
use Rattle.std.proofs.Common.{◌≡◌, ◌∙◌, Bool, true, false, true≢false, refl, sym, ap, codes, List, [], ◌∷◌, ◌++◌, ◌&&◌, ◌||◌, not}
use Rattle.std.specs.List.{list_all, list_any}
use Rattle.std.specs.Str.{bytes_eq}
use Rattle.clap.specs.Words.{Row}
use Rattle.clap.specs.Walk.{has_row, reading_by}
use Rattle.clap.specs.declared.parser.matches.ValueSource.TheVariants.{CommandLine}
use Rattle.shell.specs.Table.{TableOf, is_table, Text, is_flag, is_option, stand_once}
use Rattle.shell.specs.Words.{Use, value, flag, call, is_known, names_of}
use Rattle.shell.proofs.Found.{apply_flag, apply_value, calls_apart, flag_row, has_other, has_row-push, option_row, other_apart}
use Rattle.shell.proofs.Names.{calls_free}
use Rattle.shell.proofs.Uses.{apply, fine, rule_used}
use Rattle.shell.proofs.Tests.{and_assoc, and_false, and_left, and_right}

-- no name has a row
abbrev rowless : List Text → List Row → Bool
rowless names rows = list_all (λ name. not (has_row name rows)) names

joined : (p q s t : Bool) → (not (p || q) && (s && not t)) ≡ ((not p && s) && not (q || t))
joined true q s t = refl
joined false true s t = sym (and_false s)
joined false false true t = refl
joined false false false t = refl

rowless-push : (names : List Text) (rows : List Row) (r : Row) → rowless names (rows ++ r ∷ []) ≡ (rowless names rows && not (list_any (bytes_eq r.id) names))
rowless-push [] rows r = refl
rowless-push (m ∷ ms) rows r =
    ap (λ b. not b && rowless ms (rows ++ r ∷ [])) (has_row-push m rows r)
    ∙ (ap (λ b. not (has_row m rows || bytes_eq r.id m) && b) (rowless-push ms rows r)
    ∙ joined (has_row m rows) (bytes_eq r.id m) (rowless ms rows) (list_any (bytes_eq r.id) ms))

-- a name that has no row yet
first_time : (n : Text) (us : List Use) (rows : List Row) (r : Row) → r.id ≡ n
    → (rowless (names_of us) (rows ++ r ∷ []) && stand_once (names_of us)) ≡ (rowless (names_of us) rows && (not (list_any (bytes_eq n) (names_of us)) && stand_once (names_of us)))
first_time n us rows r e =
    ap (λ b. b && stand_once (names_of us)) (rowless-push (names_of us) rows r ∙ ap (λ (t : Text). rowless (names_of us) rows && not (list_any (bytes_eq t) (names_of us))) e)
    ∙ and_assoc (rowless (names_of us) rows) (not (list_any (bytes_eq n) (names_of us))) (stand_once (names_of us))

unknown_named : (k free others more : Bool) → (k && others) ≡ false → (others ≡ false → more ≡ false) → ((k && free) && more) ≡ false
unknown_named true free others more e next = ap (λ b. free && b) (next e) ∙ and_false free
unknown_named false free others more e next = refl

rowless_none : (names : List Text) → rowless names [] ≡ true
rowless_none [] = refl
rowless_none (m ∷ ms) = rowless_none ms

module _ (t : TableOf) (apart : is_table t ≡ true) where
  rowless-call : (us : List Use) (word : Text) (rows : List Row) → list_all (is_known t.options) us ≡ true → rowless (names_of us) (apply (call word) rows) ≡ rowless (names_of us) rows
  rowless-call [] word rows known = refl
  rowless-call (value n v ∷ us) word rows known =
      ap (λ b. not b && rowless (names_of us) (apply (call word) rows)) (has_other (codes "calls") n (reading_by (rule_used (call word))) CommandLine (word ∷ []) rows ((other_apart t apart) (codes "calls") n (calls_free t apart) (and_left ((is_option t.options) n) (list_all (is_known t.options) us) known)))
      ∙ ap (λ b. not (has_row n rows) && b) (rowless-call us word rows (and_right ((is_option t.options) n) (list_all (is_known t.options) us) known))
  rowless-call (flag n ∷ us) word rows known =
      ap (λ b. not b && rowless (names_of us) (apply (call word) rows)) (has_other (codes "calls") n (reading_by (rule_used (call word))) CommandLine (word ∷ []) rows ((calls_apart t apart) n (and_left ((is_flag t.options) n) (list_all (is_known t.options) us) known)))
      ∙ ap (λ b. not (has_row n rows) && b) (rowless-call us word rows (and_right ((is_flag t.options) n) (list_all (is_known t.options) us) known))
  rowless-call (call w ∷ us) word rows known = rowless-call us word rows known

  -- a use of a known name, which adds the name's row
  named_once : (u : Use) (n : Text) (k : Bool) (r : Row) (us : List Use) (rows : List Row) → k ≡ true → r.id ≡ n → (has_row n rows ≡ false → apply u rows ≡ rows ++ r ∷ [])
      → ((l : List Row) → (fine t apart) us l ≡ (rowless (names_of us) l && stand_once (names_of us)))
      → ((k && not (has_row n rows)) && (fine t apart) us (apply u rows)) ≡ (rowless (n ∷ names_of us) rows && stand_once (n ∷ names_of us))
  named_once u n k r us rows known own adds more = go (has_row n rows) refl
    where
      go : (b : Bool) → has_row n rows ≡ b → ((k && not (has_row n rows)) && (fine t apart) us (apply u rows))
          ≡ ((not (has_row n rows) && rowless (names_of us) rows) && (not (list_any (bytes_eq n) (names_of us)) && stand_once (names_of us)))
      go true e =
          ap (λ b. (k && not b) && (fine t apart) us (apply u rows)) e
          ∙ (ap (λ b. b && (fine t apart) us (apply u rows)) (and_false k)
          ∙ sym (ap (λ b. (not b && rowless (names_of us) rows) && (not (list_any (bytes_eq n) (names_of us)) && stand_once (names_of us))) e))
      go false e =
          ap (λ b. (k && not b) && (fine t apart) us (apply u rows)) e
          ∙ (ap (λ b. (b && true) && (fine t apart) us (apply u rows)) known
          ∙ (more (apply u rows)
          ∙ (ap (λ (l : List Row). rowless (names_of us) l && stand_once (names_of us)) (adds e)
          ∙ (first_time n us rows r own
          ∙ sym (ap (λ b. (not b && rowless (names_of us) rows) && (not (list_any (bytes_eq n) (names_of us)) && stand_once (names_of us))) e)))))

  once_fine : (us : List Use) (rows : List Row) → list_all (is_known t.options) us ≡ true → (fine t apart) us rows ≡ (rowless (names_of us) rows && stand_once (names_of us))
  once_fine [] rows known = refl
  once_fine (value n v ∷ us) rows known =
      named_once (value n v) n ((is_option t.options) n) (option_row n v) us rows (and_left ((is_option t.options) n) (list_all (is_known t.options) us) known) refl (apply_value n v rows)
      (λ l. once_fine us l (and_right ((is_option t.options) n) (list_all (is_known t.options) us) known))
  once_fine (flag n ∷ us) rows known =
      named_once (flag n) n ((is_flag t.options) n) (flag_row n) us rows (and_left ((is_flag t.options) n) (list_all (is_known t.options) us) known) refl (apply_flag n rows)
      (λ l. once_fine us l (and_right ((is_flag t.options) n) (list_all (is_known t.options) us) known))
  once_fine (call word ∷ us) rows known =
      once_fine us (apply (call word) rows) known ∙ ap (λ b. b && stand_once (names_of us)) (rowless-call us word rows known)

  unknown_any : (us : List Use) (rows : List Row) → list_all (is_known t.options) us ≡ false → (fine t apart) us rows ≡ false
  unknown_any [] rows e = absurd (true≢false e)
  unknown_any (value n v ∷ us) rows e = unknown_named ((is_option t.options) n) (not (has_row n rows)) (list_all (is_known t.options) us) ((fine t apart) us (apply (value n v) rows)) e (λ f. unknown_any us (apply (value n v) rows) f)
  unknown_any (flag n ∷ us) rows e = unknown_named ((is_flag t.options) n) (not (has_row n rows)) (list_all (is_known t.options) us) ((fine t apart) us (apply (flag n) rows)) e (λ f. unknown_any us (apply (flag n) rows) f)
  unknown_any (call word ∷ us) rows e = unknown_any us (apply (call word) rows) e

  pub accepted_fine : (us : List Use) → (list_all (is_known t.options) us && stand_once (names_of us)) ≡ (fine t apart) us []
  accepted_fine us = go (list_all (is_known t.options) us) refl
    where
      go : (b : Bool) → list_all (is_known t.options) us ≡ b → (list_all (is_known t.options) us && stand_once (names_of us)) ≡ (fine t apart) us []
      go true e = ap (λ b. b && stand_once (names_of us)) e ∙ sym (once_fine us [] e ∙ ap (λ b. b && stand_once (names_of us)) (rowless_none (names_of us)))
      go false e = ap (λ b. b && stand_once (names_of us)) e ∙ sym (unknown_any us [] e)
