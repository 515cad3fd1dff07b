-- A head of the grammar is one here, and says the same.
use Rattle.std.proofs.Common.{◌≡◌, ◌∙◌, ℕ, zero, suc, ◌-◌, ◌<◌, ◌≤◌, Bool, true, false, not, ◌&&◌, ◌||◌, List, [], ◌∷◌, ◌++◌, get_or, length, take, map, refl, sym, ap, subst, arith, append-nil, append_assoc, length-append}
use Rattle.std.specs.Prelude.{All, Option, Some, None, ◌==◌, option_map, if◌then◌else◌, IsUtf8}
use Rattle.std.specs.List.{list_all, list_any, flat_map, position_or_len, before_first, after_first}
use Rattle.std.proofs.Math.Seq.{take-append_seam, drop-append-add, get_or-append_seam}
use Rattle.std.proofs.lemmas.Bool.{and_parts, and_from, or_right, not_from_false, lt-ltb}
use Rattle.std.proofs.lemmas.Bool.Decides.{nat_tests}
use Rattle.std.proofs.lemmas.List.Elements.{All-head, All-tail}
use Rattle.std.proofs.lemmas.List.Folds.{list_all-append}
use Rattle.std.proofs.lemmas.List.Sums.{AllPass-from_list_all, list_all-from_AllPass}
use Rattle.httparse.specs.Ascii.{line_feed, carriage_return}
use Rattle.httparse.specs.Grammar.{AllPass, Field, IsField, IsRequestHead, LineEnd, RequestHead, ReadsRequest, crlf, lf, is_token, is_token_byte, is_uri_byte, is_value_byte, print_blank, print_end, print_field, print_request, print_version}
use Rattle.httparse.specs.Pieces.{is_newline}
use Rattle.httparse.specs.Spans.{name_and_value}
use Rattle.httparse.proofs.GrammarLemmas.{cons-append, print_request-append}
use Rattle.httparse.proofs.PieceLemmas.{colon_ends_token, space_ends_token, token_is_no_newline}
use Rattle.http_pages.specs.Grammars.{IsHead, IsNarrow, SaysAs}
use Rattle.http_pages.specs.Heads.{behind_empty_line, behind_head, first_of, from_request_line, head_length, is_filled, is_line_feed, lines, without_cr}
use Rattle.http_pages.specs.Requests.{header_of, is_colon, is_field_line, is_request_line, is_space, is_version, method_of, minor_of, name_of, target_of, version_of}
use Rattle.http_pages.proofs.HeadLemmas.{empty_skipped, full_stays}
use Rattle.http_pages.proofs.Pieces.{lines_next, lines_none, lines_skip}

-- tests of bytes

abbrev pub is_plain : ℕ → Bool
is_plain b = not (is_newline b)

abbrev pub Plain : List ℕ → Type 0
Plain t = list_all is_plain t ≡ true

abbrev pub has_none : (ℕ → Bool) → List ℕ → Type 0
has_none p t = list_all (λ b. not (p b)) t ≡ true

pub weaker : (p q : ℕ → Bool) → ((b : ℕ) → p b ≡ true → q b ≡ true) → (t : List ℕ) → list_all p t ≡ true → list_all q t ≡ true
weaker p q f [] all = refl
weaker p q f (b ∷ t) all = let parts = and_parts (p b) (list_all p t) all in and_from _ _ (f b parts.0) (weaker p q f t parts.1)

plain_parts : (u v : Bool) → not (u || v) ≡ true → (u ≡ false) × (v ≡ false)
plain_parts true v e = cc
plain_parts false true e = cc
plain_parts false false e = (refl, refl)

pub plain_no_cr : (b : ℕ) → is_plain b ≡ true → (b == carriage_return) ≡ false
plain_no_cr b e = (plain_parts _ _ e).0

pub plain_no_lf : (b : ℕ) → is_plain b ≡ true → (b == line_feed) ≡ false
plain_no_lf b e = (plain_parts _ _ e).1

pub not_lf : (b : ℕ) → is_plain b ≡ true → not (is_line_feed b) ≡ true
not_lf b e = not_from_false _ (plain_no_lf b e)

pub token_plain : (b : ℕ) → is_token_byte b ≡ true → is_plain b ≡ true
token_plain b e = not_from_false _ (token_is_no_newline b e)

pub uri_plain : (b : ℕ) → is_uri_byte b ≡ true → is_plain b ≡ true
uri_plain b e = grind (arith, nat_tests)

pub value_plain : (b : ℕ) → is_value_byte b ≡ true → is_plain b ≡ true
value_plain b e = grind (arith, nat_tests)

no_space_in_token : (b : ℕ) → is_token_byte b ≡ true → not (is_space b) ≡ true
no_space_in_token b e = by_test (is_space b) refl
  where
    by_test : (t : Bool) → is_space b ≡ t → not t ≡ true
    by_test false f = refl
    by_test true f = let is : b ≡ 32 = grind (arith, nat_tests) in let none = space_ends_token in cc

no_colon_in_token : (b : ℕ) → is_token_byte b ≡ true → not (is_colon b) ≡ true
no_colon_in_token b e = by_test (is_colon b) refl
  where
    by_test : (t : Bool) → is_colon b ≡ t → not t ≡ true
    by_test false f = refl
    by_test true f = let is : b ≡ 58 = grind (arith, nat_tests) in let none = colon_ends_token in cc

no_space_in_uri : (b : ℕ) → is_uri_byte b ≡ true → not (is_space b) ≡ true
no_space_in_uri b e = grind (arith, nat_tests)

-- a text before the first byte that passes, and what is behind it

module _ (p : ℕ → Bool) where
  place : (t : List ℕ) (b : ℕ) (ys : List ℕ) → has_none p t → p b ≡ true → position_or_len p (t ++ b ∷ ys) ≡ length t
  place [] b ys none here = rw here refl
  place (x ∷ t) b ys none here =
      let parts = and_parts (not (p x)) _ none in
      let later = place t b ys parts.1 here in
      rw parts.0 (omega (arith, later))

  pub before : (t : List ℕ) (b : ℕ) (ys : List ℕ) → has_none p t → p b ≡ true → before_first p (t ++ b ∷ ys) ≡ t
  before t b ys none here = rw (place t b ys none here) (take-append_seam t (b ∷ ys))

  pub after : (t : List ℕ) (b : ℕ) (ys : List ℕ) → has_none p t → p b ≡ true → after_first p (t ++ b ∷ ys) ≡ ys
  after t b ys none here = rw (place t b ys none here) (drop-append-add t (b ∷ ys) 1)

-- lines

uncut : (t : List ℕ) → 0 < length t → Plain t → without_cr t ≡ t
unfolding without_cr
uncut t some plain =
    let last = AllPass-from_list_all is_plain t plain (length t - 1) 0 (omega (arith, some)) in
    rw (plain_no_cr (get_or t (length t - 1) 0) last) refl

pub cr_goes : (t : List ℕ) → without_cr (t ++ carriage_return ∷ []) ≡ t
unfolding without_cr
cr_goes t =
    let size : length (t ++ 13 ∷ []) - 1 ≡ length t = omega (arith, length-append t (13 ∷ [])) in
    rw (size, get_or-append_seam t 13 [] 0) (take-append_seam t (13 ∷ []))

pub line_step : (t : List ℕ) (e : LineEnd) (ys : List ℕ) → 0 < length t → Plain t → lines (t ++ (print_end e ++ ys)) ≡ t ∷ lines ys
line_step t lf ys some plain =
    let none = weaker is_plain (λ b. not (is_line_feed b)) not_lf t plain in
    lines_next (t ++ 10 ∷ ys) t ys (sym (ap without_cr (before is_line_feed t 10 ys none refl) ∙ uncut t some plain)) (sym (after is_line_feed t 10 ys none refl)) some
line_step t crlf ys some plain =
    let none = weaker is_plain (λ b. not (is_line_feed b)) not_lf t plain in
    let none2 : has_none is_line_feed (t ++ 13 ∷ []) = list_all-append (λ b. not (is_line_feed b)) t (13 ∷ []) ∙ and_from _ _ none refl in
    ap lines (sym (append_assoc t (13 ∷ []) (10 ∷ ys)))
    ∙ lines_next ((t ++ 13 ∷ []) ++ 10 ∷ ys) t ys (sym (ap without_cr (before is_line_feed (t ++ 13 ∷ []) 10 ys none2 refl) ∙ cr_goes t)) (sym (after is_line_feed (t ++ 13 ∷ []) 10 ys none2 refl)) some

pub end_step : (e : LineEnd) (ys : List ℕ) → lines (print_end e ++ ys) ≡ lines ys
unfolding without_cr
end_step lf ys = lines_skip (10 ∷ ys) [] ys refl refl refl
end_step crlf ys = lines_skip (13 ∷ 10 ∷ ys) [] ys refl refl refl

pub blank_lines : (es : List LineEnd) (ys : List ℕ) → lines (print_blank es ++ ys) ≡ lines ys
blank_lines [] ys = refl
blank_lines (e ∷ es) ys = ap lines (append_assoc (print_end e) (print_blank es) ys) ∙ (end_step e (print_blank es ++ ys) ∙ blank_lines es ys)

-- a field's line without its end
abbrev pub field_text : Field → List ℕ
field_text f = f.name ++ 58 ∷ f.raw

pub field_regroup : (f : Field) (fs : List Field) (z : List ℕ)
    → flat_map print_field (f ∷ fs) ++ z ≡ field_text f ++ (print_end f.end ++ (flat_map print_field fs ++ z))
field_regroup f fs z = regroup f.name f.raw (print_end f.end) (flat_map print_field fs) z
  where
    regroup : (a b c d r : List ℕ) → ((a ++ 58 ∷ b ++ c) ++ d) ++ r ≡ (a ++ 58 ∷ b) ++ (c ++ (d ++ r))
    regroup a b c d r = simp (append_assoc, cons-append)

pub token_list : (t : List ℕ) → AllPass is_token_byte t → list_all is_token_byte t ≡ true
token_list t all = list_all-from_AllPass is_token_byte t all

field_plain : (f : Field) → IsField f → Plain (field_text f)
field_plain f is =
    list_all-append is_plain f.name (58 ∷ f.raw)
    ∙ and_from _ _ (weaker is_token_byte is_plain token_plain f.name (token_list f.name is.name.1))
    (weaker is_value_byte is_plain value_plain f.raw (list_all-from_AllPass is_value_byte f.raw is.raw))

field_some : (f : Field) → 0 < length (field_text f)
field_some f = omega (arith, length-append f.name (58 ∷ f.raw))

pub section_lines : (fs : List Field) (last : LineEnd) → All IsField fs → lines (flat_map print_field fs ++ (print_end last ++ [])) ≡ map field_text fs
section_lines [] last all = end_step last [] ∙ lines_none [] refl
section_lines (f ∷ fs) last all =
    ap lines (field_regroup f fs (print_end last ++ []))
    ∙ (line_step (field_text f) f.end (flat_map print_field fs ++ (print_end last ++ [])) (field_some f) (field_plain f (All-head IsField f fs all))
    ∙ ap (λ (ls : List (List ℕ)). field_text f ∷ ls) (section_lines fs last (All-tail IsField f fs all)))

-- where a head ends

pub behind_end : (e : LineEnd) (ys : List ℕ) → behind_empty_line (print_end e ++ ys) ≡ Some ys
behind_end crlf ys = refl
behind_end lf [] = refl
behind_end lf (y ∷ ys) = refl

pub begun : (b : ℕ) (ys : List ℕ) → is_plain b ≡ true → behind_empty_line (b ∷ ys) ≡ None
begun b [] plain = rw (plain_no_lf b plain) refl
begun b (y ∷ ys) plain = rw (plain_no_lf b plain, plain_no_cr b plain) refl

pub begun_text : (t ys : List ℕ) → 0 < length t → Plain t → behind_empty_line (t ++ ys) ≡ None
begun_text [] ys some plain = absurd (omega (arith, some))
begun_text (b ∷ t) ys some plain = begun b (t ++ ys) (and_parts (is_plain b) _ plain).0

pub run : (t ys : List ℕ) → has_none is_line_feed t → behind_head (t ++ ys) ≡ behind_head ys
unfolding behind_head
run [] ys none = refl
run (b ∷ t) ys none = let parts = and_parts (not (is_line_feed b)) _ none in by_test (is_line_feed b) parts.0 (run t ys parts.1)
  where
    by_test : (u : Bool) → not u ≡ true → behind_head (t ++ ys) ≡ behind_head ys
        → (if u then first_of (behind_empty_line (t ++ ys)) (behind_head (t ++ ys)) else behind_head (t ++ ys)) ≡ behind_head ys
    by_test true f e = cc
    by_test false f e = e

over_end : (e : LineEnd) (ys : List ℕ) → behind_head (print_end e ++ ys) ≡ first_of (behind_empty_line ys) (behind_head ys)
unfolding behind_head
over_end crlf ys = refl
over_end lf ys = refl

over_line : (t : List ℕ) (e : LineEnd) (ys : List ℕ) → Plain t → behind_head (t ++ (print_end e ++ ys)) ≡ first_of (behind_empty_line ys) (behind_head ys)
over_line t e ys plain = run t (print_end e ++ ys) (weaker is_plain (λ b. not (is_line_feed b)) not_lf t plain) ∙ over_end e ys

section_end : (fs : List Field) (last : LineEnd) (rest : List ℕ) → All IsField fs
    → first_of (behind_empty_line (flat_map print_field fs ++ (print_end last ++ rest))) (behind_head (flat_map print_field fs ++ (print_end last ++ rest))) ≡ Some rest
section_end [] last rest all = ap (λ (o : Option (List ℕ)). first_of o (behind_head (print_end last ++ rest))) (behind_end last rest)
section_end (f ∷ fs) last rest all =
    let is = All-head IsField f fs all in
    let ys = flat_map print_field fs ++ (print_end last ++ rest) in
    ap (λ (xs : List ℕ). first_of (behind_empty_line xs) (behind_head xs)) (field_regroup f fs (print_end last ++ rest))
    ∙ (ap (λ (o : Option (List ℕ)). first_of o (behind_head (field_text f ++ (print_end f.end ++ ys)))) (begun_text (field_text f) (print_end f.end ++ ys) (field_some f) (field_plain f is))
    ∙ (over_line (field_text f) f.end ys (field_plain f is) ∙ section_end fs last rest (All-tail IsField f fs all)))

pub skip_blank : (es : List LineEnd) (ys : List ℕ) → from_request_line (print_blank es ++ ys) ≡ from_request_line ys
skip_blank [] ys = refl
skip_blank (e ∷ es) ys =
    ap from_request_line (append_assoc (print_end e) (print_blank es) ys)
    ∙ (empty_skipped (print_end e ++ (print_blank es ++ ys)) (print_blank es ++ ys) (behind_end e (print_blank es ++ ys)) ∙ skip_blank es ys)

-- a head

abbrev pub line_of : RequestHead → List ℕ
line_of h = h.method ++ 32 ∷ (h.target ++ 32 ∷ print_version h.minor)

pub head_regroup : (h : RequestHead) (rest : List ℕ)
    → print_request h ++ rest ≡ print_blank h.blank ++ (line_of h ++ (print_end h.line_end ++ (flat_map print_field h.fields ++ (print_end h.last ++ rest))))
head_regroup h rest =
    print_request-append h rest
    ∙ regroup (print_blank h.blank) h.method h.target (print_version h.minor) (print_end h.line_end) (flat_map print_field h.fields) (print_end h.last) rest
  where
    regroup : (a b c d e f g r : List ℕ)
        → a ++ (b ++ 32 ∷ (c ++ 32 ∷ (d ++ (e ++ ((f ++ g) ++ r))))) ≡ a ++ ((b ++ 32 ∷ (c ++ 32 ∷ d)) ++ (e ++ (f ++ (g ++ r))))
    regroup a b c d e f g r = simp (append_assoc, cons-append)

version_plain : (m : ℕ) → m ≤ 1 → Plain (print_version m)
version_plain zero h = refl
version_plain (suc zero) h = refl
version_plain (suc (suc m)) h = absurd (omega (arith, h))

version_is : (m : ℕ) → m ≤ 1 → (is_version (print_version m) ≡ true) × (minor_of (print_version m) ≡ m)
version_is zero h = (refl, refl)
version_is (suc zero) h = (refl, refl)
version_is (suc (suc m)) h = absurd (omega (arith, h))

filled_some : (t : List ℕ) → 0 < length t → is_filled t ≡ true
filled_some [] h = absurd (omega (arith, h))
filled_some (b ∷ t) h = refl

module _ (h : RequestHead) (is : IsRequestHead h) where
  line_plain : Plain (line_of h)
  line_plain =
      list_all-append is_plain h.method (32 ∷ (h.target ++ 32 ∷ print_version h.minor))
      ∙ and_from _ _ (weaker is_token_byte is_plain token_plain h.method (token_list h.method is.method.1))
      (list_all-append is_plain h.target (32 ∷ print_version h.minor)
      ∙ and_from _ _ (weaker is_uri_byte is_plain uri_plain h.target (list_all-from_AllPass is_uri_byte h.target is.target.1)) (version_plain h.minor is.minor))

  line_some : 0 < length (line_of h)
  line_some = omega (arith, length-append h.method (32 ∷ (h.target ++ 32 ∷ print_version h.minor)))

  method_is : method_of (line_of h) ≡ h.method
  method_is = before is_space h.method 32 (h.target ++ 32 ∷ print_version h.minor) (weaker is_token_byte _ no_space_in_token h.method (token_list h.method is.method.1)) refl

  behind_method : after_first is_space (line_of h) ≡ h.target ++ 32 ∷ print_version h.minor
  behind_method = after is_space h.method 32 (h.target ++ 32 ∷ print_version h.minor) (weaker is_token_byte _ no_space_in_token h.method (token_list h.method is.method.1)) refl

  no_space : has_none is_space h.target
  no_space = weaker is_uri_byte _ no_space_in_uri h.target (list_all-from_AllPass is_uri_byte h.target is.target.1)

  target_is : target_of (line_of h) ≡ h.target
  target_is = ap (before_first is_space) behind_method ∙ before is_space h.target 32 (print_version h.minor) no_space refl

  version_of_is : version_of (line_of h) ≡ print_version h.minor
  version_of_is = ap (after_first is_space) behind_method ∙ after is_space h.target 32 (print_version h.minor) no_space refl

  is_line : is_request_line (line_of h) ≡ true
  is_line =
      let token : is_token h.method ≡ true = and_from _ _ (lt-ltb 0 (length h.method) is.method.0) (token_list h.method is.method.1) in
      let target = and_from _ _ (filled_some h.target is.target.0) (list_all-from_AllPass is_uri_byte h.target is.target.1) in
      and_from _ _ (ap is_token method_is ∙ token)
      (and_from _ _ (ap (λ (t : List ℕ). is_filled t && list_all is_uri_byte t) target_is ∙ target) (ap is_version version_of_is ∙ (version_is h.minor is.minor).0))

  minor_is : minor_of (version_of (line_of h)) ≡ h.minor
  minor_is = ap minor_of version_of_is ∙ (version_is h.minor is.minor).1

  head_lines : lines (print_request h) ≡ line_of h ∷ map field_text h.fields
  head_lines =
      ap lines (sym (append-nil (print_request h)) ∙ head_regroup h [])
      ∙ (blank_lines h.blank _
      ∙ (line_step (line_of h) h.line_end (flat_map print_field h.fields ++ (print_end h.last ++ [])) line_some line_plain
      ∙ ap (λ (ls : List (List ℕ)). line_of h ∷ ls) (section_lines h.fields h.last is.fields)))

  head_ends : (rest : List ℕ) → head_length (print_request h ++ rest) ≡ Some (length (print_request h ++ rest) - length rest)
  head_ends rest =
      let ys = flat_map print_field h.fields ++ (print_end h.last ++ rest) in
      let text = line_of h ++ (print_end h.line_end ++ ys) in
      let first : from_request_line (print_request h ++ rest) ≡ text =
      ap from_request_line (head_regroup h rest) ∙ (skip_blank h.blank text ∙ full_stays text (begun_text (line_of h) (print_end h.line_end ++ ys) line_some line_plain)) in
      let end : behind_head text ≡ Some rest = over_line (line_of h) h.line_end ys line_plain ∙ section_end h.fields h.last rest is.fields in
      ap (λ (o : Option (List ℕ)). option_map (λ r. length (print_request h ++ rest) - length r) o) (ap behind_head first ∙ end)

field_says : (f : Field) → IsField f → (is_field_line (field_text f) ≡ true) × (header_of (field_text f) ≡ name_and_value f)
field_says f is =
    let all = token_list f.name is.name.1 in
    let none = weaker is_token_byte (λ b. not (is_colon b)) no_colon_in_token f.name all in
    let name : name_of (field_text f) ≡ f.name = before is_colon f.name 58 f.raw none refl in
    let raw : after_first is_colon (field_text f) ≡ f.raw = after is_colon f.name 58 f.raw none refl in
    let token : is_token f.name ≡ true = and_from _ _ (lt-ltb 0 (length f.name) is.name.0) all in (
      and_from _ _ (ap is_token name ∙ token) (and_from _ _ (has_colon f.name f.raw) (ap (list_all is_value_byte) raw ∙ list_all-from_AllPass is_value_byte f.raw is.raw)),
      rw (name, raw) refl,
    )
  where
    has_colon : (t ys : List ℕ) → list_any is_colon (t ++ 58 ∷ ys) ≡ true
    has_colon [] ys = refl
    has_colon (b ∷ t) ys = or_right _ _ (has_colon t ys)

fields_say : (fs : List Field) → All IsField fs
    → (list_all is_field_line (map field_text fs) ≡ true) × (map header_of (map field_text fs) ≡ map name_and_value fs)
fields_say [] all = (refl, refl)
fields_say (f ∷ fs) all =
    let one = field_says f (All-head IsField f fs all) in
    let more = fields_say fs (All-tail IsField f fs all) in
    (and_from _ _ one.0 more.0, cc)

abbrev pub Read : RequestHead → List ℕ → List ℕ → Type 0
Read h rest bytes = (line : List ℕ) × (fields : List (List ℕ)) × IsHead bytes (length bytes - length rest) line fields × IsNarrow line × SaysAs h line fields

read_here : (h : RequestHead) (rest : List ℕ) → IsRequestHead h → Read h rest (print_request h ++ rest)
read_here h rest is =
    let say = fields_say h.fields is.fields in
    let text = print_request h in
    let size : length (text ++ rest) - length rest ≡ length text = omega (arith, length-append text rest) in (
      line_of h,
      map field_text h.fields,
      record {
        ends = head_ends h is rest;
        cut = ap (λ (n : ℕ). lines (take n (text ++ rest))) size ∙ (ap lines (take-append_seam text rest) ∙ head_lines h is);
        request_line = is_line h is;
        field_lines = say.0;
      },
      record {
        version = version_of_is h is ∙ ap print_version (sym (minor_is h is));
        target = subst IsUtf8 (sym (target_is h is)) is.target_text;
      },
      record {
        method = method_is h is;
        target = target_is h is;
        minor = minor_is h is;
        headers = say.1;
      },
    )

pub read : (bytes rest : List ℕ) (h : RequestHead) → ReadsRequest bytes h rest → Read h rest bytes
read bytes rest h x = subst (Read h rest) (sym x.1) (read_here h rest x.0)
