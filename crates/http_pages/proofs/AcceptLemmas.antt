-- A head that is read here is one of the grammar.
use Rattle.std.proofs.Common.{◌≡◌, ◌∙◌, ℕ, zero, suc, ◌+◌, ◌-◌, ◌<◌, ◌≤◌, Bool, true, false, ◌&&◌, ◌||◌, List, [], ◌∷◌, ◌++◌, get_or, length, take, drop, refl, sym, ap, subst, arith, append_assoc, length-append, length-drop}
use Rattle.std.specs.Prelude.{All, Option, Some, None, ◌==◌, option_map, if◌then◌else◌}
use Rattle.std.specs.List.{list_all, list_any, flat_map, position_or_len, before_first, after_first}
use Rattle.std.proofs.Math.Seq.{take-append-add, drop-append_seam}
use Rattle.std.proofs.lemmas.Bool.{and_parts, and_from, not_from_false, ltb-true, eqb-true, true≢false}
use Rattle.std.proofs.lemmas.List.{take_all, take_more}
use Rattle.std.proofs.lemmas.List.Elements.{All-nil, All-cons}
use Rattle.std.proofs.lemmas.List.Sums.{AllPass-from_list_all, passes_at_first, split_at_first}
use Rattle.std.proofs.lemmas.Option.{same_Some, none-some}
use Rattle.httparse.specs.Ascii.{line_feed, carriage_return}
use Rattle.httparse.specs.Grammar.{Field, IsField, IsRequestHead, IsToken, LineEnd, RequestHead, ReadsRequest, crlf, lf, is_token, is_token_byte, is_uri_byte, is_value_byte, print_blank, print_end, print_field, print_request, print_version}
use Rattle.http_pages.specs.Grammars.{IsHead, IsNarrow, SaysAs}
use Rattle.http_pages.specs.Heads.{behind_empty_line, behind_head, first_of, from_request_line, is_filled, is_line_feed, lines, without_cr}
use Rattle.http_pages.specs.Requests.{is_colon, is_field_line, is_request_line, is_space, method_of, minor_of, name_of, target_of, version_of}
use Rattle.http_pages.proofs.AloneLemmas.{first-less, head-less}
use Rattle.http_pages.proofs.GrammarLemmas.{after, before, behind_end, blank_lines, field_regroup, field_text, has_none, head_regroup, line_of, read}
use Rattle.http_pages.proofs.Pieces.{lines_next}

-- an empty line

abbrev Empty : List ℕ → List ℕ → Type 0
Empty xs s = (e : LineEnd) × (xs ≡ print_end e ++ s)

empty_one : (t : Bool) (b : ℕ) (s : List ℕ) → (b == line_feed) ≡ t → (if t then Some [] else None) ≡ Some s → Empty (b ∷ []) s
empty_one false b s is e = absurd (none-some s e)
empty_one true b s is e =
    let at : b ≡ 10 = eqb-true b 10 is in
    let end : [] ≡ s = same_Some [] s e in
    (lf, cc)

empty_two : (t u : Bool) (b c : ℕ) (rest s : List ℕ) → (b == line_feed) ≡ t → ((b == carriage_return) && (c == line_feed)) ≡ u
    → (if t then Some (c ∷ rest) else (if u then Some rest else None)) ≡ Some s → Empty (b ∷ c ∷ rest) s
empty_two true u b c rest s is line e =
    let at : b ≡ 10 = eqb-true b 10 is in
    let end : c ∷ rest ≡ s = same_Some (c ∷ rest) s e in
    (lf, cc)
empty_two false true b c rest s is line e =
    let parts = and_parts (b == carriage_return) (c == line_feed) line in
    let at : b ≡ 13 = eqb-true b 13 parts.0 in
    let next : c ≡ 10 = eqb-true c 10 parts.1 in
    let end : rest ≡ s = same_Some rest s e in
    (crlf, cc)
empty_two false false b c rest s is line e = absurd (none-some s e)

empty_is : (xs s : List ℕ) → behind_empty_line xs ≡ Some s → Empty xs s
empty_is [] s e = absurd (none-some s e)
empty_is (b ∷ []) s e = empty_one (b == line_feed) b s refl e
empty_is (b ∷ c ∷ rest) s e = empty_two (b == line_feed) ((b == carriage_return) && (c == line_feed)) b c rest s refl refl e

-- the empty lines in front

abbrev Blanks : List ℕ → List ℕ → Type 0
Blanks bytes first = ((es : List LineEnd) × (bytes ≡ print_blank es ++ first)) × (behind_empty_line first ≡ None)

one_more : (e : LineEnd) (bytes ys first : List ℕ) → bytes ≡ print_end e ++ ys → Blanks ys first → Blanks bytes first
one_more e bytes ys first is more =
    ((e ∷ more.0.0, is ∙ (ap (λ (t : List ℕ). print_end e ++ t) more.0.1 ∙ sym (append_assoc (print_end e) (print_blank more.0.0) first))), more.1)

blank_one : (t : Bool) (b : ℕ) → (b == line_feed) ≡ t → Blanks (b ∷ []) (if t then [] else b ∷ [])
blank_one true b is = one_more lf (b ∷ []) [] [] (ap (λ (b : ℕ). b ∷ []) (eqb-true b 10 is)) (([], refl), refl)
blank_one false b is = (([], refl), ap (λ (t : Bool). if t then Some [] else None) is)

blank_two : (t u : Bool) (b c : ℕ) (rest : List ℕ) → (b == line_feed) ≡ t → ((b == carriage_return) && (c == line_feed)) ≡ u
    → Blanks (c ∷ rest) (from_request_line (c ∷ rest)) → Blanks rest (from_request_line rest)
    → Blanks (b ∷ c ∷ rest) (if t then from_request_line (c ∷ rest) else (if u then from_request_line rest else b ∷ c ∷ rest))
blank_two true u b c rest is line f g = one_more lf (b ∷ c ∷ rest) (c ∷ rest) _ (ap (λ (b : ℕ). b ∷ c ∷ rest) (eqb-true b 10 is)) f
blank_two false true b c rest is line f g =
    let parts = and_parts (b == carriage_return) (c == line_feed) line in
    let at : b ≡ 13 = eqb-true b 13 parts.0 in
    let next : c ≡ 10 = eqb-true c 10 parts.1 in
    one_more crlf (b ∷ c ∷ rest) rest _ (cc) g
blank_two false false b c rest is line f g = (([], refl), rw (is, line) refl)

blanks : (bytes : List ℕ) → Blanks bytes (from_request_line bytes)
unfolding from_request_line
blanks [] = (([], refl), refl)
blanks (b ∷ []) = blank_one (b == line_feed) b refl
blanks (b ∷ c ∷ rest) =
    blank_two (b == line_feed) ((b == carriage_return) && (c == line_feed)) b c rest refl refl (blanks (c ∷ rest)) (blanks rest)

-- the first line of a head, up to its LF

record FirstLine (xs r : List ℕ) : Type 0 where
  text : List ℕ
  more : List ℕ
  is : xs ≡ text ++ 10 ∷ more
  none : has_none is_line_feed text
  on : first_of (behind_empty_line more) (behind_head more) ≡ Some r

first_line : (xs r : List ℕ) → behind_head xs ≡ Some r → FirstLine xs r
unfolding behind_head
first_line [] r e = absurd (none-some r e)
first_line (b ∷ xs) r e = by_test (is_line_feed b) refl e (λ f. first_line xs r f)
  where
    by_test : (t : Bool) → is_line_feed b ≡ t → (if t then first_of (behind_empty_line xs) (behind_head xs) else behind_head xs) ≡ Some r
        → (behind_head xs ≡ Some r → FirstLine xs r) → FirstLine (b ∷ xs) r
    by_test true is f go = record { text = []; more = xs; is = ap (λ (b : ℕ). b ∷ xs) (eqb-true b 10 is); none = refl; on = f }
    by_test false is f go =
        let l = go f in
        record {
          text = b ∷ l.text;
          more = l.more;
          is = ap (λ (xs : List ℕ). b ∷ xs) l.is;
          none = and_from _ _ (not_from_false _ is) l.none;
          on = l.on;
        }

-- a line and its end
abbrev pub Ended : List ℕ → Type 0
Ended t = (e : LineEnd) × ((ys : List ℕ) → t ++ 10 ∷ ys ≡ without_cr t ++ (print_end e ++ ys))

pub ended : (t : List ℕ) → Ended t
unfolding without_cr
ended t = by_test (get_or t (length t - 1) 0 == carriage_return) refl
  where
    by_test : (u : Bool) → (get_or t (length t - 1) 0 == carriage_return) ≡ u
        → (e : LineEnd) × ((ys : List ℕ) → t ++ 10 ∷ ys ≡ (if u then take (length t - 1) t else t) ++ (print_end e ++ ys))
    by_test false is = (lf, λ ys. refl)
    by_test true is =
        let cr : get_or t (length t - 1) 0 ≡ 13 = eqb-true _ 13 is in
        let some : 0 < length t = by_list t cr in
        let size : length t ≡ (length t - 1) + 1 = omega (arith, some) in
        let whole : t ≡ take (length t - 1) t ++ 13 ∷ [] =
        sym (take_all (length t) t (omega arith))
        ∙ (ap (λ (n : ℕ). take n t) size ∙ (take_more t (length t - 1) 0 (omega (arith, some)) ∙ ap (λ (b : ℕ). take (length t - 1) t ++ b ∷ []) cr)) in
        (crlf, λ ys. ap (λ (t : List ℕ). t ++ 10 ∷ ys) whole ∙ append_assoc (take (length t - 1) t) (13 ∷ []) (10 ∷ ys))
      where
        by_list : (t : List ℕ) → get_or t (length t - 1) 0 ≡ 13 → 0 < length t
        by_list [] e = absurd (omega (arith, e))
        by_list (b ∷ t) e = omega arith

-- a line that isn't empty has bytes before its end
line_some : (t ys : List ℕ) → behind_empty_line (t ++ 10 ∷ ys) ≡ None → 0 < length (without_cr t)
line_some t ys full = by_list (without_cr t) refl
  where
    by_list : (w : List ℕ) → without_cr t ≡ w → 0 < length w
    by_list [] is =
        let e = ended t in
        let empty : behind_empty_line (t ++ 10 ∷ ys) ≡ Some ys = ap behind_empty_line (e.1 ys ∙ ap (λ (w : List ℕ). w ++ (print_end e.0 ++ ys)) is) ∙ behind_end e.0 ys in
        absurd (none-some ys (sym full ∙ empty))
    by_list (b ∷ w) is = omega arith

-- its text, where so much of what follows is looked at
line_cut : (t ys : List ℕ) (r : List ℕ) → length r ≤ length ys → has_none is_line_feed t → 0 < length (without_cr t)
    → lines (take (length (t ++ 10 ∷ ys) - length r) (t ++ 10 ∷ ys)) ≡ without_cr t ∷ lines (take (length ys - length r) ys)
line_cut t ys r fits none some =
    let k = length ys - length r in
    let size : length (t ++ 10 ∷ ys) - length r ≡ length t + (suc k) = omega (arith, length-append t (10 ∷ ys), fits) in
    ap (λ (n : ℕ). lines (take n (t ++ 10 ∷ ys))) size
    ∙ (ap lines (take-append-add t (10 ∷ ys) (suc k))
    ∙ lines_next (t ++ 10 ∷ take k ys) (without_cr t) (take k ys) (sym (ap without_cr (before is_line_feed t 10 (take k ys) none refl))) (sym (after is_line_feed t 10 (take k ys) none refl)) some)

-- words

split_word : (p : ℕ → Bool) (b : ℕ) (u : List ℕ) → ((c : ℕ) → p c ≡ true → c ≡ b) → position_or_len p u < length u → u ≡ before_first p u ++ b ∷ after_first p u
split_word p b u only found =
    split_at_first p u 0 found ∙ ap (λ (c : ℕ). before_first p u ++ c ∷ after_first p u) (only _ (passes_at_first p u 0 found))

found_behind : (p : ℕ → Bool) (u : List ℕ) → 0 < length (after_first p u) → position_or_len p u < length u
found_behind p u some = omega (arith, some, length-drop (position_or_len p u + 1) u)

found_any : (p : ℕ → Bool) (u : List ℕ) → list_any p u ≡ true → position_or_len p u < length u
found_any p [] e = absurd (true≢false (sym e))
found_any p (b ∷ u) e = by_test (p b) refl e (λ f. found_any p u f)
  where
    by_test : (t : Bool) → p b ≡ t → (t || list_any p u) ≡ true → (list_any p u ≡ true → position_or_len p u < length u)
        → position_or_len p (b ∷ u) < length (b ∷ u)
    by_test true is f go = rw is (omega arith)
    by_test false is f go = let later = go f in rw is (omega (arith, later))

pub token_is : (t : List ℕ) → is_token t ≡ true → IsToken t
token_is t e =
    let parts = and_parts _ (list_all is_token_byte t) e in
    (ltb-true 0 (length t) parts.0, AllPass-from_list_all is_token_byte t parts.1)

-- a field line
abbrev field_of : List ℕ → LineEnd → Field
field_of w e = record { name = name_of w; raw = after_first is_colon w; end = e }

field_is : (w : List ℕ) (e : LineEnd) → is_field_line w ≡ true → IsField (field_of w e) × (w ≡ field_text (field_of w e))
field_is w e is =
    let parts = and_parts (is_token (name_of w)) _ is in
    let rest = and_parts (list_any is_colon w) _ parts.1 in (
      record { name = token_is (name_of w) parts.0; raw = AllPass-from_list_all is_value_byte (after_first is_colon w) rest.1 },
      split_word is_colon 58 w (λ c f. eqb-true c 58 f) (found_any is_colon w rest.0),
    )

-- the lines behind a request line

abbrev Section : List ℕ → List ℕ → Type 0
Section xs r = (fs : List Field) × (last : LineEnd) × All IsField fs × (xs ≡ flat_map print_field fs ++ (print_end last ++ r))

one_field : (t ys r : List ℕ) → is_field_line (without_cr t) ≡ true → Section ys r → Section (t ++ 10 ∷ ys) r
one_field t ys r is s =
    let e = ended t in
    let f = field_of (without_cr t) e.0 in
    let good = field_is (without_cr t) e.0 is in
    let fs = s.0 in
    let behind = print_end s.1 ++ r in (
      f ∷ fs,
      s.1,
      All-cons IsField f fs good.0 s.2,
      e.1 ys
          ∙ (ap (λ (w : List ℕ). w ++ (print_end e.0 ++ ys)) good.1
          ∙ (ap (λ (ys : List ℕ). field_text f ++ (print_end e.0 ++ ys)) s.3 ∙ sym (field_regroup f fs behind))),
    )

fits : (ys r : List ℕ) → first_of (behind_empty_line ys) (behind_head ys) ≡ Some r → length r ≤ length ys
fits ys r e = first-less (behind_empty_line ys) ys r refl e (λ s f. let l = head-less ys s f in omega (arith, l))

abbrev FieldLines : List ℕ → List ℕ → Type 0
FieldLines xs r = list_all is_field_line (lines (take (length xs - length r) xs)) ≡ true

section_by : (o : Option (List ℕ)) (xs r : List ℕ) → behind_empty_line xs ≡ o → first_of o (behind_head xs) ≡ Some r → FieldLines xs r
    → ((ys : List ℕ) → length ys < length xs → first_of (behind_empty_line ys) (behind_head ys) ≡ Some r → FieldLines ys r → Section ys r) → Section xs r
section_by (Some s) xs r is e all go =
    let empty = empty_is xs s is in
    ([], empty.0, All-nil IsField, empty.1 ∙ ap (λ (s : List ℕ). print_end empty.0 ++ s) (same_Some s r e))
section_by None xs r is e all go =
    let l = first_line xs r e in
    let t = l.text in
    let ys = l.more in
    let some = line_some t ys (ap behind_empty_line (sym l.is) ∙ is) in
    let cut = line_cut t ys r (fits ys r l.on) l.none some in
    let here : FieldLines (t ++ 10 ∷ ys) r = subst (λ (xs : List ℕ). FieldLines xs r) l.is all in
    let parts = and_parts (is_field_line (without_cr t)) _ (ap (list_all is_field_line) (sym cut) ∙ here) in
    let size : length ys < length xs = omega (arith, ap length l.is, length-append t (10 ∷ ys)) in
    subst (λ (xs : List ℕ). Section xs r) (sym l.is) (one_field t ys r parts.0 (go ys size l.on parts.1))

section : (n : ℕ) (xs r : List ℕ) → length xs ≤ n → first_of (behind_empty_line xs) (behind_head xs) ≡ Some r → FieldLines xs r → Section xs r
section zero xs r h e all = section_by (behind_empty_line xs) xs r refl e all (λ ys l f g. absurd (omega (arith, h, l)))
section (suc n) xs r h e all = section_by (behind_empty_line xs) xs r refl e all (λ ys l f g. section n ys r (omega (arith, h, l)) f g)

-- a request line

small : (v : List ℕ) → minor_of v ≤ 1
small v = by_test (get_or v 7 0 == 48)
  where
    by_test : (t : Bool) → (if t then 0 else 1) ≤ 1
    by_test true = omega arith
    by_test false = omega arith

words : (line : List ℕ) → IsNarrow line → line ≡ method_of line ++ 32 ∷ (target_of line ++ 32 ∷ print_version (minor_of (version_of line)))
words line narrow =
    let u = after_first is_space line in
    let size : 0 < length (version_of line) = omega (arith, ap length narrow.version) in
    let second = found_behind is_space u size in
    let first = found_behind is_space line (omega (arith, second)) in
    split_word is_space 32 line (λ c f. eqb-true c 32 f) first
    ∙ (ap (λ (u : List ℕ). method_of line ++ 32 ∷ u) (split_word is_space 32 u (λ c f. eqb-true c 32 f) second)
    ∙ ap (λ (v : List ℕ). method_of line ++ 32 ∷ (target_of line ++ 32 ∷ v)) narrow.version)

filled_is : (t : List ℕ) → is_filled t ≡ true → 0 < length t
filled_is [] e = absurd (true≢false (sym e))
filled_is (b ∷ t) e = omega arith

-- a head

abbrev head_with : List LineEnd → List ℕ → LineEnd → List Field → LineEnd → RequestHead
head_with es line e fs last = record {
  blank = es;
  method = method_of line;
  target = target_of line;
  minor = minor_of (version_of line);
  line_end = e;
  fields = fs;
  last = last;
}

head_is : (es : List LineEnd) (line : List ℕ) (e : LineEnd) (fs : List Field) (last : LineEnd) → is_request_line line ≡ true → IsNarrow line → All IsField fs
    → IsRequestHead (head_with es line e fs last)
head_is es line e fs last is narrow all =
    let parts = and_parts (is_token (method_of line)) _ is in
    let rest = and_parts (is_filled (target_of line) && list_all is_uri_byte (target_of line)) _ parts.1 in
    let target = and_parts (is_filled (target_of line)) _ rest.0 in
    record {
      method = token_is (method_of line) parts.0;
      target = (filled_is (target_of line) target.0, AllPass-from_list_all is_uri_byte (target_of line) target.1);
      target_text = narrow.target;
      minor = small (version_of line);
      fields = all;
    }

-- the first line of a head is its first one that isn't empty
pub record FirstOf (bytes r line : List ℕ) (fields : List (List ℕ)) : Type 0 where
  pub es : List LineEnd
  pub t : List ℕ
  pub ys : List ℕ
  pub blank : bytes ≡ print_blank es ++ from_request_line bytes
  pub is : from_request_line bytes ≡ t ++ 10 ∷ ys
  pub on : first_of (behind_empty_line ys) (behind_head ys) ≡ Some r
  pub some : 0 < length (without_cr t)
  pub text : line ≡ without_cr t
  pub behind : fields ≡ lines (take (length ys - length r) ys)

pub first_is : (bytes r line : List ℕ) (fields : List (List ℕ)) → behind_head (from_request_line bytes) ≡ Some r → lines (take (length bytes - length r) bytes) ≡ line ∷ fields
    → FirstOf bytes r line fields
first_is bytes r line fields end cut =
    let xs = from_request_line bytes in
    let front = blanks bytes in
    let es = front.0.0 in
    let l = first_line xs r end in
    let t = l.text in
    let ys = l.more in
    let w = without_cr t in
    let short = fits ys r l.on in
    let some = line_some t ys (ap behind_empty_line (sym l.is) ∙ front.1) in
    let k = length xs - length r in
    let size : length bytes - length r ≡ length (print_blank es) + k =
    omega (arith, ap length front.0.1, length-append (print_blank es) xs, ap length l.is, length-append t (10 ∷ ys), short) in
    let looked : lines (take (length bytes - length r) bytes) ≡ lines (take k xs) =
    ap (λ (n : ℕ). lines (take n bytes)) size
    ∙ (ap (λ (b : List ℕ). lines (take (length (print_blank es) + k) b)) front.0.1
    ∙ (ap lines (take-append-add (print_blank es) xs k) ∙ blank_lines es (take k xs))) in
    let first : lines (take k xs) ≡ w ∷ lines (take (length ys - length r) ys) =
    ap (λ (xs : List ℕ). lines (take (length xs - length r) xs)) l.is ∙ line_cut t ys r short l.none some in
    let both : line ∷ fields ≡ w ∷ lines (take (length ys - length r) ys) = sym cut ∙ (looked ∙ first) in
    record {
      es = es;
      t = t;
      ys = ys;
      blank = front.0.1;
      is = l.is;
      on = l.on;
      some = some;
      text = cc;
      behind = cc;
    }

accept_here : (bytes r line : List ℕ) (fields : List (List ℕ)) → behind_head (from_request_line bytes) ≡ Some r → lines (take (length bytes - length r) bytes) ≡ line ∷ fields
    → is_request_line line ≡ true → list_all is_field_line fields ≡ true → IsNarrow line → (h : RequestHead) × ReadsRequest bytes h r
accept_here bytes r line fields end cut is all narrow =
    let xs = from_request_line bytes in
    let l = first_is bytes r line fields end cut in
    let es = l.es in
    let ys = l.ys in
    let s = section (length ys) ys r (omega arith) l.on (ap (list_all is_field_line) (sym l.behind) ∙ all) in
    let e = ended l.t in
    let h = head_with es line e.0 s.0 s.1 in
    let z = flat_map print_field s.0 ++ (print_end s.1 ++ r) in
    let whole : xs ≡ line_of h ++ (print_end e.0 ++ z) =
    l.is
    ∙ (e.1 ys
    ∙ (ap (λ (w : List ℕ). w ++ (print_end e.0 ++ ys)) (sym l.text ∙ words line narrow) ∙ ap (λ (ys : List ℕ). line_of h ++ (print_end e.0 ++ ys)) s.3)) in
    (h, (head_is es line e.0 s.0 s.1 is narrow s.2, l.blank ∙ (ap (λ (xs : List ℕ). print_blank es ++ xs) whole ∙ sym (head_regroup h r))))

abbrev Accepted : List ℕ → ℕ → List ℕ → List (List ℕ) → Type 0
Accepted bytes n line fields = (h : RequestHead) × ReadsRequest bytes h (drop n bytes) × SaysAs h line fields

says : (h : RequestHead) (a b : List ℕ) (fs gs : List (List ℕ)) → a ∷ fs ≡ b ∷ gs → SaysAs h b gs → SaysAs h a fs
says h a b fs gs e s =
    let line : b ≡ a = cc in
    let fields : gs ≡ fs = cc in
    subst (λ (a : List ℕ). SaysAs h a fs) line (subst (λ (fs : List (List ℕ)). SaysAs h b fs) fields s)

pub accepted : (bytes : List ℕ) (n : ℕ) (line : List ℕ) (fields : List (List ℕ)) → IsHead bytes n line fields → IsNarrow line → Accepted bytes n line fields
accepted bytes n line fields is narrow = by_end (behind_head (from_request_line bytes)) refl is.ends
  where
    by_end : (o : Option (List ℕ)) → behind_head (from_request_line bytes) ≡ o → option_map (λ r. length bytes - length r) o ≡ Some n → Accepted bytes n line fields
    by_end None end e = absurd (none-some n e)
    by_end (Some r) end e =
        let count : length bytes - length r ≡ n = same_Some (length bytes - length r) n e in
        let cut : lines (take (length bytes - length r) bytes) ≡ line ∷ fields = ap (λ (n : ℕ). lines (take n bytes)) count ∙ is.cut in
        let found = accept_here bytes r line fields end cut is.request_line is.field_lines narrow in
        let h = found.0 in
        let size : n ≡ length (print_request h) = omega (arith, count, ap length found.1.1, length-append (print_request h) r) in
        let rest : r ≡ drop n bytes = sym (ap (λ (n : ℕ). drop n bytes) size ∙ (ap (drop (length (print_request h))) found.1.1 ∙ drop-append_seam (print_request h) r)) in
        let back = read bytes r h found.1 in
        (h, (found.1.0, found.1.1 ∙ ap (λ (r : List ℕ). print_request h ++ r) rest), says h line back.0 fields back.1 (sym cut ∙ back.2.cut) back.4)
