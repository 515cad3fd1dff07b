-- A head is answered by its lines, and what is none is refused.
use Rattle.std.proofs.Common.{◌≡◌, ◌∙◌, ℕ, zero, suc, ◌+◌, ◌-◌, ◌<◌, ◌≤◌, ◌⊎◌, inl, inr, Bool, true, false, List, [], ◌∷◌, ◌++◌, length, take, drop, refl, sym, ap, arith, subst}
use Rattle.std.specs.Prelude.{Option, Some, None, option_map, nat_le, if◌then◌else◌}
use Rattle.std.specs.List.{list_all, list_any, before_first, position_or_len}
use Rattle.std.proofs.lemmas.Bool.{and_parts, true≢false}
use Rattle.std.proofs.lemmas.List.{length-take, take-take, take-append-drop}
use Rattle.std.proofs.lemmas.Option.{same_Some, none-some}
use Rattle.httparse.specs.Grammar.{is_token, is_token_byte, print_end}
use Rattle.http_pages.specs.declared.answer.Status.TheVariants.{BadRequest, UriTooLong, HeadTooLarge, VersionNotSupported}
use Rattle.http_pages.specs.declared.answer.Answer.{Answer}
use Rattle.http_pages.specs.Choosing.{answer, by_lines, is_head, refused}
use Rattle.http_pages.specs.Grammars.{IsHead, IsRefusal}
use Rattle.http_pages.specs.Heads.{begins_badly, behind_head, from_request_line, head_length, is_line_feed, lines}
use Rattle.http_pages.specs.Limits.{most_head}
use Rattle.http_pages.specs.Pages.{Page}
use Rattle.http_pages.specs.Reading.{answer_to, by_length, too_long}
use Rattle.http_pages.specs.Requests.{is_field_line, is_major_one, is_request_line, is_space, method_of, version_of}
use Rattle.http_pages.proofs.AcceptLemmas.{ended, first_is}
use Rattle.http_pages.proofs.AloneLemmas.{cut, cut-head, from-length, head-less}
use Rattle.http_pages.proofs.Standing.{ends}

-- the bytes of a head alone have it too
own_head : (o : Option (List ℕ)) (bytes : List ℕ) (n : ℕ) → behind_head (from_request_line bytes) ≡ o → option_map (λ r. length bytes - length r) o ≡ Some n → head_length (take n bytes) ≡ Some n
own_head None bytes n h e = absurd (none-some n e)
own_head (Some r) bytes n h e =
    let first = from_request_line bytes in
    let is = same_Some (length bytes - length r) n e in
    let less = from-length bytes in
    let some = head-less first r h in
    let k = length first - length r in
    let kept : from_request_line (take n bytes) ≡ take k first = cut bytes n k (omega (arith, some)) (omega arith) (omega (arith, is, less, some)) in
    let done : behind_head (from_request_line (take n bytes)) ≡ Some [] = ap behind_head kept ∙ cut-head first r k h (omega (arith, some)) in
    let size = length-take n bytes in
    let whole : length (take n bytes) - 0 ≡ n = omega (arith, size, is) in
    ap (λ (o : Option (List ℕ)). option_map (λ r. length (take n bytes) - length r) o) done ∙ ap Some whole

-- so has whoever looks at as many bytes or more
looked : (bytes : List ℕ) (n m : ℕ) → head_length bytes ≡ Some n → n ≤ m → head_length (take m bytes) ≡ Some n
looked bytes n m e w =
    let own = own_head (behind_head (from_request_line bytes)) bytes n refl e in
    let front = take m bytes in
    let same : take n front ≡ take n bytes = take-take n m bytes w in
    let split : take n bytes ++ drop n front ≡ front = ap (λ (xs : List ℕ). xs ++ drop n front) (sym same) ∙ take-append-drop n front in
    subst (λ (xs : List ℕ). head_length xs ≡ Some n) split (ends (take n bytes) (drop n front) n own).same

-- a line's first byte is one of its method
taken_first : (n b : ℕ) (w : List ℕ) → is_token (take n (b ∷ w)) ≡ true → is_token_byte b ≡ true
taken_first zero b w is = absurd (true≢false (sym is))
taken_first (suc n) b w is = (and_parts (is_token_byte b) _ (and_parts _ (list_all is_token_byte (b ∷ take n w)) is).1).0

token_first : (b : ℕ) (w : List ℕ) → is_token (before_first is_space (b ∷ w)) ≡ true → is_token_byte b ≡ true
token_first b w is = taken_first (position_or_len is_space (b ∷ w)) b w is

not_badly : (line rest : List ℕ) → is_token (method_of line) ≡ true → 0 < length line → begins_badly (line ++ rest) ≡ false
not_badly [] rest is some = absurd (omega (arith, some))
not_badly (b ∷ w) rest is some = rw (token_first b w is) refl

begins_well : (bytes : List ℕ) (n : ℕ) (line : List ℕ) (fields : List (List ℕ)) → IsHead bytes n line fields → begins_badly (from_request_line bytes) ≡ false
begins_well bytes n line fields is = by_end (behind_head (from_request_line bytes)) refl is.ends
  where
    by_end : (o : Option (List ℕ)) → behind_head (from_request_line bytes) ≡ o → option_map (λ r. length bytes - length r) o ≡ Some n → begins_badly (from_request_line bytes) ≡ false
    by_end None end e = absurd (none-some n e)
    by_end (Some r) end e =
        let count : length bytes - length r ≡ n = same_Some (length bytes - length r) n e in
        let l = first_is bytes r line fields end (ap (λ (n : ℕ). lines (take n bytes)) count ∙ is.cut) in
        let end = ended l.t in
        let text : from_request_line bytes ≡ line ++ (print_end end.0 ++ l.ys) =
        l.is ∙ (end.1 l.ys ∙ ap (λ (w : List ℕ). w ++ (print_end end.0 ++ l.ys)) (sym l.text)) in
        let some : 0 < length line = subst (λ (w : List ℕ). 0 < length w) (sym l.text) l.some in
        ap begins_badly text ∙ not_badly line (print_end end.0 ++ l.ys) (and_parts (is_token (method_of line)) _ is.request_line).0 some

module _ (pages : List Page) (at : ℕ) where
  abbrev Found : List ℕ → Bool → Option (Answer × ℕ)
  Found front t = if t then Some (refused BadRequest false at, length front - length (from_request_line front) + 1) else by_length pages at front (head_length front)

  pub judged : (bytes : List ℕ) (n : ℕ) (line : List ℕ) (fields : List (List ℕ)) → IsHead bytes n line fields → n ≤ most_head → answer_to pages at bytes ≡ Some (by_lines pages at (line ∷ fields), n)
  unfolding answer_to answer
  judged bytes n line fields is w =
      let front = take most_head bytes in
      let ends = looked bytes n most_head is.ends w in
      let cut : lines (take n front) ≡ line ∷ fields = ap lines (take-take n most_head bytes w) ∙ is.cut in
      let head : IsHead front n line fields = record { ends = ends; cut = cut; request_line = is.request_line; field_lines = is.field_lines } in
      ap (Found front) (begins_well front n line fields head)
      ∙ (ap (by_length pages at front) ends ∙ ap (λ (ls : List (List ℕ)). Some (by_lines pages at ls, n)) cut)

  abbrev Judged : List ℕ → Answer × ℕ → Type 0
  Judged bytes found =
      IsRefusal found.0 ⊎ ((line : List ℕ) × (fields : List (List ℕ)) × IsHead bytes found.1 line fields × (found.0 ≡ by_lines pages at (line ∷ fields)))

  no_line : (line : List ℕ) (fields : List (List ℕ)) → is_request_line line ≡ false → by_lines pages at (line ∷ fields) ≡ refused BadRequest (is_head (method_of line)) at
  no_line line fields e = rw e refl

  no_fields : (t u : Bool) (line : List ℕ) (fields : List (List ℕ)) → is_request_line line ≡ true → list_all is_field_line fields ≡ false → is_major_one (version_of line) ≡ t
      → IsRefusal (by_lines pages at (line ∷ fields))
  no_fields true u line fields is e major =
      let a : by_lines pages at (line ∷ fields) ≡ refused BadRequest (is_head (method_of line)) at = rw (is, e, major) refl in
      subst IsRefusal (sym a) (record { status = refl; ends = refl })
  no_fields false u line fields is e major =
      let a : by_lines pages at (line ∷ fields) ≡ refused VersionNotSupported (is_head (method_of line)) at = rw (is, e, major) refl in
      subst IsRefusal (sym a) (record { status = refl; ends = refl })

  by_cut : (bytes : List ℕ) (n : ℕ) (ls : List (List ℕ)) → head_length bytes ≡ Some n → lines (take n bytes) ≡ ls → Judged bytes (by_lines pages at ls, n)
  by_cut bytes n [] e cut = inl (record { status = refl; ends = refl })
  by_cut bytes n (line ∷ fields) e cut = by_tests (is_request_line line) (list_all is_field_line fields) refl refl
    where
      by_tests : (t u : Bool) → is_request_line line ≡ t → list_all is_field_line fields ≡ u → Judged bytes (by_lines pages at (line ∷ fields), n)
      by_tests false u is all = inl (subst IsRefusal (sym (no_line line fields is)) (record { status = refl; ends = refl }))
      by_tests true false is all = inl (no_fields (is_major_one (version_of line)) true line fields is all refl)
      by_tests true true is all = inr (line, fields, record { ends = e; cut = cut; request_line = is; field_lines = all }, refl)

  by_head : (o : Option ℕ) (bytes : List ℕ) (found : Answer × ℕ) → head_length (take most_head bytes) ≡ o → by_length pages at (take most_head bytes) o ≡ Some found → Judged bytes found
  unfolding answer
  by_head (Some n) bytes found e is =
      let front = take most_head bytes in
      let whole = ends front (drop most_head bytes) n e in
      let here : head_length bytes ≡ Some n = subst (λ (xs : List ℕ). head_length xs ≡ Some n) (take-append-drop most_head bytes) whole.same in
      let less : n ≤ most_head = omega (arith, whole.within, length-take most_head bytes) in
      let same : lines (take n bytes) ≡ lines (take n front) = ap lines (sym (take-take n most_head bytes less)) in
      subst (Judged bytes) (same_Some (answer pages at (take n front), n) found is) (by_cut bytes n (lines (take n front)) here same)
  by_head None bytes found e is = by_size (nat_le most_head (length (take most_head bytes))) is
    where
      long : (t : Bool) → IsRefusal (refused (if t then HeadTooLarge else UriTooLong) false at)
      long true = record { status = refl; ends = refl }
      long false = record { status = refl; ends = refl }

      by_size : (t : Bool) → (if t then Some (too_long at (take most_head bytes), most_head) else None) ≡ Some found → Judged bytes found
      by_size false f = absurd (none-some found f)
      by_size true f =
          subst (Judged bytes) (same_Some (too_long at (take most_head bytes), most_head) found f) (inl (long (list_any is_line_feed (from_request_line (take most_head bytes)))))

  pub others : (bytes : List ℕ) (found : Answer × ℕ) → answer_to pages at bytes ≡ Some found → Judged bytes found
  unfolding answer_to
  others bytes found e = by_first (begins_badly (from_request_line (take most_head bytes))) refl e
    where
      by_first : (t : Bool) → begins_badly (from_request_line (take most_head bytes)) ≡ t → Found (take most_head bytes) t ≡ Some found → Judged bytes found
      by_first true bad f =
          subst (Judged bytes) (same_Some (refused BadRequest false at, length (take most_head bytes) - length (from_request_line (take most_head bytes)) + 1) found f) (inl (record { status = refl; ends = refl }))
      by_first false bad f = by_head (head_length (take most_head bytes)) bytes found refl f
