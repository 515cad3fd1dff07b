-- What is sent of a page: all of it, or a part that it has; and of which page.
use Rattle.std.proofs.Common.{◌≡◌, ℕ, ◌+◌, ◌-◌, ◌<◌, ◌≤◌, min, Bool, true, false, not, ◌&&◌, List, [], ◌∷◌, ◌++◌, length, take, refl, sym, ap, ◌∙◌, subst, arith}
use Rattle.std.specs.Prelude.{Option, Some, None, Result, Ok, Err, ◌==◌, nat_le, nat_lt, if◌then◌else◌, codes, ⊤}
use Rattle.std.specs.List.{list_any, list_all, before_first, after_first}
use Rattle.std.proofs.lemmas.Bool.{leb-false, ltb-false, eqb-false, false≢true}
use Rattle.std.proofs.lemmas.Option.{same_Some, none-some}
use Rattle.http1.specs.declared.framing.Framing.{Framing}
use Rattle.http1.specs.declared.framing.FramingError.{FramingError}
use Rattle.http1.specs.Text.{eq_ignore_case}
use Rattle.http_pages.specs.declared.answer.Answer.{Answer}
use Rattle.http_pages.specs.declared.answer.Status.{Status}
use Rattle.http_pages.specs.declared.answer.Status.TheVariants as s
use Rattle.http_pages.specs.declared.ranges.Wanted.{Wanted}
use Rattle.http_pages.specs.declared.ranges.Wanted.TheVariants.{Whole, Part, Nothing}
use Rattle.http_pages.specs.Choosing.{answer, at_folder, at_page, by_conditions, by_fault, by_lines, by_method, by_path, by_range, is_had, is_head, is_known, is_matched, is_served, nth_page, of_page, path_of, plain, refused, unserved, with_part}
use Rattle.http_pages.specs.Heads.{begins_badly, from_request_line, head_length, is_filled, is_line_feed, lines}
use Rattle.http_pages.specs.Limits.{most_head}
use Rattle.http_pages.specs.Naming.{LiesAt, Tells, TellsOfTarget, tells_of_page}
use Rattle.http_pages.specs.Pages.{Page, folder_named, page_named}
use Rattle.percent_encoding.specs.Percent.{percent_decode}
use Rattle.http_pages.proofs.NamingLemmas.{at-lies, named-lies, none-lies, unnamed}
use Rattle.http_pages.specs.Ranges.{by_count, by_places, by_ranges, is_equals, is_hyphen, is_unchanged, number, range_set, range_spec, ranges_specifier, wanted_part}
use Rattle.http_pages.specs.Reading.{answer_to, by_length, too_long}
use Rattle.http_pages.specs.Requests.{fault_of, framing_fault, framing_of, has_content, has_host, is_field_line, is_major_one, is_request_line, known_of, method_of, minor_of, target_of, values_of, version_of}

either : {X : Type 0} (P : X → Type 0) (t : Bool) (a b : X) → P a → P b → P (if t then a else b)
either P true a b f g = f
either P false a b f g = g

-- the part that is wanted

abbrev Within : ℕ → Wanted → Type 0
Within size Whole = ⊤
Within size (Part from to) = (from < to) × (to ≤ size)
Within size Nothing = ⊤

int_by : (t u : Bool) (size first last : ℕ) → nat_le size first ≡ t → nat_lt last first ≡ u
    → Within size (if t then Nothing else (if u then Whole else Part first (min (last + 1) size)))
int_by true u size first last e f = tt
int_by false true size first last e f = tt
int_by false false size first last e f =
    let inside = leb-false size first e in
    let ordered = ltb-false last first f in
    (omega (arith, inside, ordered), omega arith)

suffix_by : (t u : Bool) (size count : ℕ) → (count == 0) ≡ t → (size == 0) ≡ u
    → Within size (if t then Nothing else (if u then Whole else Part (size - count) size))
suffix_by true u size count e f = tt
suffix_by false true size count e f = tt
suffix_by false false size count e f =
    let some = eqb-false count 0 e in
    let full = eqb-false size 0 f in
    (omega (arith, some, full), omega arith)

places_within : (size : ℕ) (o p : Option ℕ) → Within size (by_places size o p)
places_within size None p = tt
places_within size (Some first) None = tt
places_within size (Some first) (Some last) = int_by (nat_le size first) (nat_lt last first) size first last refl refl

count_within : (size : ℕ) (o : Option ℕ) → Within size (by_count size o)
count_within size None = tt
count_within size (Some count) = suffix_by (count == 0) (size == 0) size count refl refl

spec_within : (size : ℕ) (before behind : List ℕ) → Within size (range_spec size before behind)
spec_within size before behind =
    either (Within size) (is_filled before) (by_places size (number before) (if is_filled behind then number behind else Some size)) (by_count size (number behind))
    (places_within size (number before) (if is_filled behind then number behind else Some size)) (count_within size (number behind))

specifier_within : (size : ℕ) (value : List ℕ) → Within size (ranges_specifier size value)
specifier_within size value =
    let set = after_first is_equals value in
    either (Within size) (eq_ignore_case (before_first is_equals value) (codes "bytes")) (range_set size set) Whole
    (either (Within size) (list_any is_hyphen set) (range_spec size (before_first is_hyphen set) (after_first is_hyphen set)) Whole
    (spec_within size (before_first is_hyphen set) (after_first is_hyphen set)) tt) tt

ranges_within : (size : ℕ) (values : List (List ℕ)) → Within size (by_ranges size values)
ranges_within size [] = tt
ranges_within size (value ∷ []) = specifier_within size value
ranges_within size (value ∷ other ∷ more) = tt

wanted_within : (tag : List ℕ) (size : ℕ) (fields : List (List ℕ)) → Within size (wanted_part tag size fields)
wanted_within tag size fields =
    either (Within size) (is_unchanged tag (values_of (codes "if-range") fields)) (by_ranges size (values_of (codes "range") fields)) Whole
    (ranges_within size (values_of (codes "range") fields)) tt

-- an answer

module _ (pages : List Page) where
  -- what it sends, and what it tells of the target of this head
  pub record Sends (head : List ℕ) (a : Answer) : Type 0 where
    pub whole : a.status ≡ s.Ok → (a.from ≡ 0) × (a.to ≡ length (nth_page pages a.page).body)
    pub part : a.status ≡ s.PartialContent → (a.from < a.to) × (a.to ≤ length (nth_page pages a.page).body)
    pub tells : tells_of_page a.status ≡ true → TellsOfTarget pages head a

  module _ (head : List ℕ) where
    nothing : (a : Answer) → tells_of_page a.status ≡ false → Sends head a
    nothing a none = record {
      whole = λ e. absurd (false≢true (sym none ∙ ap tells_of_page e));
      part = λ e. absurd (false≢true (sym none ∙ ap tells_of_page e));
      tells = λ e. absurd (false≢true (sym none ∙ e));
    }

    -- the target names this path
    pub record Asks (line escaped : List ℕ) : Type 0 where
      pub fields : List (List ℕ)
      pub cut : lines head ≡ line ∷ fields
      pub target : path_of (target_of line) ≡ Some escaped

    tells-of : (line escaped : List ℕ) (a : Answer) → Asks line escaped → Tells pages (percent_decode escaped) a.status a.page → TellsOfTarget pages head a
    tells-of line escaped a k t = record { line = line; fields = k.fields; escaped = escaped; cut = k.cut; target = k.target; tells = t }

    -- all of the page there, before its conditions and ranges are looked at
    record All (line escaped : List ℕ) (a : Answer) : Type 0 where
      pub asks : Asks line escaped
      pub ok : a.status ≡ s.Ok
      pub first : a.from ≡ 0
      pub last : a.to ≡ length (nth_page pages a.page).body
      pub lies : LiesAt pages (percent_decode escaped) a.page

    module _ (line escaped : List ℕ) where
      all : (a : Answer) → All line escaped a → Sends head a
      all a is = record {
        whole = λ e. (is.first, is.last);
        part = λ e. absurd (let ok = is.ok in cc);
        tells = λ e. tells-of line escaped a is.asks (subst (λ (st : Status). Tells pages (percent_decode escaped) st a.page) (sym is.ok) is.lies);
      }

      part-of : (a : Answer) (w : Wanted) → All line escaped a → Within a.to w → Sends head (with_part a w)
      part-of a Whole is within = all a is
      part-of a (Part from to) is within = record {
        whole = λ e. cc;
        part = λ e. (within.0, omega (arith, within.1, is.last));
        tells = λ e. tells-of line escaped (with_part a (Part from to)) is.asks is.lies;
      }
      part-of a Nothing is within = record {
        whole = λ e. cc;
        part = λ e. cc;
        tells = λ e. tells-of line escaped (with_part a Nothing) is.asks is.lies;
      }

      conditions : (tag : List ℕ) (fields : List (List ℕ)) (a : Answer) → All line escaped a → Sends head (by_conditions tag fields a)
      conditions tag fields a is = by_test (is_matched tag fields) (is_had tag fields)
        where
          changed : Sends head (record a { status = s.PreconditionFailed })
          changed = record { whole = λ e. cc; part = λ e. cc; tells = λ e. tells-of line escaped (record a { status = s.PreconditionFailed }) is.asks is.lies }

          had : Sends head (record a { status = s.NotModified })
          had = record { whole = λ e. cc; part = λ e. cc; tells = λ e. tells-of line escaped (record a { status = s.NotModified }) is.asks is.lies }

          ranged : Sends head (by_range tag fields a)
          ranged = either (Sends head) a.only_head a (with_part a (wanted_part tag a.to fields)) (all a is) (part-of a (wanted_part tag a.to fields) is (wanted_within tag a.to fields))

          by_test : (t u : Bool) → Sends head (if not t then record a { status = s.PreconditionFailed } else (if u then record a { status = s.NotModified } else by_range tag fields a))
          by_test false u = changed
          by_test true true = had
          by_test true false = ranged

      folder : (o : Option ℕ) (a : Answer) → Asks line escaped → page_named pages escaped ≡ None → folder_named pages escaped ≡ o → Sends head (at_folder o a)
      folder None a k none e = record {
        whole = λ e. cc;
        part = λ e. cc;
        tells = λ _. tells-of line escaped (at_folder None a) k (unnamed pages escaped none, none-lies (percent_decode escaped ++ 47 ∷ []) pages e);
      }
      folder (Some n) a k none e = record {
        whole = λ e. cc;
        part = λ e. cc;
        tells = λ _. tells-of line escaped (at_folder (Some n) a) k (unnamed pages escaped none, at-lies (percent_decode escaped ++ 47 ∷ []) pages n e);
      }

      at : (fields : List (List ℕ)) (a : Answer) (o : Option ℕ) → Asks line escaped → page_named pages escaped ≡ o → a.status ≡ s.Ok → a.from ≡ 0
          → Sends head (at_page pages escaped fields a o)
      at fields a None k e ok first = folder (folder_named pages escaped) a k e refl
      at fields a (Some n) k e ok first =
          conditions (nth_page pages n).tag fields (of_page n (length (nth_page pages n).body) a)
          (record { asks = k; ok = ok; first = first; last = refl; lies = named-lies pages escaped n e })

    path : (line : List ℕ) (fields : List (List ℕ)) (a : Answer) (o : Option (List ℕ)) → lines head ≡ line ∷ fields → path_of (target_of line) ≡ o → a.status ≡ s.Ok → a.from ≡ 0
        → Sends head (by_path pages fields a o)
    path line fields a None c e ok first = nothing (record a { status = s.BadRequest; keeps = false }) refl
    path line fields a (Some escaped) c e ok first =
        at line escaped fields a (page_named pages escaped) (record { fields = fields; cut = c; target = e }) refl ok first

    abbrev pub Refusing : Option Status → Type 0
    Refusing o = (t : Status) → o ≡ Some t → tells_of_page t ≡ false

    refuses : (t : Status) → tells_of_page t ≡ false → Refusing (Some t)
    refuses t none u e = subst (λ (st : Status). tells_of_page st ≡ false) (same_Some t u e) none

    no_refusal : Refusing None
    no_refusal t e = absurd (none-some t e)

    unserved_refuses : (content : Bool) (m : List ℕ) → Refusing (unserved content m)
    unserved_refuses content m =
        either Refusing (is_served m) (if content then Some s.ContentTooLarge else None) (if is_known m then Some s.MethodNotAllowed else Some s.NotImplemented)
        (either Refusing content (Some s.ContentTooLarge) None (refuses s.ContentTooLarge refl) no_refusal)
        (either Refusing (is_known m) (Some s.MethodNotAllowed) (Some s.NotImplemented) (refuses s.MethodNotAllowed refl) (refuses s.NotImplemented refl))

    method : (line : List ℕ) (fields : List (List ℕ)) (now : ℕ) (o : Option Status) → lines head ≡ line ∷ fields → Refusing o → Sends head (by_method pages line fields now o)
    method line fields now None c none = path line fields (plain line fields now s.Ok) (path_of (target_of line)) c refl refl refl
    method line fields now (Some t) c none = nothing (plain line fields now t) (none t refl)

    framing_refuses : (other : Bool) (r : Result Framing FramingError) → Refusing (framing_fault other r)
    framing_refuses other (Ok f) = either Refusing other (Some s.NotImplemented) None (refuses s.NotImplemented refl) no_refusal
    framing_refuses other (Err e) = refuses s.BadRequest refl

    fault_refuses : (line : List ℕ) (fields : List (List ℕ)) → Refusing (fault_of line fields)
    fault_refuses line fields =
        let bad = refuses s.BadRequest refl in
        let framing = framing_fault (known_of fields).other_coding (framing_of line fields) in
        let good = list_all is_field_line fields && has_host (minor_of (version_of line)) fields in
        either Refusing (not (is_request_line line)) (Some s.BadRequest)
        (if not (is_major_one (version_of line)) then Some s.VersionNotSupported else (if not good then Some s.BadRequest else framing)) bad
        (either Refusing (not (is_major_one (version_of line))) (Some s.VersionNotSupported) (if not good then Some s.BadRequest else framing) (refuses s.VersionNotSupported refl)
        (either Refusing (not good) (Some s.BadRequest) framing bad (framing_refuses (known_of fields).other_coding (framing_of line fields))))

    fault : (line : List ℕ) (fields : List (List ℕ)) (now : ℕ) (o : Option Status) → lines head ≡ line ∷ fields → Refusing o → Sends head (by_fault pages line fields now o)
    fault line fields now None c none =
        method line fields now (unserved (has_content line fields) (method_of line)) c (unserved_refuses (has_content line fields) (method_of line))
    fault line fields now (Some t) c none = nothing (refused t (is_head (method_of line)) now) (none t refl)

    by_all_lines : (now : ℕ) (ls : List (List ℕ)) → lines head ≡ ls → Sends head (by_lines pages now ls)
    by_all_lines now [] c = nothing (refused s.BadRequest false now) refl
    by_all_lines now (line ∷ fields) c = fault line fields now (fault_of line fields) c (fault_refuses line fields)

    chosen : (now : ℕ) → Sends head (answer pages now head)
    unfolding answer
    chosen now = by_all_lines now (lines head) refl

  -- the head of an answer are the bytes that it takes
  abbrev pub SendsIf : List ℕ → Option (Answer × ℕ) → Type 0
  SendsIf front o = (f : Answer × ℕ) → o ≡ Some f → Sends (take f.1 front) f.0

  given : (front : List ℕ) (a : Answer) (n : ℕ) → Sends (take n front) a → SendsIf front (Some (a, n))
  given front a n is f e = subst (λ (f : Answer × ℕ). Sends (take f.1 front) f.0) (same_Some (a, n) f e) is

  no_answer : (front : List ℕ) → SendsIf front None
  no_answer front f e = absurd (none-some f e)

  long : (head : List ℕ) (now : ℕ) (front : List ℕ) → Sends head (too_long now front)
  long head now front =
      by_test (list_any is_line_feed (from_request_line front))
    where
      by_test : (t : Bool) → Sends head (refused (if t then s.HeadTooLarge else s.UriTooLong) false now)
      by_test true = nothing head (refused s.HeadTooLarge false now) refl
      by_test false = nothing head (refused s.UriTooLong false now) refl

  by_size : (now : ℕ) (front : List ℕ) (o : Option ℕ) → SendsIf front (by_length pages now front o)
  by_size now front (Some n) = given front (answer pages now (take n front)) n (chosen (take n front) now)
  by_size now front None =
      either (SendsIf front) (nat_le most_head (length front)) (Some (too_long now front, most_head)) None
      (given front (too_long now front) most_head (long (take most_head front) now front)) (no_answer front)

  pub answer_to-sends : (now : ℕ) (bytes : List ℕ) → SendsIf (take most_head bytes) (answer_to pages now bytes)
  unfolding answer_to
  answer_to-sends now bytes =
      let front = take most_head bytes in
      let count = length front - length (from_request_line front) + 1 in
      let bad = refused s.BadRequest false now in
      either (SendsIf front) (begins_badly (from_request_line front)) (Some (bad, count)) (by_length pages now front (head_length front))
      (given front bad count (nothing (take count front) bad refl)) (by_size now front (head_length front))
