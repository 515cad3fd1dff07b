-- How long an answer is at least.
use Rattle.std.proofs.Common.{◌≡◌, ℕ, ◌+◌, ◌/◌, ◌≤◌, min, List, ◌++◌, length, refl, arith, length-append}
use Rattle.std.specs.Prelude.{codes}
use Rattle.std.specs.Fmt.{decimal}
use Rattle.httpdate.specs.declared.parts.Parts.{Parts}
use Rattle.httpdate.specs.Text.{imf_fixdate, day_name, month_name, two_digits, four_digits, time_of_day}
use Rattle.http_pages.specs.declared.answer.Status.{Status}
use Rattle.http_pages.specs.declared.answer.Status.TheVariants.{Ok, PartialContent, MovedPermanently, NotModified, BadRequest, NotFound, MethodNotAllowed, PreconditionFailed, ContentTooLarge, UriTooLong, RangeNotSatisfiable, HeadTooLarge, NotImplemented, VersionNotSupported}
use Rattle.http_pages.specs.declared.answer.Answer.{Answer}
use Rattle.http_pages.specs.AnswerText.{answer_text, answer_head, answer_body, connection, content, escaped, field, fields_by, no_range, part_range, reason, sized}
use Rattle.http_pages.specs.Choosing.{nth_page}
use Rattle.http_pages.specs.Dates.{date_at, date_text}
use Rattle.http_pages.specs.Limits.{last_second}
use Rattle.http_pages.specs.Pages.{Page}

field-length : (name value : List ℕ) → length (field name value) ≡ length name + length value + 4
unfolding field
field-length name value =
    omega (arith, length-append name (codes ": " ++ (value ++ codes "\r\n")), length-append (codes ": ") (value ++ codes "\r\n"), length-append value (codes "\r\n"))

-- ten parts, as they stand in a date
parts-length : (a b c d e f g h i j : List ℕ) → length (a ++ b ++ c ++ d ++ e ++ f ++ g ++ h ++ i ++ j)
    ≡ length a + length b + length c + length d + length e + length f + length g + length h + length i + length j
parts-length a b c d e f g h i j = simp length-append refl

date-length : (p : Parts) → 23 ≤ length (imf_fixdate p)
date-length p =
    let sum : length (imf_fixdate p) ≡ length (day_name p.wday) + 2 + 2 + 1 + length (month_name p.mon) + 1 + 4 + 1 + 8 + 4 =
    parts-length (day_name p.wday) (codes ", ") (two_digits p.day) (codes " ") (month_name p.mon) (codes " ") (four_digits p.year) (codes " ") (time_of_day p) (codes " GMT") in
    omega (arith, sum)

date_text-length : (time : ℕ) → 23 ≤ length (date_text time)
date_text-length time = date-length (date_at (min (time / 1000000) last_second))

sized-length : (kind said : List ℕ) → 34 ≤ length (sized kind said)
unfolding sized
sized-length kind said =
    let first = field-length (codes "Content-Type") kind in
    let second = field-length (codes "Content-Length") (decimal (length said)) in
    omega (arith, length-append (field (codes "Content-Type") kind) (field (codes "Content-Length") (decimal (length said))), first, second)

behind : (front kind said : List ℕ) → 34 ≤ length (front ++ sized kind said)
behind front kind said = omega (arith, length-append front (sized kind said), sized-length kind said)

lengths : (s : Status) (page : Page) (a : Answer) (said : List ℕ) → 22 ≤ length (reason s) + length (fields_by s page a said)
lengths Ok page a said = omega (arith, behind (field (codes "ETag") page.tag) page.kind said)
lengths PartialContent page a said =
    omega (arith, length-append (field (codes "ETag") page.tag) (field (codes "Content-Range") (part_range (length page.body) a) ++ sized page.kind said), behind (field (codes "Content-Range") (part_range (length page.body) a)) page.kind said)
lengths NotModified page a said = omega (arith, field-length (codes "ETag") page.tag)
lengths MovedPermanently page a said = omega (arith, behind (field (codes "Location") (escaped page.path)) (codes "text/plain") said)
lengths MethodNotAllowed page a said = omega (arith, behind (field (codes "Allow") (codes "GET, HEAD")) (codes "text/plain") said)
lengths BadRequest page a said = omega (arith, sized-length (codes "text/plain") said)
lengths NotFound page a said = omega (arith, sized-length (codes "text/plain") said)
lengths PreconditionFailed page a said = omega (arith, sized-length (codes "text/plain") said)
lengths ContentTooLarge page a said = omega (arith, sized-length (codes "text/plain") said)
lengths UriTooLong page a said = omega (arith, sized-length (codes "text/plain") said)
lengths RangeNotSatisfiable page a said = omega (arith, behind (field (codes "Content-Range") (no_range (length page.body))) (codes "text/plain") said)
lengths HeadTooLarge page a said = omega (arith, sized-length (codes "text/plain") said)
lengths NotImplemented page a said = omega (arith, sized-length (codes "text/plain") said)
lengths VersionNotSupported page a said = omega (arith, sized-length (codes "text/plain") said)

in_all : (start status date fields last end body : List ℕ) → 9 ≤ length start → 31 ≤ length date → 22 ≤ length status + length fields → 2 ≤ length end
    → 64 ≤ length ((start ++ (status ++ (date ++ (fields ++ (last ++ end))))) ++ body)
in_all start status date fields last end body a b c d =
    omega (
      arith,
      a,
      b,
      c,
      d,
      length-append (start ++ (status ++ (date ++ (fields ++ (last ++ end))))) body,
      length-append start (status ++ (date ++ (fields ++ (last ++ end)))),
      length-append status (date ++ (fields ++ (last ++ end))),
      length-append date (fields ++ (last ++ end)),
      length-append fields (last ++ end),
      length-append last end,
    )

pub answer_text-length : (pages : List Page) (a : Answer) → 64 ≤ length (answer_text pages a)
unfolding answer_text answer_head
answer_text-length pages a =
    let date = field (codes "Date") (date_text a.at) in
    let fields = fields_by a.status (nth_page pages a.page) a (content pages a) in
    in_all (codes "HTTP/1.1 ") (reason a.status) date fields (connection a) (codes "\r\n") (answer_body pages a)
    (omega arith) (omega (arith, field-length (codes "Date") (date_text a.at), date_text-length a.at)) (lengths a.status (nth_page pages a.page) a (content pages a)) (omega arith)
