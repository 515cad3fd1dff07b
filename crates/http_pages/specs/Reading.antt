-- The answer to the request at the front of what came.
use Rattle.std.specs.Prelude.{ℕ, ◌+◌, ◌-◌, nat_le, false, if◌then◌else◌, List, length, take, Option, None, Some}
use Rattle.std.specs.List.{list_any}
use Rattle.http_pages.specs.declared.answer.Status.TheVariants.{BadRequest, UriTooLong, HeadTooLarge}
use Rattle.http_pages.specs.declared.answer.Answer.{Answer}
use Rattle.http_pages.specs.Limits.{most_head}
use Rattle.http_pages.specs.Heads.{head_length, from_request_line, begins_badly, is_line_feed}
use Rattle.http_pages.specs.Pages.{Page}
use Rattle.http_pages.specs.Choosing.{answer, refused}

-- so many bytes hold no whole head: the request line is too long (RFC 9112, 3), or the fields are (RFC 6585, 5)
abbrev pub too_long : ℕ → List ℕ → Answer
too_long at front = refused (if list_any is_line_feed (from_request_line front) then HeadTooLarge else UriTooLong) false at

abbrev pub by_length : List Page → ℕ → List ℕ → Option ℕ → Option (Answer × ℕ)
by_length pages at front (Some n) = Some (answer pages at (take n front), n)
by_length pages at front None = if nat_le most_head (length front) then Some (too_long at front, most_head) else None

-- the answer to the request at the front of so many bytes, and how many it takes; none where its head isn't whole yet
abbrev pub by_front : List Page → ℕ → List ℕ → Option (Answer × ℕ)
by_front pages at front =
    if begins_badly (from_request_line front)
    then Some (refused BadRequest false at, length front - length (from_request_line front) + 1)
    else by_length pages at front (head_length front)

-- a head is judged once it is whole, and has at most 8,192 bytes; what can't be one is refused at once
unfoldable pub answer_to : List Page → ℕ → List ℕ → Option (Answer × ℕ)
answer_to pages at bytes = by_front pages at (take most_head bytes)
