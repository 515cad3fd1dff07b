-- Exchanges written out: what comes, and what goes back. The time is that of the example of RFC 9110, 5.6.7.
use Rattle.std.specs.Prelude.{◌≡◌, ℕ, List, [], ◌∷◌, codes, length, Option, Some, option_map}
use Rattle.http_pages.specs.AnswerText.{answer_text}
use Rattle.http_pages.specs.Pages.{Page}
use Rattle.http_pages.specs.Reading.{answer_to}

-- an index, and a page in a folder whose name has a space
abbrev pub site : List Page
site =
    record { path = codes "/"; kind = codes "text/html"; tag = codes "\"i1\""; body = codes "<p>Hello" }
    ∷ record { path = codes "/my docs/"; kind = codes "text/plain"; tag = codes "\"d1\""; body = codes "docs" } ∷ []

abbrev pub time : ℕ
time = 784111777000000

-- the bytes of the answer, and how many bytes the request takes
abbrev pub exchange : List ℕ → Option (List ℕ × ℕ)
exchange asked = option_map (λ found. (answer_text site found.0, found.1)) (answer_to site time asked)

-- all that is asked is taken, and answered so
abbrev pub IsAnswered : List ℕ → List ℕ → Type 0
IsAnswered asked told = exchange asked ≡ Some (told, length asked)

abbrev pub date : List ℕ
date = codes "Date: Sun, 06 Nov 1994 08:49:37 GMT\r\n"
