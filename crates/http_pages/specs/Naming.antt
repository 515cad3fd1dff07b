-- What an answer's status says of the page that the request's target names.
use Rattle.std.specs.Prelude.{◌≡◌, ◌≢◌, ℕ, ◌<◌, Bool, true, false, List, [], ◌∷◌, ◌++◌, length, Some}
use Rattle.percent_encoding.specs.Percent.{percent_decode}
use Rattle.http_pages.specs.declared.answer.Answer.{Answer}
use Rattle.http_pages.specs.declared.answer.Status.{Status}
use Rattle.http_pages.specs.declared.answer.Status.TheVariants as s
use Rattle.http_pages.specs.Choosing.{nth_page, path_of}
use Rattle.http_pages.specs.Heads.{lines}
use Rattle.http_pages.specs.Pages.{Page}
use Rattle.http_pages.specs.Requests.{target_of}

-- a status that tells of a page, or that there is none: 200, 206, 301, 304, 404, 412 and 416
abbrev pub tells_of_page : Status → Bool
tells_of_page s.Ok = true
tells_of_page s.PartialContent = true
tells_of_page s.MovedPermanently = true
tells_of_page s.NotModified = true
tells_of_page s.BadRequest = false
tells_of_page s.NotFound = true
tells_of_page s.MethodNotAllowed = false
tells_of_page s.PreconditionFailed = true
tells_of_page s.ContentTooLarge = false
tells_of_page s.UriTooLong = false
tells_of_page s.RangeNotSatisfiable = true
tells_of_page s.HeadTooLarge = false
tells_of_page s.NotImplemented = false
tells_of_page s.VersionNotSupported = false

-- it is a page, and lies there
abbrev pub LiesAt : List Page → List ℕ → ℕ → Type 0
LiesAt pages path n = (n < length pages) × ((nth_page pages n).path ≡ path)

abbrev pub NoneLiesAt : List Page → List ℕ → Type 0
NoneLiesAt pages path = (k : ℕ) → k < length pages → (nth_page pages k).path ≢ path

-- by 301 it is the index of a folder whose name lacks the slash behind it, by 404 there is neither, and by the others it lies there itself
abbrev pub Tells : List Page → List ℕ → Status → ℕ → Type 0
Tells pages path s.MovedPermanently n = NoneLiesAt pages path × LiesAt pages (path ++ 47 ∷ []) n
Tells pages path s.NotFound n = NoneLiesAt pages path × NoneLiesAt pages (path ++ 47 ∷ [])
Tells pages path s.Ok n = LiesAt pages path n
Tells pages path s.PartialContent n = LiesAt pages path n
Tells pages path s.NotModified n = LiesAt pages path n
Tells pages path s.PreconditionFailed n = LiesAt pages path n
Tells pages path s.RangeNotSatisfiable n = LiesAt pages path n
Tells pages path s.BadRequest n = Unit {0}
Tells pages path s.MethodNotAllowed n = Unit {0}
Tells pages path s.ContentTooLarge n = Unit {0}
Tells pages path s.UriTooLong n = Unit {0}
Tells pages path s.HeadTooLarge n = Unit {0}
Tells pages path s.NotImplemented n = Unit {0}
Tells pages path s.VersionNotSupported n = Unit {0}

-- the target of this head names a path, without its escapes (RFC 3986, 2.1), and the answer tells of the page there
pub record TellsOfTarget (pages : List Page) (head : List ℕ) (a : Answer) : Type 0 where
  pub line : List ℕ
  pub fields : List (List ℕ)
  pub escaped : List ℕ
  pub cut : lines head ≡ line ∷ fields
  pub target : path_of (target_of line) ≡ Some escaped
  pub tells : Tells pages (percent_decode escaped) a.status a.page
