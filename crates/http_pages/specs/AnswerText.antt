-- The bytes of an answer (RFC 9112, 4 to 6).
use Rattle.std.specs.Prelude.{ℕ, ◌-◌, ◌==◌, Bool, ◌||◌, if◌then◌else◌, List, [], ◌∷◌, ◌++◌, length, take, drop, codes}
use Rattle.std.specs.List.{flat_map, list_any}
use Rattle.std.specs.Char.{is_ascii_alphanumeric}
use Rattle.std.specs.Fmt.{decimal}
use Rattle.percent_encoding.specs.Percent.{percent_encode_byte}
use Rattle.http_pages.specs.declared.answer.Status.{Status}
use Rattle.http_pages.specs.declared.answer.Status.TheVariants.{Ok, PartialContent, MovedPermanently, NotModified, BadRequest, NotFound, MethodNotAllowed, PreconditionFailed, ContentTooLarge, UriTooLong, RangeNotSatisfiable, HeadTooLarge, NotImplemented, VersionNotSupported}
use Rattle.http_pages.specs.declared.answer.Answer.{Answer}
use Rattle.http_pages.specs.Pages.{Page}
use Rattle.http_pages.specs.Choosing.{nth_page}
use Rattle.http_pages.specs.Dates.{date_text}

-- the code and the phrase, on a line (RFC 9110, 15; RFC 6585, 5)
abbrev pub reason : Status → List ℕ
reason Ok = codes "200 OK\r\n"
reason PartialContent = codes "206 Partial Content\r\n"
reason MovedPermanently = codes "301 Moved Permanently\r\n"
reason NotModified = codes "304 Not Modified\r\n"
reason BadRequest = codes "400 Bad Request\r\n"
reason NotFound = codes "404 Not Found\r\n"
reason MethodNotAllowed = codes "405 Method Not Allowed\r\n"
reason PreconditionFailed = codes "412 Precondition Failed\r\n"
reason ContentTooLarge = codes "413 Content Too Large\r\n"
reason UriTooLong = codes "414 URI Too Long\r\n"
reason RangeNotSatisfiable = codes "416 Range Not Satisfiable\r\n"
reason HeadTooLarge = codes "431 Request Header Fields Too Large\r\n"
reason NotImplemented = codes "501 Not Implemented\r\n"
reason VersionNotSupported = codes "505 HTTP Version Not Supported\r\n"

unfoldable pub field : List ℕ → List ℕ → List ℕ
field name value = name ++ (codes ": " ++ (value ++ codes "\r\n"))

-- a byte of a path that needs no escape (RFC 3986, 3.3), and the path in a URI
abbrev pub is_path_byte : ℕ → Bool
is_path_byte b = is_ascii_alphanumeric b || list_any (λ c. c == b) (codes "/-._~!$&'()*+,;=:@")

abbrev pub escaped_byte : ℕ → List ℕ
escaped_byte b = if is_path_byte b then b ∷ [] else percent_encode_byte b

unfoldable pub escaped : List ℕ → List ℕ
escaped path = flat_map escaped_byte path

-- the part of a page's body that is sent
abbrev pub part_of : List ℕ → Answer → List ℕ
part_of body a = take (a.to - a.from) (drop a.from body)

-- what the answer says to GET: a page or a part of it, nothing beside a 304 (RFC 9110, 15.4.5), and otherwise its status in words
abbrev pub content_by : Status → Page → Answer → List ℕ
content_by Ok page a = part_of page.body a
content_by PartialContent page a = part_of page.body a
content_by NotModified page a = []
content_by MovedPermanently page a = reason MovedPermanently
content_by BadRequest page a = reason BadRequest
content_by NotFound page a = reason NotFound
content_by MethodNotAllowed page a = reason MethodNotAllowed
content_by PreconditionFailed page a = reason PreconditionFailed
content_by ContentTooLarge page a = reason ContentTooLarge
content_by UriTooLong page a = reason UriTooLong
content_by RangeNotSatisfiable page a = reason RangeNotSatisfiable
content_by HeadTooLarge page a = reason HeadTooLarge
content_by NotImplemented page a = reason NotImplemented
content_by VersionNotSupported page a = reason VersionNotSupported

unfoldable pub content : List Page → Answer → List ℕ
content pages a = content_by a.status (nth_page pages a.page) a

-- the length of what GET would be told (8.6), and its type
unfoldable pub sized : List ℕ → List ℕ → List ℕ
sized kind said = field (codes "Content-Type") kind ++ field (codes "Content-Length") (decimal (length said))

abbrev pub in_words : List ℕ → List ℕ
in_words said = sized (codes "text/plain") said

-- which bytes of how many are sent, or of how many none are (14.4)
abbrev pub part_range : ℕ → Answer → List ℕ
part_range size a = codes "bytes " ++ (decimal a.from ++ (codes "-" ++ (decimal (a.to - 1) ++ (codes "/" ++ decimal size))))

abbrev pub no_range : ℕ → List ℕ
no_range size = codes "bytes */" ++ decimal size

-- the fields that belong to a status: the tag of what is sent or had (8.8.3, 15.4.5), which part is sent (14.4, 15.3.7, 15.5.17), where a
-- folder is (10.2.2), and which methods there are (10.2.1, 15.5.6)
abbrev pub fields_by : Status → Page → Answer → List ℕ → List ℕ
fields_by Ok page a said = field (codes "ETag") page.tag ++ sized page.kind said
fields_by PartialContent page a said =
    field (codes "ETag") page.tag ++ (field (codes "Content-Range") (part_range (length page.body) a) ++ sized page.kind said)
fields_by NotModified page a said = field (codes "ETag") page.tag
fields_by MovedPermanently page a said = field (codes "Location") (escaped page.path) ++ in_words said
fields_by MethodNotAllowed page a said = field (codes "Allow") (codes "GET, HEAD") ++ in_words said
fields_by BadRequest page a said = in_words said
fields_by NotFound page a said = in_words said
fields_by PreconditionFailed page a said = in_words said
fields_by ContentTooLarge page a said = in_words said
fields_by UriTooLong page a said = in_words said
fields_by RangeNotSatisfiable page a said = field (codes "Content-Range") (no_range (length page.body)) ++ in_words said
fields_by HeadTooLarge page a said = in_words said
fields_by NotImplemented page a said = in_words said
fields_by VersionNotSupported page a said = in_words said

-- whether the connection stays (RFC 9112, 9.3 and 9.6), where a client couldn't know
abbrev pub connection : Answer → List ℕ
connection a =
    if a.keeps then (if a.old then field (codes "Connection") (codes "keep-alive") else [])
    else field (codes "Connection") (codes "close")

-- status line, fields, empty line
unfoldable pub answer_head : List Page → Answer → List ℕ
answer_head pages a =
    codes "HTTP/1.1 " ++ (reason a.status ++ (field (codes "Date") (date_text a.at)
    ++ (fields_by a.status (nth_page pages a.page) a (content pages a) ++ (connection a ++ codes "\r\n"))))

-- nothing to HEAD (RFC 9110, 9.3.2)
unfoldable pub answer_body : List Page → Answer → List ℕ
answer_body pages a = if a.only_head then [] else content pages a

unfoldable pub answer_text : List Page → Answer → List ℕ
answer_text pages a = answer_head pages a ++ answer_body pages a
