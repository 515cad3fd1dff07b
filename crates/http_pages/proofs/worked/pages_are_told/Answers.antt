use Rattle.std.proofs.Common.{refl}
use Rattle.std.specs.Fmt.{digits}
use Rattle.httparse.specs.Grammar.{is_token_byte, trim_ows}
use Rattle.http1.specs.Fields.{elements, known_fields}
use Rattle.http1.specs.Text.{eq_ignore_case}
use Rattle.percent_encoding.specs.Percent.{percent_decode, percent_encode_byte}
use Rattle.http_pages.specs.AnswerText.{answer_text, answer_head, answer_body, content, escaped, field, sized}
use Rattle.http_pages.specs.Choosing.{answer, path_of}
use Rattle.http_pages.specs.Dates.{date_of, month_of, year_of}
use Rattle.http_pages.specs.Heads.{behind_head, from_request_line, lines, without_cr}
use Rattle.http_pages.specs.Pages.{page_at}
use Rattle.http_pages.specs.Reading.{answer_to}
use Rattle.http_pages.specs.Requests.{list_elements, values_of}
use Rattle.http_pages.proofs.worked.pages_are_told.Goals as goal

pub returns-clause-get : goal.returns-clause-get
unfolding digits answer_to answer lines without_cr from_request_line behind_head list_elements values_of path_of page_at answer_text answer_head answer_body field sized content escaped date_of year_of month_of known_fields elements eq_ignore_case is_token_byte trim_ows percent_decode percent_encode_byte
returns-clause-get c = refl

pub returns-clause-head : goal.returns-clause-head
unfolding digits answer_to answer lines without_cr from_request_line behind_head list_elements values_of path_of page_at answer_text answer_head answer_body field sized content escaped date_of year_of month_of known_fields elements eq_ignore_case is_token_byte trim_ows percent_decode percent_encode_byte
returns-clause-head c = refl

pub returns-clause-escaped : goal.returns-clause-escaped
unfolding digits answer_to answer lines without_cr from_request_line behind_head list_elements values_of path_of page_at answer_text answer_head answer_body field sized content escaped date_of year_of month_of known_fields elements eq_ignore_case is_token_byte trim_ows percent_decode percent_encode_byte
returns-clause-escaped c = refl
