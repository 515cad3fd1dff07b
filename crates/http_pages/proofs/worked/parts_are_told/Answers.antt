use Rattle.std.proofs.Common.{refl}
use Rattle.std.specs.Fmt.{digits}
use Rattle.httparse.specs.Grammar.{is_token_byte, trim_ows}
use Rattle.http1.specs.Fields.{elements, known_fields}
use Rattle.http1.specs.Text.{eq_ignore_case}
use Rattle.percent_encoding.specs.Percent.{percent_decode, percent_encode_byte}
use Rattle.http_pages.specs.AnswerText.{answer_text, answer_head, answer_body, content, escaped, field, sized}
use Rattle.http_pages.specs.Choosing.{answer, path_of}
use Rattle.http_pages.specs.Dates.{date_of, month_of, year_of}
use Rattle.http_pages.specs.Heads.{behind_head, from_request_line, lines, without_cr}
use Rattle.http_pages.specs.Pages.{page_at}
use Rattle.http_pages.specs.Reading.{answer_to}
use Rattle.http_pages.specs.Requests.{list_elements, values_of}
use Rattle.http_pages.proofs.worked.parts_are_told.Goals as goal

pub returns-clause-part : goal.returns-clause-part
unfolding digits answer_to answer lines without_cr from_request_line behind_head list_elements values_of path_of page_at answer_text answer_head answer_body field sized content escaped date_of year_of month_of known_fields elements eq_ignore_case is_token_byte trim_ows percent_decode percent_encode_byte
returns-clause-part c = refl

pub returns-clause-end : goal.returns-clause-end
unfolding digits answer_to answer lines without_cr from_request_line behind_head list_elements values_of path_of page_at answer_text answer_head answer_body field sized content escaped date_of year_of month_of known_fields elements eq_ignore_case is_token_byte trim_ows percent_decode percent_encode_byte
returns-clause-end c = refl

pub returns-clause-behind : goal.returns-clause-behind
unfolding digits answer_to answer lines without_cr from_request_line behind_head list_elements values_of path_of page_at answer_text answer_head answer_body field sized content escaped date_of year_of month_of known_fields elements eq_ignore_case is_token_byte trim_ows percent_decode percent_encode_byte
returns-clause-behind c = refl

pub returns-clause-other : goal.returns-clause-other
unfolding digits answer_to answer lines without_cr from_request_line behind_head list_elements values_of path_of page_at answer_text answer_head answer_body field sized content escaped date_of year_of month_of known_fields elements eq_ignore_case is_token_byte trim_ows percent_decode percent_encode_byte
returns-clause-other c = refl
