use Rattle.std.proofs.Common.{refl}
use Rattle.std.specs.Fmt.{digits}
use Rattle.httparse.specs.Grammar.{is_token_byte, trim_ows}
use Rattle.http1.specs.Fields.{elements, known_fields}
use Rattle.http1.specs.Text.{eq_ignore_case}
use Rattle.percent_encoding.specs.Percent.{percent_decode, percent_encode_byte}
use Rattle.http_pages.specs.AnswerText.{answer_text, answer_head, answer_body, content, escaped, field, sized}
use Rattle.http_pages.specs.Choosing.{answer, path_of}
use Rattle.http_pages.specs.Dates.{date_of, month_of, year_of}
use Rattle.http_pages.specs.Heads.{behind_head, from_request_line, lines, without_cr}
use Rattle.http_pages.specs.Pages.{page_at}
use Rattle.http_pages.specs.Reading.{answer_to}
use Rattle.http_pages.specs.Requests.{list_elements, values_of}
use Rattle.http_pages.proofs.worked.others_are_told.Goals as goal

pub returns-clause-waits : goal.returns-clause-waits
unfolding digits answer_to answer lines without_cr from_request_line behind_head list_elements values_of path_of page_at answer_text answer_head answer_body field sized content escaped date_of year_of month_of known_fields elements eq_ignore_case is_token_byte trim_ows percent_decode percent_encode_byte
returns-clause-waits c = refl

pub returns-clause-nowhere : goal.returns-clause-nowhere
unfolding digits answer_to answer lines without_cr from_request_line behind_head list_elements values_of path_of page_at answer_text answer_head answer_body field sized content escaped date_of year_of month_of known_fields elements eq_ignore_case is_token_byte trim_ows percent_decode percent_encode_byte
returns-clause-nowhere c = refl

pub returns-clause-folder : goal.returns-clause-folder
unfolding digits answer_to answer lines without_cr from_request_line behind_head list_elements values_of path_of page_at answer_text answer_head answer_body field sized content escaped date_of year_of month_of known_fields elements eq_ignore_case is_token_byte trim_ows percent_decode percent_encode_byte
returns-clause-folder c = refl

pub returns-clause-had : goal.returns-clause-had
unfolding digits answer_to answer lines without_cr from_request_line behind_head list_elements values_of path_of page_at answer_text answer_head answer_body field sized content escaped date_of year_of month_of known_fields elements eq_ignore_case is_token_byte trim_ows percent_decode percent_encode_byte
returns-clause-had c = refl

pub returns-clause-method : goal.returns-clause-method
unfolding digits answer_to answer lines without_cr from_request_line behind_head list_elements values_of path_of page_at answer_text answer_head answer_body field sized content escaped date_of year_of month_of known_fields elements eq_ignore_case is_token_byte trim_ows percent_decode percent_encode_byte
returns-clause-method c = refl

pub returns-clause-no_host : goal.returns-clause-no_host
unfolding digits answer_to answer lines without_cr from_request_line behind_head list_elements values_of path_of page_at answer_text answer_head answer_body field sized content escaped date_of year_of month_of known_fields elements eq_ignore_case is_token_byte trim_ows percent_decode percent_encode_byte
returns-clause-no_host c = refl
