-- The pages of a site, as a protocol: HTTP/1.1 (RFC 9110, RFC 9112).
use Rattle.std.specs.Prelude.{List, take}
use Rattle.http_pages.specs.AnswerText.{answer_text}
use Rattle.http_pages.specs.Pages.{Page}
use Rattle.http_pages.specs.Reading.{answer_to}
use Rattle.http_pages.specs.declared.answer.Answer.{Answer}
use Rattle.http_pages.proofs.AloneLemmas.{answer_to-alone}
use Rattle.http_pages.proofs.Standing.{answer_to-append, answer_to-count}
use Rattle.http_pages.proofs.TextLemmas.{answer_text-length}
use Rattle.page_service.specs.Protocol.{Protocol, IsProtocol}

abbrev pub site : List Page → Protocol Answer
site pages = record { answers = answer_to pages; text = answer_text pages; keeps = λ a. a.keeps }

pub site-sound : (pages : List Page) → IsProtocol (site pages)
site-sound pages = record {
  counted = λ at bytes found e. (answer_to-count pages at bytes found e).1;
  alone = λ at bytes more found e. answer_to-append pages at (take found.1 bytes) more found (answer_to-alone pages at bytes found e);
  long = answer_text-length pages;
}
