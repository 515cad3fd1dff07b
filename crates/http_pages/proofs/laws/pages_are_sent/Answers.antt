use Rattle.std.proofs.Common.{◌∙◌, ◌-◌, take, drop, ap, arith}
use Rattle.std.proofs.lemmas.List.{take_all}
use Rattle.http_pages.specs.AnswerText.{content, content_by}
use Rattle.http_pages.specs.Choosing.{nth_page}
use Rattle.http_pages.proofs.PartLemmas.{answer_to-sends}
use Rattle.http_pages.proofs.laws.pages_are_sent.Goals as goal

pub returns-clause-whole : goal.returns-clause-whole
unfolding content
returns-clause-whole c pages at bytes found e ok =
    let is = (answer_to-sends pages at bytes found e).whole ok in
    let body = (nth_page pages found.0.page).body in
    ap (λ s. content_by s (nth_page pages found.0.page) found.0) ok
    ∙ (ap (λ n. take (found.0.to - n) (drop n body)) is.0 ∙ take_all (found.0.to - 0) body (omega (arith, is.1)))

pub returns-clause-part : goal.returns-clause-part
returns-clause-part c pages at bytes found e part = (answer_to-sends pages at bytes found e).part part

pub returns-clause-named : goal.returns-clause-named
returns-clause-named c pages at bytes found e tells = (answer_to-sends pages at bytes found e).tells tells
