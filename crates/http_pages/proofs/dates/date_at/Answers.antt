use Rattle.std.proofs.Common.{◌≤◌, ◌∙◌, ap, arith}
use Rattle.httpdate.specs.Text.{imf_fixdate}
use Rattle.http_pages.specs.Dates.{date_at}
use Rattle.http_pages.specs.Limits.{last_second}
use Rattle.http_pages.proofs.DateLemmas.{date_is}
use Rattle.http_pages.proofs.dates.date_at.Goals as goal

pub returns : goal.returns
returns c =
    let early : c.min.result ≤ last_second = omega (arith, c.min.ensures) in
    c.to_bytes.ensures ∙ date_is c.in-Ok.date c.min.result early c.in-Ok.ensures.value ∙ ap (λ s. imf_fixdate (date_at s)) c.min.ensures
