use Rattle.std.proofs.Common.{sym, ◌∙◌}
use Rattle.http_pages.proofs.Pieces.{first_at, nowhere, slash_found, slash_missed}
use Rattle.http_pages.proofs.choosing.from_slash.Goals as goal

pub returns-in-Some : goal.returns-in-Some
returns-in-Some c =
    let rest = c.args.rest.now in
    let first = first_at rest 47 c.in-Some.n c.in-Some.ensures.0 c.in-Some.ensures.1 c.in-Some.ensures.2 in
    c.split_at.ensures.back ∙ sym (slash_found rest c.in-Some.n first c.in-Some.ensures.0)

pub returns-in-None : goal.returns-in-None
returns-in-None c = sym (slash_missed c.args.rest.now (nowhere c.args.rest.now 47 c.in-None.ensures))
