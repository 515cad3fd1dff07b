use Rattle.std.proofs.Common.{◌≡◌, ◌+◌, ◌++◌, None, Some, codes, subst}
use Rattle.std.proofs.lemmas.Bool.Decides.{Decides-eqb}
use Rattle.std.proofs.lemmas.Slice.Eq.{strip_prefix_is}
use Rattle.trace_replay.specs.Reasons.{DifferAt}
use Rattle.trace_replay.proofs.TextLines.{differ_first, differ_later}
use Rattle.trace_replay.proofs.comparing.first_wrong.Goals as goal
use Rattle.trace_replay.proofs.comparing.first_wrong.Goals.{else-same-found-via-then-same-found+else-same-right, else-same-found-via-else-same-found}

pub returns-in_default : goal.returns-in_default
returns-in_default c middle e = differ_first c.args.found.now middle (strip_prefix_is Decides-eqb c.args.found.now (codes "report 2\n") None c.in_default.ensures.cases)

pub returns-else-same-found : goal.returns-else-same-found
returns-else-same-found c middle e =
    let right : c.body-right.result.now ≡ middle = c.body-right.ensures middle e in
    let found : c.args.found.now ≡ codes "report 2\n" ++ c.in-Some.found.now = strip_prefix_is Decides-eqb c.args.found.now (codes "report 2\n") (Some c.in-Some.found) c.in-Some.ensures.cases in
    subst (λ m. DifferAt (c.lines_in.result + 2) c.args.found.now (codes "report 2\n" ++ m)) right
    (differ_later c.args.found.now c.in-Some.found.now c.body-right.result.now c.front_shared-same.result c.lines_in.result found c.lines_in.ensures.count c.front_shared-same.ensures.same
    c.front_shared-same.ensures.within.0 c.front_shared-same.ensures.within.1 c.front_shared-same.ensures.longest
    (λ f m. elim c.else-same-found.branch [ else-same-found-via-then-same-found+else-same-right w ↦ w.if-same-right.false m | else-same-found-via-else-same-found w ↦ w.if-same-found.false f ]))
