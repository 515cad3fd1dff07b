use Rattle.std.proofs.Common.{◌+◌, ◌-◌, ◌∷◌, List, ap, sym, ◌∙◌, subst, arith}
use Rattle.perimeter_core.specs.declared.entries.Feed.{Feed}
use Rattle.squeue_enter.specs.Entering.{MayEnter}
use Rattle.squeue_tests.specs.Rows.{in_order}
use Rattle.squeue_tests.proofs.Ordered.{first_of}
use Rattle.squeue_tests.proofs.worked.polling.enters_next.Goals as goal

pub returns-clause-more : goal.returns-clause-more
returns-clause-more g c =
    let n = c.args.n in
    let rest = in_order 0 (n + 1) (19 - n) in
    c.enters.ensures.more rest
    (subst (λ (fs : List Feed). MayEnter g.R.Resident.limits c.args.squeue.now c.args.pass fs)
    (first_of 0 n (20 - n) (19 - n) (omega (arith, c.requires.below)) ∙ ap (λ (f : Feed). f ∷ rest) (sym c.feed.ensures)) c.requires.may)
