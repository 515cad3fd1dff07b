use Rattle.std.proofs.Common.{List, ◌++◌, sym, subst}
use Rattle.perimeter_core.specs.declared.entries.Feed.{Feed}
use Rattle.squeue_enter.specs.Entering.{MayEnter}
use Rattle.squeue_tests.specs.Rows.{in_order}
use Rattle.squeue_tests.proofs.worked.polling.enters_fifteen.Goals as goal

pub returns-clause-more : goal.returns-clause-more
returns-clause-more g c =
    c.enters.ensures.more (in_order 0 15 5)
    (subst (λ (fs : List Feed). MayEnter g.R.Resident.limits c.args.squeue.now c.args.pass (fs ++ in_order 0 15 5)) (sym c.fifteen-chain.ensures) c.requires.may)
