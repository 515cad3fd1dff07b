use Rattle.std.proofs.Common.{sym, subst}
use Rattle.ring_groups.specs.Groups.{AllBecameFrom, before_in}
use Rattle.ring_groups.proofs.Grouped.{became_from}
use Rattle.squeue_arrivals.specs.Arriving.{IsServedIn}
use Rattle.squeue_arrivals.specs.Watching.{ServedWith}
use Rattle.squeue_arrivals.proofs.arriving.served.Goals as goal

pub returns-in-Ok : goal.returns-in-Ok
returns-in-Ok g c =
    let P = ServedWith g.X.KeySteps.begins g.X.KeySteps.step g.A.Arrivals.origin g.A.Arrivals.given g.A.Arrivals.is_over c.args.steps c.args.pool.now.places (g.V.Watches.says c.args.watcher.now) (g.V.Watches.many c.args.watcher.now) c.args.watched c.in-Ok.end in
    subst (λ b. AllBecameFrom P 0 (before_in b) c.in-Ok.ended.items) (sym c.in-Before.is)
    (became_from (IsServedIn g.X.KeySteps.begins g.X.KeySteps.step g.A.Arrivals.origin g.A.Arrivals.given g.A.Arrivals.is_over c.args.steps c.args.pool.now.places c.in-Ok.end.end) P
    (λ k e d h. (h, c.in-Ok.ensures.watched)) 0 _ _ c.in-Ok.ensures.served)
