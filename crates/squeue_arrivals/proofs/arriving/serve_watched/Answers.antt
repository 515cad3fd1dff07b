use Rattle.ring_groups.proofs.Grouped.{groups_so, of_each, of_groups}
use Rattle.squeue_arrivals.specs.Arriving.{IsServed, IsServedIn}
use Rattle.squeue_arrivals.specs.Watching.{SawLast}
use Rattle.squeue_arrivals.proofs.arriving.serve_watched.Goals as goal

pub returns-clause-served : goal.returns-clause-served
returns-clause-served g c = of_groups _ (IsServed g.X.KeySteps.begins g.X.KeySteps.step g.A.Arrivals.origin g.A.Arrivals.given g.A.Arrivals.is_over c.args.steps c.args.pool.now.places) (λ z k e d h. h.0.by.served) _ _ _ c.in_ok-sources.ensures.groups

pub returns-clause-histories : goal.returns-clause-histories
returns-clause-histories g c = groups_so _ (λ e. IsServedIn g.X.KeySteps.begins g.X.KeySteps.step g.A.Arrivals.origin g.A.Arrivals.given g.A.Arrivals.is_over c.args.steps c.args.pool.now.places e.end) (λ z k e d h. h.0) _ _ _ c.in_ok-sources.ensures.groups

pub returns-clause-seen : goal.returns-clause-seen
returns-clause-seen g c =
    of_each _ (λ e. SawLast g.X.KeySteps.begins g.X.KeySteps.step c.args.steps (g.V.Watches.says c.args.watcher.now) e.end.setting e.end.setting.rings (g.V.Watches.many c.args.watcher.now) e.end.history e.last)
    (λ z k e d h. h.1) _ _ _ c.in_ok-sources.ensures.groups
