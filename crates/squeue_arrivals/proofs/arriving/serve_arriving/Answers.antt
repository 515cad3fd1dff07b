use Rattle.std.proofs.Common.{◌∙◌, sym, subst, ap, arith, length}
use Rattle.std.proofs.lemmas.List.{length-map}
use Rattle.ring_groups.specs.Groups.{AllOfGroups}
use Rattle.ring_groups.proofs.Grouped.{groups_map, groups_so, of_groups}
use Rattle.squeue_arrivals.specs.Arriving.{IsServed, IsServedIn}
use Rattle.squeue_arrivals.proofs.arriving.serve_arriving.Goals as goal

pub ends_of-squeues-requires : goal.ends_of-squeues-requires
ends_of-squeues-requires g c = (c.in_ok-room.ensures.items, omega (arith, c.in_ok-sources.ensures.many, c.in_ok-room.ensures.exact, c.len.ensures, c.args.sources.ok.0))

pub returns-clause-served : goal.returns-clause-served
returns-clause-served g c = of_groups _ (IsServed g.X.KeySteps.begins g.X.KeySteps.step g.A.Arrivals.origin g.A.Arrivals.given g.A.Arrivals.is_over c.args.steps c.args.pool.now.places) (λ z k e d h. h.0.by.served) _ _ _ c.in_ok-sources.ensures.groups

pub returns-clause-histories : goal.returns-clause-histories
returns-clause-histories g c =
    subst (λ zs. AllOfGroups (IsServedIn g.X.KeySteps.begins g.X.KeySteps.step g.A.Arrivals.origin g.A.Arrivals.given g.A.Arrivals.is_over c.args.steps c.args.pool.now.places) zs c.args.sources.items c.in_ok-sources.sources.items) (sym c.ends_of-squeues.ensures)
    (groups_map (IsServedIn g.X.KeySteps.begins g.X.KeySteps.step g.A.Arrivals.origin g.A.Arrivals.given g.A.Arrivals.is_over c.args.steps c.args.pool.now.places) (λ e. e.end) _ _ _
    (groups_so _ (λ e. IsServedIn g.X.KeySteps.begins g.X.KeySteps.step g.A.Arrivals.origin g.A.Arrivals.given g.A.Arrivals.is_over c.args.steps c.args.pool.now.places e.end) (λ z k e d h. h.0) _ _ _ c.in_ok-sources.ensures.groups))

pub returns-clause-squeues : goal.returns-clause-squeues
returns-clause-squeues g c = ap length c.ends_of-squeues.ensures ∙ (length-map _ _ ∙ c.in_ok-sources.ensures.many)
