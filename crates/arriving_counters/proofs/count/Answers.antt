use Rattle.std.proofs.lemmas.Result.{IfOk-weaker}
use Rattle.arriving_counters.proofs.Sums.{all_counted}
use Rattle.arriving_counters.proofs.count.Goals as goal

pub returns : goal.returns
returns g c =
    IfOk-weaker c.serve_arriving.result _ _
    (λ r h. all_counted g.A.Arrivals.origin g.A.Arrivals.given g.A.Arrivals.is_over _ c.args.pool.now.places c.args.sources.items r.sources.items h) c.serve_arriving.ensures.served
