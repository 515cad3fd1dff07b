use Rattle.std.proofs.Common.{OnErr, subst}
use Rattle.live_server.specs.Isolation.{LosesOne}
use Rattle.live_server.specs.Serving.{ServerOf}
use Rattle.live_server.specs.contracts.server.Server.{the_view}
use Rattle.live_server.proofs.ArriveLemmas.{loses_one}
use Rattle.live_server.proofs.server.Server.tick.Goals as goal

pub returns-clause-lost : goal.returns-clause-lost
returns-clause-lost c =
    let after : ServerOf = the_view (record { rules = c.tick.new.self }) in
    subst (λ (sv : ServerOf). OnErr c.tick.result (LosesOne c.args.now sv after)) c.self.view_is
    (loses_one c.tick.result c.args.now (the_view c.self.inside) after c.tick.ensures.lost c.tick.ensures.rest)
