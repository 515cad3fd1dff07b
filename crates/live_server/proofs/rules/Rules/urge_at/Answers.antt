use Rattle.std.proofs.Common.{refl}
use Rattle.segment_codec.specs.Refusal.{tuple_of}
use Rattle.live_server.specs.Serving.{ServerOf, server_of}
use Rattle.live_server.proofs.LawLemmas.{lost_at}
use Rattle.live_server.proofs.LossLemmas.{on_err}
use Rattle.live_server.proofs.rules.Rules.urge_at.Goals as goal

pub returns-in_err-met-clause-lost : goal.returns-in_err-met-clause-lost
returns-in_err-met-clause-lost g c =
    let before : ServerOf = server_of g.T.ConnTable.conns c.args.self.now in
    on_err c.from_residual.result _ (lost_at (tuple_of c.args.seg.now) before before refl c.args.place c.requires.place _ c.in_err-met.ensures.lost)
