use Rattle.std.proofs.Common.{◌++◌, ap, arith, length, refl, subst, sym}
use Rattle.segment_codec.specs.Refusal.{tuple_of}
use Rattle.live_server.specs.Isolation.{KeepsRest, Loses}
use Rattle.live_server.specs.Serving.{Outcome, ServerOf, on_segment, on_urgent, server_of, urges_own}
use Rattle.live_server.specs.Told.{told_segment, told_urgent, told_urging}
use Rattle.live_server.specs.Written.{HasSent}
use Rattle.live_server.proofs.ArriveLemmas.{map_ok, rest_behind}
use Rattle.live_server.proofs.LossLemmas.{map_err, on_err}
use Rattle.live_server.proofs.UrgentLemmas.{lost_urged, urged_rest}
use Rattle.live_server.proofs.WrittenLemmas.{all_sent, sent_behind, sent_of_front}
use Rattle.live_server.proofs.rules.Rules.urgent.Goals as goal

pub returns-in_err-urge-clause-wrote : goal.returns-in_err-urge-clause-wrote
unfolding on_urgent
returns-in_err-urge-clause-wrote g c =
    let sv : ServerOf = server_of g.T.ConnTable.conns c.args.self.now in
    let first : Outcome = urges_own c.args.now c.args.pointer c.args.seg.now sv in
    let rest = (on_segment c.args.now c.args.seg.now c.args.text.now first.server).sent in
    on_err c.from_residual.result _ (sent_of_front c.args.out.now.items c.urge.new.out.items (first.sent ++ rest) first.sent rest refl c.in_err-urge.ensures.wrote)

pub returns-clause-wrote : goal.returns-clause-wrote
unfolding on_urgent
returns-clause-wrote g c =
    let sv : ServerOf = server_of g.T.ConnTable.conns c.args.self.now in
    let first : Outcome = urges_own c.args.now c.args.pointer c.args.seg.now sv in
    let mid : ServerOf = server_of g.T.ConnTable.conns c.urge.new.self in
    let rest = (on_segment c.args.now c.args.seg.now c.args.text.now first.server).sent in
    let was = c.args.out.now.items in
    let here = c.urge.new.out.items in
    let is = c.segment.new.out.items in
    map_err c.segment.result (HasSent here is (on_segment c.args.now c.args.seg.now c.args.text.now mid).sent) (HasSent was is (first.sent ++ rest))
    (λ h. sent_behind was here is (first.sent ++ rest) first.sent rest refl (all_sent was here first.sent c.in_ok-urge.ensures.sent)
    (subst (λ (x : ServerOf). HasSent here is (on_segment c.args.now c.args.seg.now c.args.text.now x).sent) c.in_ok-urge.ensures.server h)) c.segment.ensures.wrote

pub returns-clause-told : goal.returns-clause-told
unfolding told_urgent
returns-clause-told g c =
    let sv : ServerOf = server_of g.T.ConnTable.conns c.args.self.now in
    let told_so : ServerOf → _ = λ x. told_urging c.args.pointer c.args.seg.now sv ++ told_segment c.args.now c.args.seg.now c.args.text.now x in
    map_ok c.segment.result _ (g.T.ConnTable.tells c.args.self.now.table (told_so (urges_own c.args.now c.args.pointer c.args.seg.now sv).server) c.segment.new.self.table)
    (λ told. subst (λ ws. g.T.ConnTable.tells c.args.self.now.table ws c.segment.new.self.table) (ap told_so c.in_ok-urge.ensures.server)
    (g.met.T.ConnTable.tells_on c.args.self.now.table c.urge.new.self.table c.segment.new.self.table _ _ c.in_ok-urge.ensures.told told)) c.segment.ensures.told

pub returns-clause-lost : goal.returns-clause-lost
returns-clause-lost g c =
    let sv : ServerOf = server_of g.T.ConnTable.conns c.args.self.now in
    let mid : ServerOf = server_of g.T.ConnTable.conns c.urge.new.self in
    let after : ServerOf = server_of g.T.ConnTable.conns c.segment.new.self in
    map_err c.segment.result (Loses (tuple_of c.args.seg.now) mid after) (Loses (tuple_of c.args.seg.now) sv after)
    (lost_urged c.args.now c.args.pointer c.args.seg.now sv mid after c.in_ok-urge.ensures.server) c.segment.ensures.lost

pub returns-clause-rest : goal.returns-clause-rest
returns-clause-rest g c =
    let sv : ServerOf = server_of g.T.ConnTable.conns c.args.self.now in
    let mid : ServerOf = server_of g.T.ConnTable.conns c.urge.new.self in
    let n = length c.args.text.now in
    let first : KeepsRest 0 sv mid = subst (KeepsRest 0 sv) (sym c.in_ok-urge.ensures.server) (urged_rest c.args.now c.args.pointer c.args.seg.now sv) in
    rest_behind c.segment.result 0 n n sv mid (server_of g.T.ConnTable.conns c.segment.new.self) (omega arith) first c.segment.ensures.rest
