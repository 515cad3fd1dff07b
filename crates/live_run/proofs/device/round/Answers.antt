use Rattle.std.proofs.Common.{◌++◌, ◌∙◌, [], List, Vec, Global, ap, arith, subst}
use Rattle.live_server.specs.Serving.{on_time}
use Rattle.live_server.specs.Written.{HasSent}
use Rattle.live_server.specs.declared.acting.Datagram.{Datagram}
use Rattle.live_server.proofs.LossLemmas.{on_err}
use Rattle.live_run.proofs.RoundLemmas.{behind_partly, datagram_partly, lost_behind, lost_early, time_partly}
use Rattle.live_run.proofs.device.round.Goals.{then-saturating_sub-ge-TICK+in_ok-tick, else-saturating_sub-ge-TICK}
use Rattle.live_run.proofs.device.round.Goals as goal

pub returns-clause-lost : goal.returns-clause-lost
returns-clause-lost c =
    let after = c.datagram.new.self in
    elim c.if-saturating_sub-ge-TICK.branch [
      | then-saturating_sub-ge-TICK+in_ok-tick w ↦
          lost_behind c.args.now c.args.ticked.now c.args.body.now c.args.server.now c.datagram.result (omega (arith, w.if-saturating_sub-ge-TICK.true, c.saturating_sub.ensures)) _ after
          (w.server-is ∙ w.in_ok-tick.ensures.server) c.datagram.ensures.lost c.datagram.ensures.rest
      | else-saturating_sub-ge-TICK w ↦
          lost_early c.args.now c.args.ticked.now c.args.body.now c.args.server.now c.datagram.result (omega (arith, w.if-saturating_sub-ge-TICK.false, c.saturating_sub.ensures)) _ after
          w.server-is c.datagram.ensures.lost c.datagram.ensures.rest
    ]

pub returns-in_err-tick-clause-wrote : goal.returns-in_err-tick-clause-wrote
returns-in_err-tick-clause-wrote c =
    on_err c.from_residual.result _
    (time_partly c.args.now c.args.ticked.now c.args.body.now c.args.server.now (omega (arith, c.if-saturating_sub-ge-TICK.true, c.saturating_sub.ensures)) [] c.tick.new.out.items
    (subst (λ (l : List Datagram). HasSent l c.tick.new.out.items (on_time c.args.now c.args.server.now).sent) c.clear.ensures.items c.in_err-tick.ensures.wrote))

pub returns-clause-wrote : goal.returns-clause-wrote
returns-clause-wrote c =
    elim c.if-saturating_sub-ge-TICK.branch [
      | then-saturating_sub-ge-TICK+in_ok-tick w ↦
          behind_partly c.args.now c.args.ticked.now c.args.body.now c.args.server.now c.datagram.result (omega (arith, w.if-saturating_sub-ge-TICK.true, c.saturating_sub.ensures)) [] _ _ _
          (w.server-is ∙ w.in_ok-tick.ensures.server)
          (ap (λ (v : Vec Datagram Global). v.items) w.sent-is ∙ w.in_ok-tick.ensures.sent ∙ ap (λ (l : List Datagram). l ++ (on_time c.args.now c.args.server.now).sent) c.clear.ensures.items) c.datagram.ensures.wrote
      | else-saturating_sub-ge-TICK w ↦
          datagram_partly c.args.now c.args.ticked.now c.args.body.now c.args.server.now c.datagram.result (omega (arith, w.if-saturating_sub-ge-TICK.false, c.saturating_sub.ensures)) [] _ _ _
          w.server-is (ap (λ (v : Vec Datagram Global). v.items) w.sent-is ∙ c.clear.ensures.items) c.datagram.ensures.wrote
    ]
