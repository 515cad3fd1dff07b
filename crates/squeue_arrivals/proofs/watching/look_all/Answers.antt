use Rattle.std.proofs.Common.{◌∙◌, refl, ap, sym, subst, arith}
use Rattle.turn_gate.specs.Passes.{seen}
use Rattle.perimeter_core.specs.Legal.{asks_by}
use Rattle.placed_parts.specs.Placing.{limits_of, origin_of, parts_of}
use Rattle.squeue_state.specs.Naming.{setting_of}
use Rattle.squeue_arrivals.specs.Keyed.{AreBegun, work_of}
use Rattle.squeue_arrivals.specs.Watching.{IsSeenOf}
use Rattle.squeue_arrivals.proofs.Looking.{is_seen_of, looked_once, may_ask}
use Rattle.squeue_arrivals.proofs.watching.look_all.Goals as goal

pub look-next-requires : goal.look-next-requires
look-next-requires g c = record { may = may_ask limits_of c.args.sq.now _ c.loop-n.pass c.loop-n.invariant.may (omega (arith, c.loop-n.auto)) }

pub loop-n-preserved : goal.loop-n-preserved
loop-n-preserved g c =
    let i = c.loop-n.invariant in
    let w = c.look-next.ensures in
    let seen_by = w.seen in
    let origin = seen_by.stands.same_origin in
    let begun = subst (AreBegun g.X.KeySteps.begins) (sym origin) c.requires.begun in
    record {
      may = looked_once limits_of c.args.sq.now _ c.loop-n.pass c.look-next.result.0 _ i.may (omega (arith, c.loop-n.auto)) w.goes_on w.idle w.asks;
      same = w.goes_on.same_number ∙ i.same;
      asks = ap (λ k. asks_by k (seen c.look-next.result.0)) (sym i.same) ∙ (w.asks ∙ (let e = ap (λ k. asks_by k (seen c.loop-n.pass)) i.same in omega (arith, e, i.asks)));
      some = λ lt. refl;
      looked = subst (λ o. IsSeenOf g.X.KeySteps.begins g.X.KeySteps.step (work_of o) (g.V.Watches.says c.args.watcher.now) (setting_of limits_of c.args.sq.now.given) (seen c.look-next.result.0) c.look-next.result.1) origin
          (is_seen_of g.X.KeySteps.begins g.X.KeySteps.step (origin_of seen_by.resident) begun (g.V.Watches.says c.args.watcher.now) (setting_of limits_of c.args.sq.now.given) (seen c.look-next.result.0) (parts_of seen_by.resident)
          c.look-next.result.1 w.goes_on.legal seen_by.stands.stands_for seen_by.says);
    }
