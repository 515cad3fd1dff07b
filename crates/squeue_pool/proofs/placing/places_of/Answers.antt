use Rattle.std.proofs.Common.{◌≡◌, arith}
use Rattle.squeue_pool.proofs.Placed.{all_new, none_yet, one_more}
use Rattle.squeue_pool.proofs.placing.places_of.Goals as goal

pub loop-q-init : goal.loop-q-init
loop-q-init g c = none_yet c.args.shared c.args.count c.args.squeues c.new-all.result.items c.new-all.ensures.items

pub loop-q-preserved : goal.loop-q-preserved
loop-q-preserved g c =
    one_more c.args.shared c.args.count c.args.squeues c.loop-q.q c.loop-q.all.items c.push.new.self.items c.in_ok-places_at.field-0 c.loop-q.invariant c.in_ok-places_at.ensures c.in_ok-push.ensures.items

pub returns : goal.returns
returns g c =
    let all : c.loop-q.q ≡ c.args.squeues = omega (arith, c.loop-q-test.false, c.loop-q.auto.q-end) in
    all_new c.args.shared c.args.count c.args.squeues c.loop-q.q c.loop-q.all.items all c.loop-q.invariant
