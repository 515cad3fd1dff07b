use Rattle.std.proofs.Common.{◌+◌, length, sum_by, ap, ◌∙◌, arith}
use Rattle.std.proofs.lemmas.List.{take_all}
use Rattle.conn_classifier.specs.Plan.{items_in}
use Rattle.conn_blocks.specs.CallLists.{calls_of}
use Rattle.histories.specs.Homes.{times_leaving}
use Rattle.ring_quotas.proofs.Adding.{calls_next, left_as, on_known}
use Rattle.ring_quotas.proofs.quotas.caller_asks.Goals as goal

pub items-requires : goal.items-requires
items-requires c = on_known c.args.calls.now (length c.args.plan.now.tuples) c.args.thread c.loop-k.k c.get-c.result c.requires.calls c.get-c.ensures

pub loop-k-preserved : goal.loop-k-preserved
loop-k-preserved c =
    let n = calls_next (λ call. 1 + times_leaving c.args.setup.now.squeues c.args.setup.now.spread c.args.q call.0 (length (items_in c.args.plan.now call.0))) (calls_of c.args.calls.now c.args.thread) c.loop-k.k c.get-c.result c.get-c.ensures in
    let one = left_as c.args.q c.get-c.result.0 c.homes-homes.ensures.squeues c.homes-homes.ensures.spread c.items.ensures.value c.leaving.ensures.value in
    record {
      value = omega (arith, n, one, c.loop-k.invariant.value);
      most = omega (arith, c.loop-k.invariant.most, c.leaving.ensures.most, c.items.ensures.most);
    }

pub returns-clause-value : goal.returns-clause-value
returns-clause-value c = c.loop-k.invariant.value ∙ ap (sum_by (λ call. 1 + times_leaving c.args.setup.now.squeues c.args.setup.now.spread c.args.q call.0 (length (items_in c.args.plan.now call.0)))) (take_all c.loop-k.k (calls_of c.args.calls.now c.args.thread) (omega (arith, c.loop-k-test.false, c.len-k-end.ensures.value)))
