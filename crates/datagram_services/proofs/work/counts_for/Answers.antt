use Rattle.std.proofs.Common.{◌∙◌, arith}
use Rattle.std.proofs.lemmas.List.{length-map, take_all}
use Rattle.stream_plan.specs.Streams.{item_count}
use Rattle.datagram_services.specs.Fits.{counts_of}
use Rattle.datagram_services.proofs.Counting.{one_counted}
use Rattle.datagram_services.proofs.work.counts_for.Goals as goal

pub loop-c-preserved : goal.loop-c-preserved
loop-c-preserved c =
    one_counted c.args.plan.now c.loop-c.c c.items.result c.loop-c.counts.items c.push.new.self.items (omega (arith, c.loop-c-test.true, c.streams-c-end.ensures.value)) c.loop-c.invariant c.items.ensures.value
    c.in_ok-push.ensures.items

pub returns : goal.returns
returns c =
    let n = length-map c.args.plan.now.streams item_count in
    c.loop-c.invariant ∙ take_all c.loop-c.c (counts_of c.args.plan.now) (omega (arith, c.loop-c-test.false, c.streams-c-end.ensures.value, n))
