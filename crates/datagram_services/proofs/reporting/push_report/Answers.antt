use Rattle.std.proofs.Common.{◌≤◌, length, arith}
use Rattle.datagram_services.proofs.StreamTexts.{plan_told, streams_end, streams_more}
use Rattle.datagram_services.proofs.reporting.push_report.Goals as goal

pub loop-c-preserved : goal.loop-c-preserved
loop-c-preserved g c =
    record {
      text = streams_more c.args.plan.now c.loop-c.c _ _ _ (omega (arith, c.streams-c-end.ensures.value, c.loop-c-test.true)) c.loop-c.invariant.text c.in_ok-push_stream.ensures.text;
      room = c.push_stream.ensures.room;
    }

pub returns : goal.returns
returns g c =
    let past : length c.args.plan.now.streams ≤ c.loop-c.c = omega (arith, c.streams-c-end.ensures.value, c.loop-c-test.false) in
    plan_told c.args.plan.now _ _ _ _ _ c.in_ok-put.ensures.told c.in_ok-push_counts.ensures (streams_end c.args.plan.now _ _ c.loop-c.c past c.loop-c.invariant.text) c.in_ok-put-2.ensures.told
