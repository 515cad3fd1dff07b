use Rattle.std.proofs.Common.{length, ap, arith}
use Rattle.stream_plan.specs.Streams.{StreamOf, item_count}
use Rattle.stream_plan.proofs.PlanFacts.{part_of_sum}
use Rattle.stream_plan.proofs.planned.MorePlan.items.Goals as goal

pub overflow_cast-result : goal.overflow_cast-result
overflow_cast-result c =
    let datagrams = ap (λ (s : StreamOf). length s.datagrams) c.stream.view_is in
    let items = ap (λ (s : StreamOf). length s.items) c.stream.view_is in
    omega (arith, c.len.ensures, c.len-2.ensures, datagrams, items, part_of_sum item_count c.args.self.now.streams c.args.c _ c.stream-stream.ensures, c.is_sound.ensures.together)

pub returns-clause-most : goal.returns-clause-most
returns-clause-most c =
    let datagrams = ap (λ (s : StreamOf). length s.datagrams) c.stream.view_is in
    let items = ap (λ (s : StreamOf). length s.items) c.stream.view_is in
    omega (arith, c.len.ensures, c.len-2.ensures, datagrams, items, part_of_sum item_count c.args.self.now.streams c.args.c _ c.stream-stream.ensures, c.is_sound.ensures.together)
