use Rattle.std.proofs.Common.{◌∙◌, arith, rules}
use Rattle.live_rings.proofs.Seated.{new_pair, no_pairs, pairs_more}
use Rattle.live_rings.proofs.seating.new_pairs.Goals as goal

pub loop-c-init : goal.loop-c-init
loop-c-init c =
    record {
      pairs = no_pairs c.in_ok-producers.producers.items c.in_ok-parts.parts.items c.in_ok-producers.ensures.items c.in_ok-parts.ensures.items;
      push_room = search rules;
      pop_room = search rules;
    }

pub loop-c-preserved : goal.loop-c-preserved
loop-c-preserved c =
    let i = c.loop-c.invariant in
    record {
      pairs = rw (c.push_reserved.ensures.items, c.push_reserved-in-loop-c.ensures.items)
          (pairs_more c.loop-c._c c.loop-c.producers.items c.loop-c.parts.items _ _ i.pairs
          (new_pair _ _ _ c.in_ok-producer.ensures.pair c.in_ok-producer.ensures.producer.0 c.in_ok-producer.ensures.producer.1 c.in_ok-producer.ensures.consumer.0 c.of.ensures.input c.of.ensures.count (c.of.ensures.state ∙ c.new-in-loop-c.ensures)));
      push_room = omega (arith, i.push_room, c.push_reserved.ensures.capacity);
      pop_room = omega (arith, i.pop_room, c.push_reserved-in-loop-c.ensures.capacity);
    }
