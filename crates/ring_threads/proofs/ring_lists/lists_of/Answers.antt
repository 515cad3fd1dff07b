use Rattle.std.proofs.Common.{◌≡◌, map, arith}
use Rattle.std.proofs.lemmas.List.{length-map}
use Rattle.conn_classifier.specs.RingList.{IsRingList}
use Rattle.ring_threads.proofs.Each.{all_of_them, none_yet, one_more_seen}
use Rattle.ring_threads.proofs.ring_lists.lists_of.Goals as goal

pub loop-ring-init : goal.loop-ring-init
loop-ring-init c =
    record {
      lists = rw c.in_ok-lists.ensures.items (none_yet (IsRingList c.args.plan.now c.args.rings));
      room = omega (arith, c.in_ok-lists.ensures.capacity);
    }

pub push_reserved-requires : goal.push_reserved-requires
push_reserved-requires c =
    let n = length-map c.loop-ring.lists.items (λ list. list.items) in
    omega (arith, n, c.loop-ring.invariant.lists.count, c.loop-ring.invariant.room, c.loop-ring-test.true)

pub loop-ring-preserved : goal.loop-ring-preserved
loop-ring-preserved c =
    record {
      lists = rw c.push_reserved.ensures.items (one_more_seen (λ list. list.items) (IsRingList c.args.plan.now c.args.rings) c.loop-ring.ring c.loop-ring.lists.items c.in_ok-list.list c.loop-ring.invariant.lists c.in_ok-list.ensures);
      room = omega (arith, c.push_reserved.ensures.capacity, c.loop-ring.invariant.room);
    }

pub returns : goal.returns
returns c =
    let all : c.loop-ring.ring ≡ c.args.rings = omega (arith, c.loop-ring-test.false, c.loop-ring.auto.ring-end) in
    all_of_them (IsRingList c.args.plan.now c.args.rings) c.loop-ring.ring c.args.rings (map (λ list. list.items) c.loop-ring.lists.items) all c.loop-ring.invariant.lists
