use Rattle.std.proofs.Common.{◌≡◌, [], ◌∷◌, refl, arith, ap, length, length-append}
use Rattle.std.proofs.lemmas.List.{length-reverse}
use Rattle.live_rings.proofs.RingsDealt.{all_dealt, none_dealt, one_dealt}
use Rattle.live_rings.proofs.RingTasks.{none_long}
use Rattle.live_rings.proofs.ring_squeue.deal_places.Goals as goal

pub loop-ring-init : goal.loop-ring-init
loop-ring-init g c =
    record {
      dealt = none_dealt c.args.count c.args.own c.args.places.items c.args.places.items c.args.ends.items c.reverse.new.self.items c.in_ok-rings.rings.items refl c.reverse.ensures.items c.in_ok-rings.ensures.items;
      left = omega (arith, ap length c.reverse.ensures.items, length-reverse c.args.ends.items, c.requires.1);
      room = omega (arith, c.in_ok-rings.ensures.exact, c.len.ensures, c.args.ends.ok.0, c.requires.1);
    }

pub loop-ring-preserved : goal.loop-ring-preserved
loop-ring-preserved g c =
    let i = c.loop-ring.invariant in
    let w = c.in_ok-stays.ensures in
    record {
      dealt = one_dealt c.args.count c.args.own c.loop-ring.ring c.args.places.items c.loop-ring.places.items c.own_stays.new.places.items c.args.ends.items c.loop-ring.ends.items c.pop.new.self.items c.loop-ring.rings.items c.push_reserved.new.self.items _ _ i.dealt c.in-Some.ensures.items refl c.push_reserved.ensures.items w.own c.in_ok-free.ensures w.others w.count;
      left = omega (arith, i.left, ap length c.in-Some.ensures.items, length-append c.pop.new.self.items (c.in-Some.ends ∷ []));
      room = omega (arith, i.room, c.push_reserved.ensures.capacity);
    }

pub returns : goal.returns
returns g c = λ parts new.
    let i = c.loop-ring.invariant in
    let none : c.loop-ring.ends.items ≡ [] = none_long c.loop-ring.ends.items (omega (arith, i.left, c.loop-ring-test.false, c.loop-ring.auto)) in
    all_dealt c.args.count c.args.own c.loop-ring.ring c.args.places.items c.loop-ring.places.items c.args.ends.items c.loop-ring.ends.items c.loop-ring.rings.items parts i.dealt none (omega (arith, c.requires.1)) new
