use Rattle.std.proofs.Common.{◌≡◌, [], ◌∷◌, refl, sym, ◌∙◌, arith, ap, length, length-append}
use Rattle.std.proofs.lemmas.List.{length-reverse}
use Rattle.squeue_arrivals.proofs.RingsDealt.{all_dealt, none_dealt, one_dealt}
use Rattle.squeue_arrivals.proofs.RingTasks.{none_long}
use Rattle.squeue_arrivals.proofs.ring_squeue.deal_places.Goals as goal

pub loop-ring-init : goal.loop-ring-init
loop-ring-init g c =
    record {
      dealt = none_dealt c.args.count c.args.pool.now.places c.args.pool.now.room c.args.places.items c.args.places.items c.args.sources.items c.reverse.new.self.items c.in_ok-rings.rings.items refl c.reverse.ensures.items c.in_ok-rings.ensures.items;
      left = omega (arith, ap length c.reverse.ensures.items, length-reverse c.args.sources.items, c.requires.1);
      room = omega (arith, c.in_ok-rings.ensures.exact, c.len.ensures, c.args.sources.ok.0, c.requires.1);
    }

pub loop-ring-preserved : goal.loop-ring-preserved
loop-ring-preserved g c =
    let i = c.loop-ring.invariant in
    let w = c.in_ok-stays.ensures in
    record {
      dealt = one_dealt c.args.count c.args.pool.now.places c.args.pool.now.room c.loop-ring.ring c.args.places.items c.loop-ring.places.items c.own_stays.new.places.items c.args.sources.items c.loop-ring.sources.items c.pop.new.self.items c.loop-ring.rings.items c.push_reserved.new.self.items _ _ i.dealt c.in-Some.ensures.items refl c.push_reserved.ensures.items (w.own, c.in_ok-keys.ensures, c.in_ok-room.ensures.items, omega (arith, c.in_ok-room.ensures.capacity)) w.others w.count;
      left = omega (arith, i.left, ap length c.in-Some.ensures.items, length-append c.pop.new.self.items (c.in-Some.source ∷ []));
      room = omega (arith, i.room, c.push_reserved.ensures.capacity);
    }

pub returns : goal.returns
returns g c = λ parts new.
    let i = c.loop-ring.invariant in
    let none : c.loop-ring.sources.items ≡ [] = none_long c.loop-ring.sources.items (omega (arith, i.left, c.loop-ring-test.false, c.loop-ring.auto)) in
    all_dealt c.args.count c.args.pool.now.places c.args.pool.now.room c.loop-ring.ring c.args.places.items c.loop-ring.places.items c.args.sources.items c.loop-ring.sources.items c.loop-ring.rings.items parts i.dealt none (omega (arith, c.requires.1)) new (sym new.many ∙ c.requires.3)
