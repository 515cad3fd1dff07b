use Rattle.std.proofs.Common.{◌≡◌, arith, ap, sym, subst, length}
use Rattle.squeue_arrivals.specs.Seating.{AreOwnPlaces}
use Rattle.squeue_arrivals.proofs.Owned.{all_taken, one_taken}
use Rattle.squeue_arrivals.proofs.seating.own_stays.Goals as goal

pub loop-c-preserved : goal.loop-c-preserved
loop-c-preserved g c =
    let i = c.loop-c.invariant in
    let w = c.take_for.ensures in
    record {
      taken = one_taken c.args.rings c.args.ring c.loop-c.c c.args.places.now.items c.loop-c.places.items c.loop-c.own.items c.take_for.new.places.items c.push_reserved.new.self.items c.take_for.result i.taken c.push_reserved.ensures.items w.own w.out w.others w.count;
      counted = i.counted;
      room = omega (arith, i.room, c.push_reserved.ensures.capacity);
    }

pub returns-clause-own : goal.returns-clause-own
returns-clause-own g c =
    let i = c.loop-c.invariant in
    let last : c.loop-c.c ≡ length c.args.places.now.items = omega (arith, c.loop-c-test.false, c.loop-c.auto, i.counted) in
    let own = all_taken c.args.rings c.args.ring c.loop-c.c c.args.places.now.items c.loop-c.places.items c.loop-c.own.items last i.taken in
    record {
      own = subst (AreOwnPlaces c.args.rings c.args.ring c.args.places.now.items) (sym c.of.ensures.places) own;
      life = (ap (λ l. l.feeds) c.of.ensures.life, ap (λ l. l.asks) c.of.ensures.life);
      idle = record {
        none = (c.of.ensures.chain, c.of.ensures.touched);
        at_once = (omega (arith, c.of.ensures.room.0, c.in_ok-chain.ensures.exact, c.min.ensures, c.requires.1), omega (arith, c.of.ensures.room.0, c.in_ok-chain.ensures.exact, c.min.ensures));
        touched = omega (arith, c.of.ensures.room.1, c.in_ok-touched.ensures.exact);
      };
    }
