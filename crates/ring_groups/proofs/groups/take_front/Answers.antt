use Rattle.std.proofs.Common.{◌∷◌, [], ap, arith, length, length-append}
use Rattle.ring_groups.proofs.Grouped.{taken_more}
use Rattle.ring_groups.proofs.groups.take_front.Goals as goal

pub loop-n-preserved : goal.loop-n-preserved
loop-n-preserved g c =
    let i = c.loop-n.invariant in
    let next = c.in-Some.next in
    let split = c.in-Some.ensures.items in
    record {
      taken = rw c.push_reserved.ensures.items (taken_more _ c.loop-n.front.items c.loop-n.all.items c.pop.new.self.items next i.taken split);
      many = omega (arith, i.many, ap length c.push_reserved.ensures.items, length-append c.loop-n.front.items (next ∷ []));
      left = omega (arith, i.left, ap length split, length-append c.pop.new.self.items (next ∷ []));
      room = omega (arith, i.room, c.push_reserved.ensures.capacity);
    }
