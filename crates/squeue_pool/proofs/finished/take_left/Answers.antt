use Rattle.std.proofs.Common.{◌≡◌, List, [], ◌∷◌, length, length-append, refl, ap, sym, ◌∙◌, subst, arith, rules}
use Rattle.squeue_pool.specs.declared.work.Left.{Left}
use Rattle.squeue_pool.proofs.AllPlaced.{SoFar, all_in_order, all_placed, next_at, none_done, one_done}
use Rattle.squeue_pool.proofs.finished.take_left.Goals as goal

pub loop-last-init : goal.loop-last-init
loop-last-init g c =
    let z = ap length c.requires.empty.1 in
    record {
      so_far = none_done g.R.Resident (length c.args.places.now.items) c.args.left.items c.args.places.now.items c.args.ends.now.items refl c.requires.empty.0 c.requires.empty.1;
      room = omega (arith, z, c.requires.room);
    }

pub take_all-requires-clause-size : goal.take_all-requires-clause-size
take_all-requires-clause-size g c =
    let so = subst (λ (l : List (Left g.row.R.Denot)). SoFar g.R.Resident (length c.args.places.now.items) c.args.left.items l c.loop-last.places.items c.loop-last.ends.items) c.in-Some.ensures.items c.loop-last.invariant.so_far in
    c.requires.stood.sizes _ c.in-Some.last (next_at g.R.Resident (length c.args.places.now.items) c.args.left.items c.pop.new.self.items c.in-Some.last c.loop-last.places.items c.loop-last.ends.items so) ∙ sym so.count

pub take_all-requires-clause-stands : goal.take_all-requires-clause-stands
take_all-requires-clause-stands g c =
    let so = subst (λ (l : List (Left g.row.R.Denot)). SoFar g.R.Resident (length c.args.places.now.items) c.args.left.items l c.loop-last.places.items c.loop-last.ends.items) c.in-Some.ensures.items c.loop-last.invariant.so_far in
    (_, c.requires.stood.stands _ c.in-Some.last (next_at g.R.Resident (length c.args.places.now.items) c.args.left.items c.pop.new.self.items c.in-Some.last c.loop-last.places.items c.loop-last.ends.items so))

pub push_reserved-requires : goal.push_reserved-requires
push_reserved-requires g c =
    let less = ap length c.in-Some.ensures.items ∙ length-append c.pop.new.self.items (c.in-Some.last ∷ []) in
    omega (arith, less, c.loop-last.invariant.room)

pub loop-last-preserved : goal.loop-last-preserved
loop-last-preserved g c =
    let so = subst (λ (l : List (Left g.row.R.Denot)). SoFar g.R.Resident (length c.args.places.now.items) c.args.left.items l c.loop-last.places.items c.loop-last.ends.items) c.in-Some.ensures.items c.loop-last.invariant.so_far in
    let at = next_at g.R.Resident (length c.args.places.now.items) c.args.left.items c.pop.new.self.items c.in-Some.last c.loop-last.places.items c.loop-last.ends.items so in
    let more = ap length c.push_reserved.ensures.items ∙ length-append c.loop-last.ends.items ((c.in-Some.last.end, c.in-Some.last.trace) ∷ []) in
    let less = ap length c.in-Some.ensures.items ∙ length-append c.pop.new.self.items (c.in-Some.last ∷ []) in
    record {
      so_far = subst (SoFar g.R.Resident (length c.args.places.now.items) c.args.left.items c.pop.new.self.items c.take_all.new.places.items) (sym c.push_reserved.ensures.items)
          (one_done g.R.Resident (length c.args.places.now.items) c.args.left.items c.pop.new.self.items c.in-Some.last c.loop-last.places.items c.loop-last.ends.items so c.take_all.new.places.items (c.requires.stood.stands _ c.in-Some.last at) c.take_all.ensures);
      room = omega (arith, more, less, c.push_reserved.ensures.capacity, c.loop-last.invariant.room);
    }

pub returns-clause-placed : goal.returns-clause-placed
returns-clause-placed g c =
    let empty : c.loop-last.left.items ≡ [] = search rules in
    all_placed g.R.Resident (length c.args.places.now.items) c.args.left.items c.loop-last.left.items c.loop-last.places.items c.loop-last.ends.items empty c.loop-last.invariant.so_far

pub returns-clause-ends : goal.returns-clause-ends
returns-clause-ends g c =
    let empty : c.loop-last.left.items ≡ [] = search rules in
    all_in_order g.R.Resident (length c.args.places.now.items) c.args.left.items c.loop-last.left.items c.loop-last.places.items c.loop-last.ends.items empty c.loop-last.invariant.so_far
