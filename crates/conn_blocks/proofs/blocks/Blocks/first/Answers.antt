use Rattle.std.proofs.Common.{◌≡◌, ◌+◌, ◌∷◌, [], length, length-append, ap, sym, subst, arith}
use Rattle.std.specs.List.{AllByRecursion}
use Rattle.capture_reader.proofs.Pieces.{all_push}
use Rattle.conn_blocks.specs.Places.{BlockAt, NotShort, PlacesStand}
use Rattle.placed_parts.specs.Standing.{first_here}
use Rattle.placed_parts.proofs.PlaceSteps.{none_stand, push_first}
use Rattle.conn_blocks.proofs.blocks.Blocks.first.Goals as goal

pub loop-c-init : goal.loop-c-init
loop-c-init c =
    let p = c.args.plan.now in
    let calls = c.args.calls.now in
    let none = c.new-places.ensures.items in
    record {
      each = ap length none;
      whole = subst (AllByRecursion NotShort) (sym none) tt;
      stand = subst (λ l. PlacesStand p calls l (first_here 0 c.args.squeue c.args.squeues)) (sym none) (none_stand (BlockAt p calls) c.args.squeue c.args.squeues);
    }

pub loop-c-preserved : goal.loop-c-preserved
loop-c-preserved c =
    let p = c.args.plan.now in
    let calls = c.args.calls.now in
    let n = c.loop-c.c in
    let places = c.loop-c.places.items in
    let place = c.in_ok-place.field-0 in
    let so_far = c.loop-c.invariant in
    let longer = c.in_ok-push.ensures.items in
    record {
      each = omega (arith, ap length longer, length-append places (place ∷ []), so_far.each);
      whole = subst (AllByRecursion NotShort) (sym longer) (all_push NotShort places place so_far.whole c.in_ok-place.ensures.whole);
      stand = subst (λ l. PlacesStand p calls l (first_here (n + 1) c.args.squeue c.args.squeues)) (sym longer)
          (push_first (BlockAt p calls) places place n c.args.squeue c.args.squeues so_far.each so_far.stand c.in_ok-place.ensures.fits);
    }

pub returns-clause-stand : goal.returns-clause-stand
returns-clause-stand c =
    let all : c.loop-c.c ≡ length c.args.plan.now.tuples = omega (arith, c.loop-c-test.false, c.loop-c.auto.c-end, c.conns-c-end.ensures.value) in
    subst (λ n. PlacesStand c.args.plan.now c.args.calls.now c.loop-c.places.items (first_here n c.args.squeue c.args.squeues)) all c.loop-c.invariant.stand
