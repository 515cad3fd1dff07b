use Rattle.std.proofs.Common.{◌≡◌, ℕ, Some, ◌∷◌, [], length, take, get_or, false, sym, subst, ◌∙◌, arith, length-append}
use Rattle.std.proofs.lemmas.List.{take_more, length-take-le}
use Rattle.perimeter_core.specs.Blocks.{fresh}
use Rattle.placed_parts.specs.Standing.{InOrder, OwnPart, PlaceAt}
use Rattle.placed_parts.proofs.PlaceSteps.{first_stand}
use Rattle.placed_parts.proofs.places.Places.make_where.Goals as goal

pub loop-c-preserved : goal.loop-c-preserved
loop-c-preserved g c =
    let i = c.loop-c.c in
    let places = c.loop-c.places.items in
    let starts = c.args.starts.now in
    let At = OwnPart (g.S.Parts.is_part_of (g.S.Parts.origin c.args.shared)) (InOrder g.S.Parts.part_stands) in
    let done : length (take i starts) ≡ i = length-take-le i starts (omega (arith, c.loop-c-test.true)) in
    let same : length places ≡ length (take i starts) = c.loop-c.invariant.count ∙ sym done in
    let place = c.in_ok-place.place in
    let first = subst (λ (n : ℕ). PlaceAt At n (Some place) (fresh (get_or starts i false))) (sym c.loop-c.invariant.count) c.in_ok-place.ensures in
    record {
      count = rw c.push_reserved.ensures.items (omega (arith, length-append places (place ∷ []), c.loop-c.invariant.count));
      room = omega (arith, c.push_reserved.ensures.capacity, c.loop-c.invariant.room);
      stands = rw (c.push_reserved.ensures.items, take_more starts i false c.loop-c-test.true)
          (first_stand At places (take i starts) place (get_or starts i false) same c.loop-c.invariant.stands first);
    }
