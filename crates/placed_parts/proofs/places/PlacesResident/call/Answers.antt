use Rattle.std.proofs.Common.{Some, ap, ◌∙◌}
use Rattle.perimeter_core.proofs.ActLists.{got}
use Rattle.placed_parts.specs.Placing.{MayBe}
use Rattle.placed_parts.proofs.PlaceSteps.{call_stands, call_in_order, no_place}
use Rattle.placed_parts.proofs.places.PlacesResident.call.Goals as goal

pub returns-in-Some-clause-stands : goal.returns-in-Some-clause-stands
returns-in-Some-clause-stands g c blocks old =
    let r = c.args.self.now in
    let Had = g.S.Parts.part_stands in
    let at = got r.places.items c.args.c c.index_mut.result.now _ c.requires.range c.index_mut.ensures.value ∙ ap Some c.in-Some.is in
    let more = call_in_order Had c.in-Some.part c.call.new.part c.args.j c.args.k c.call.ensures.stands in
    call_stands (MayBe r) r.places.items blocks c.args.c c.args.j c.args.k c.in-Some.part c.call.new.part c.requires.range at (λ had h. (c.call.ensures.owner, more had h.1)) old

pub returns-in_default-clause-stands : goal.returns-in_default-clause-stands
returns-in_default-clause-stands g c =
    let r = c.args.self.now in
    λ blocks old. absurd (no_place (MayBe r) r.places.items c.args.c _ c.index_mut.result.now c.requires.range c.requires.here c.index_mut.ensures.value c.in_default.not-Some)
