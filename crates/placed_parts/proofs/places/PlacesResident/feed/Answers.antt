use Rattle.std.proofs.Common.{Some, ap, ◌∙◌}
use Rattle.perimeter_core.proofs.ActLists.{got, here_of_feeds}
use Rattle.placed_parts.specs.Standing.{HasFed, InOrder, PlacesStand}
use Rattle.placed_parts.specs.Placing.{MayBe}
use Rattle.placed_parts.proofs.PlaceSteps.{feed_stands, feed_in_order, had_feeds, no_place}
use Rattle.placed_parts.proofs.places.PlacesResident.feed.Goals as goal

pub returns-in-Some-clause-stands : goal.returns-in-Some-clause-stands
returns-in-Some-clause-stands g c blocks old =
    let r = c.args.self.now in
    let Had = g.S.Parts.part_stands in
    let at = got r.places.items c.args.c c.index_mut.result.now _ c.requires.range c.index_mut.ensures.value ∙ ap Some c.in-Some.is in
    let was = had_feeds (MayBe r) r.places.items c.args.c c.args.n c.in-Some.part at c.requires.next in
    let so_far : HasFed (InOrder Had c.in-Some.part) c.args.n = record { had = was.had; stands = was.stands.1; feeds = was.feeds } in
    let more = feed_in_order Had g.met.S.Parts.same_count c.in-Some.part c.feed.new.part c.args.n so_far c.feed.ensures.stands in
    feed_stands (MayBe r) r.places.items blocks c.args.c c.args.n c.in-Some.part c.feed.new.part c.requires.range at (λ had h. (c.feed.ensures.owner, more had h.1)) old

pub returns-in_default-clause-stands : goal.returns-in_default-clause-stands
returns-in_default-clause-stands g c =
    let r = c.args.self.now in
    let here = here_of_feeds (PlacesStand (MayBe r) r.places.items) c.args.c c.args.n c.requires.next in
    λ blocks old. absurd (no_place (MayBe r) r.places.items c.args.c _ c.index_mut.result.now c.requires.range here c.index_mut.ensures.value c.in_default.not-Some)
