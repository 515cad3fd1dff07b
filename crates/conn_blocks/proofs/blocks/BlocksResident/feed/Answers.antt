use Rattle.std.proofs.Common.{◌<◌, length, Some, ap, sym, subst, ◌∙◌, arith}
use Rattle.perimeter_core.proofs.ActLists.{got, here_of_feeds}
use Rattle.conn_blocks.specs.Holding.{StandsFor}
use Rattle.conn_blocks.specs.Places.{BlockAt, PlacesStand}
use Rattle.placed_parts.proofs.PlaceSteps.{feed_stands, no_place}
use Rattle.conn_blocks.proofs.PlaceSteps.{is_item, fed_here}
use Rattle.conn_blocks.proofs.blocks.BlocksResident.feed.Goals as goal

pub feed-requires-clause-item : goal.feed-requires-clause-item
feed-requires-clause-item c = is_item c.args.self.now.plan c.args.c c.args.n c.requires.range c.requires.limit

pub feed-requires-clause-next : goal.feed-requires-clause-next
feed-requires-clause-next c =
    let p = c.args.self.now.plan in
    let calls = c.args.self.now.calls.now in
    let places = c.args.self.now.places.items in
    let lt : c.args.c < length places = omega (arith, c.requires.range, c.args.self.now.each) in
    let at = got places c.args.c c.index_mut.result.now _ lt c.index_mut.ensures.value ∙ ap Some c.in-Some.is in
    let had = fed_here p calls places c.args.c c.args.n c.in-Some.block at c.requires.next in
    (had.0, subst (StandsFor p calls c.args.c had.0) (sym c.deref_mut.ensures.value) had.1, had.2)

pub returns-in-Some-clause-stands : goal.returns-in-Some-clause-stands
returns-in-Some-clause-stands c blocks old =
    let p = c.args.self.now.plan in
    let calls = c.args.self.now.calls.now in
    let places = c.args.self.now.places.items in
    let lt : c.args.c < length places = omega (arith, c.requires.range, c.args.self.now.each) in
    let at = got places c.args.c c.index_mut.result.now _ lt c.index_mut.ensures.value ∙ ap Some c.in-Some.is in
    feed_stands (BlockAt p calls) places blocks c.args.c c.args.n c.in-Some.block _ lt at
    (λ came is. c.feed.ensures came (subst (StandsFor p calls c.args.c came) (sym c.deref_mut.ensures.value) is)) old

pub returns-in_default-clause-stands : goal.returns-in_default-clause-stands
returns-in_default-clause-stands c =
    let p = c.args.self.now.plan in
    let calls = c.args.self.now.calls.now in
    let places = c.args.self.now.places.items in
    let lt : c.args.c < length places = omega (arith, c.requires.range, c.args.self.now.each) in
    let here = here_of_feeds (PlacesStand p calls places) c.args.c c.args.n c.requires.next in
    λ blocks old. absurd (no_place (BlockAt p calls) places c.args.c _ c.index_mut.result.now lt here c.index_mut.ensures.value c.in_default.not-Some)
