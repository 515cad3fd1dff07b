use Rattle.std.proofs.Common.{◌≡◌, Some, ap, sym, ◌∙◌, subst, arith}
use Rattle.capture_reader.specs.Outcome.{CaptureFile}
use Rattle.perimeter_core.proofs.ActLists.{got, here_of_feeds}
use Rattle.stream_plan.specs.Sound.{IsStream}
use Rattle.stream_plan.specs.Streams.{StreamOf, item_count}
use Rattle.stream_plan.proofs.PlanFacts.{one_of_all, part_of_sum}
use Rattle.datagram_services.specs.Standing.{BlockAt, HasServed, IsPartOf}
use Rattle.placed_parts.proofs.PlaceSteps.{no_place}
use Rattle.datagram_services.proofs.Placing.{feed_stands, its_block, limit_is}
use Rattle.datagram_services.proofs.blocks.StreamBlocksResident.feed.Goals as goal

pub feed-requires-clause-stream : goal.feed-requires-clause-stream
feed-requires-clause-stream c =
    let p = c.args.self.now.plan.now in
    subst (λ (f : CaptureFile). IsStream f c.stream.result.now) (sym c.capture.ensures) (one_of_all (IsStream p.file) p.streams c.args.c c.stream.result.now c.is_sound.ensures.each c.stream.ensures)

pub feed-requires-clause-few : goal.feed-requires-clause-few
feed-requires-clause-few c = omega (arith, part_of_sum item_count c.args.self.now.plan.now.streams c.args.c c.stream.result.now c.stream.ensures, c.is_sound.ensures.together)

pub feed-requires-clause-next : goal.feed-requires-clause-next
feed-requires-clause-next c =
    let p = c.args.self.now.plan.now in
    let places = c.args.self.now.places.items in
    let at = got places c.args.c c.index_mut.result.now _ c.requires.range c.index_mut.ensures.value ∙ ap Some c.in-Some.is in
    let was = (its_block p places c.args.c c.args._n c.in-Some.block at c.requires.next).1 in
    omega (arith, was, limit_is p c.args.c c.args._n c.stream.result.now c.stream.ensures c.requires.limit)

pub feed-requires-clause-so_far : goal.feed-requires-clause-so_far
feed-requires-clause-so_far c whole =
    let p = c.args.self.now.plan.now in
    let places = c.args.self.now.places.items in
    let at = got places c.args.c c.index_mut.result.now _ c.requires.range c.index_mut.ensures.value ∙ ap Some c.in-Some.is in
    let part = (its_block p places c.args.c c.args._n c.in-Some.block at c.requires.next).0 in
    subst (λ (f : CaptureFile). HasServed f c.stream.result.now c.in-Some.block) (sym c.capture.ensures) (part c.stream.result.now c.stream.ensures whole)

pub returns-in-Some-clause-stands : goal.returns-in-Some-clause-stands
returns-in-Some-clause-stands c blocks old =
    let p = c.args.self.now.plan.now in
    let places = c.args.self.now.places.items in
    let at = got places c.args.c c.index_mut.result.now _ c.requires.range c.index_mut.ensures.value ∙ ap Some c.in-Some.is in
    let part : IsPartOf p c.args.c c.feed.new.self = λ s e whole.
    let same : c.stream.result.now ≡ s = cc (c.stream.ensures, e) in
    subst (λ (t : StreamOf). HasServed p.file t c.feed.new.self) same (subst (λ (f : CaptureFile). HasServed f c.stream.result.now c.feed.new.self) c.capture.ensures (c.feed.ensures.served whole)) in
    feed_stands p places blocks c.args.c c.args._n c.in-Some.block c.feed.new.self c.requires.range at c.requires.next c.feed.ensures.had part old

pub returns-in_default-clause-stands : goal.returns-in_default-clause-stands
returns-in_default-clause-stands c =
    λ blocks old. absurd (no_place (BlockAt c.args.self.now.plan.now) c.args.self.now.places.items c.args.c _ c.index_mut.result.now c.requires.range (here_of_feeds _ c.args.c c.args._n c.requires.next) c.index_mut.ensures.value c.in_default.not-Some)
