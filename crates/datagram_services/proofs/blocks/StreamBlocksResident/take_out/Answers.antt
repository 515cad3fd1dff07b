use Rattle.std.proofs.Common.{◌≡◌, Option, Some, List, [], slice_get, slice_set, ap, sym, ◌∙◌, subst}
use Rattle.perimeter_core.specs.declared.entries.Act.{Act}
use Rattle.perimeter_core.specs.declared.marks.SynchAct.TheVariants as Done
use Rattle.perimeter_core.specs.Blocks.{with_act}
use Rattle.perimeter_core.proofs.ActLists.{got}
use Rattle.datagram_services.specs.Standing.{BlockAt, HasHad, PlacesStand}
use Rattle.datagram_services.specs.declared.block.StreamBlock.{StreamBlock}
use Rattle.placed_parts.proofs.PlaceSteps.{found, had_some, out_stands}
use Rattle.datagram_services.proofs.blocks.StreamBlocksResident.take_out.Goals as goal

pub returns-clause-stands : goal.returns-clause-stands
returns-clause-stands c blocks old =
    let p = c.args.self.now.plan.now in
    let places = c.args.self.now.places.items in
    subst (λ (v : Option StreamBlock). PlacesStand p (slice_set places c.args.c v) (with_act (Done.Out c.args.c) [] blocks)) (sym c.take.ensures.after) (out_stands (BlockAt p) places blocks c.args.c c.requires.range old)

pub returns-clause-part : goal.returns-clause-part
returns-clause-part c blocks had old is =
    let p = c.args.self.now.plan.now in
    let places = c.args.self.now.places.items in
    let lies : c.index_mut.result.now ≡ Some c.in-Some.block = cc (c.in-Some.is, c.in-Some.ensures.value, c.take.ensures.value) in
    let at : slice_get places c.args.c ≡ Some (Some c.in-Some.block) = got places c.args.c c.index_mut.result.now _ c.requires.range c.index_mut.ensures.value ∙ ap Some lies in
    let f = found (BlockAt p) c.args.c (slice_get places c.args.c) (blocks c.args.c) c.in-Some.block at (old c.args.c) in
    let same : f.0 ≡ had = cc (f.1, is) in
    subst (λ (l : List Act). HasHad c.in-Some.block l) same f.2.1

pub returns-clause-owner : goal.returns-clause-owner
returns-clause-owner c =
    let p = c.args.self.now.plan.now in
    let places = c.args.self.now.places.items in
    let lies : c.index_mut.result.now ≡ Some c.in-Some.block = cc (c.in-Some.is, c.in-Some.ensures.value, c.take.ensures.value) in
    let at : slice_get places c.args.c ≡ Some (Some c.in-Some.block) = got places c.args.c c.index_mut.result.now _ c.requires.range c.index_mut.ensures.value ∙ ap Some lies in
    (had_some (BlockAt p) places c.args.c c.in-Some.block at c.requires.here).stands.0
