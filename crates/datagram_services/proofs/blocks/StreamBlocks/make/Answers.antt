use Rattle.std.proofs.Common.{◌+◌, Option, List, [], ◌∷◌, length, sym, ap, subst, arith}
use Rattle.std.proofs.lemmas.List.{length-append}
use Rattle.datagram_services.specs.Standing.{BlockAt, PlacesStand}
use Rattle.placed_parts.specs.Standing.{first_here}
use Rattle.datagram_services.specs.declared.block.StreamBlock.{StreamBlock}
use Rattle.placed_parts.proofs.PlaceSteps.{push_first}
use Rattle.datagram_services.proofs.Placing.{first_fits}
use Rattle.datagram_services.proofs.blocks.StreamBlocks.make.Goals as goal

pub invariant_of-result : goal.invariant_of-result
invariant_of-result c = record {
  each = omega (arith, c.loop-c.invariant.count, c.loop-c-test.false, c.loop-c.auto.c-end, c.streams-c-end.ensures.value);
  named = c.requires.named;
}

pub loop-c-preserved : goal.loop-c-preserved
loop-c-preserved c =
    let h = c.loop-c.invariant in
    record {
      count = omega (arith, ap length c.in_ok-push.ensures.items, length-append c.loop-c.places.items (c.place.result ∷ []), h.count);
      stands = subst (λ (l : List (Option StreamBlock)). PlacesStand c.args.plan.now l (first_here (c.loop-c.c + 1) c.args.squeue c.args.squeues)) (sym c.in_ok-push.ensures.items)
          (push_first (BlockAt c.args.plan.now) c.loop-c.places.items c.place.result c.loop-c.c c.args.squeue c.args.squeues h.count h.stands
          (first_fits c.args.plan.now c.loop-c.c c.place.result _ c.is_sound.ensures c.place.ensures));
    }
