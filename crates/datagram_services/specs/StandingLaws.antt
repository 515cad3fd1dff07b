-- The laws of the resident of streams.
use Rattle.std.specs.Prelude.{◌≡◌, ℕ, ◌<◌, All, Some, List}
use Rattle.std.proofs.Common.{sym, ◌∙◌, subst, arith}
use Rattle.std.proofs.lemmas.List.{length-map}
use Rattle.perimeter_core.specs.declared.entries.Act.{Act}
use Rattle.perimeter_core.specs.Deeds.{feed_numbers}
use Rattle.perimeter_core.specs.Blocks.{Blocks}
use Rattle.perimeter_core.specs.Residing.{IsWithin, feeds_had}
use Rattle.placed_parts.specs.PlaceLaws.{has_place, same_feeds_of}
use Rattle.stream_plan.specs.Streams.{item_count}
use Rattle.datagram_services.specs.Standing.{BlockAt, HasHad, Stands, calls_of, limits_of, size_of}
use Rattle.datagram_services.specs.declared.block.StreamBlock.{StreamBlock}
use Rattle.datagram_services.specs.declared.blocks.StreamBlocks.{StreamBlocks}

pub part_same_feeds : (k : StreamBlock) (a b : List Act) → HasHad k a → HasHad k b → feed_numbers a ≡ feed_numbers b
part_same_feeds k a b x y = x ∙ sym y

pub blocks_same_feeds : (r : StreamBlocks) (a b : Blocks) (c : ℕ) → Stands r a → Stands r b → feeds_had a c ≡ feeds_had b c
blocks_same_feeds r a b c h j = same_feeds_of (BlockAt r.plan.now) (λ d k x y i l. part_same_feeds k x y i.1 l.1) r.places.items a b c h j

pub blocks_in_range : (r : StreamBlocks) (blocks : Blocks) (c : ℕ) (had : List Act) → Stands r blocks → blocks c ≡ Some had → c < size_of r
blocks_in_range r blocks c had h e = has_place (BlockAt r.plan.now) r.places.items blocks c had h e

pub blocks_within : (r : StreamBlocks) → IsWithin (size_of r) (limits_of r)
blocks_within r = record {
  feeds = omega (arith, r.each, length-map r.plan.now.streams item_count);
  leaves = omega arith;
  calls = subst (λ (n : ℕ). All (λ call. call.0 < n) (calls_of r)) (sym r.each) r.named;
}
