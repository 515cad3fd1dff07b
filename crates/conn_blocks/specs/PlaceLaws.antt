-- The laws of the resident of blocks.
use Rattle.std.specs.Prelude.{◌≡◌, ℕ, ◌<◌, Some, List, Box, length}
use Rattle.std.proofs.Common.{ap, sym, ◌∙◌, arith}
use Rattle.std.proofs.lemmas.List.FromFn.{length-map-range_with_len}
use Rattle.std.specs.declared.alloc.Global.{Global}
use Rattle.perimeter_core.specs.declared.entries.Act.{Act}
use Rattle.perimeter_core.specs.Deeds.{feed_numbers}
use Rattle.perimeter_core.specs.Blocks.{Blocks as Had}
use Rattle.perimeter_core.specs.Residing.{IsWithin, feeds_had}
use Rattle.placed_parts.specs.PlaceLaws.{has_place, same_feeds_of}
use Rattle.conn_classifier.specs.Plan.{PlanOf, items_in}
use Rattle.conn_blocks.specs.declared.blocks.Blocks.{Blocks}
use Rattle.conn_blocks.specs.CallLists.{CallLists}
use Rattle.conn_blocks.specs.ServeOrder.{BlockOf}
use Rattle.conn_blocks.specs.Holding.{StandsFor}
use Rattle.histories.specs.Homes.{times_leaving}
use Rattle.conn_blocks.specs.Places.{BlockAt, PartStands, Stands, size_of, limits_of}
use Rattle.conn_blocks.specs.SettledFeeds.{feeds_settle}

same_acts : (p : PlanOf) (calls : CallLists) (c : ℕ) (b : BlockOf) (x y : List Act) → StandsFor p calls c x b → StandsFor p calls c y b
    → feed_numbers x ≡ feed_numbers y
same_acts p calls c b x y h k = sym (feeds_settle calls c x) ∙ ap feed_numbers (sym h.order ∙ k.order) ∙ feeds_settle calls c y

pub part_same_feeds : (b : Box BlockOf Global) (x y : List Act) → PartStands b x → PartStands b y → feed_numbers x ≡ feed_numbers y
part_same_feeds b x y h k = same_acts b.value.of.plan b.value.of.calls b.value.of.c b.value x y h k

pub blocks_same_feeds : (r : Blocks) (a b : Had) (c : ℕ) → Stands r a → Stands r b → feeds_had a c ≡ feeds_had b c
blocks_same_feeds r a b c h k =
    same_feeds_of (BlockAt r.plan r.calls.now) (λ d t x y. same_acts r.plan r.calls.now d t.value x y) r.places.items a b c h k

pub blocks_in_range : (r : Blocks) (blocks : Had) (c : ℕ) (had : List Act) → Stands r blocks → blocks c ≡ Some had → c < size_of r
blocks_in_range r blocks c had h e = let lt = has_place (BlockAt r.plan r.calls.now) r.places.items blocks c had h e in omega (arith, lt, r.each)

pub blocks_within : (r : Blocks) → IsWithin (size_of r) (limits_of r)
blocks_within r =
    record {
      feeds = omega (arith, length-map-range_with_len (λ c. length (items_in r.plan c)) 0 (length r.plan.tuples));
      leaves =
          omega (arith, length-map-range_with_len (λ c. times_leaving r.squeues r.spread r.squeue c (length (items_in r.plan c))) 0 (length r.plan.tuples));
      calls = r.named;
    }
