-- The blocks after each call.
use Rattle.std.proofs.Common.{List, [], ◌∷◌, refl, sym}
use Rattle.perimeter_core.specs.declared.entries.Act.{Act}
use Rattle.perimeter_core.specs.declared.entries.Act.TheVariants as Did
use Rattle.perimeter_core.specs.declared.entries.Entry.TheVariants as Entry'
use Rattle.perimeter_core.specs.declared.marks.SynchAct.TheVariants as Done
use Rattle.perimeter_core.specs.Blocks.{Blocks, with_feeds, with_act}
use Rattle.placed_parts.specs.Standing.{all_new}
use Rattle.shards.proofs.tests.parcels_are_written_in_the_order_of_feeds.Goals as goal

abbrev fed_one : Blocks
fed_one = with_feeds (Entry'.Feed 0 0 ∷ []) (all_new 2)

abbrev fed_two : Blocks
fed_two = with_feeds (Entry'.Feed 1 0 ∷ []) fed_one

abbrev one_had : List Act
one_had = Did.Feed 0 ∷ []

abbrev one_out : Blocks
one_out = with_act (Done.Out 0) [] fed_two

abbrev one_back : Blocks
one_back = with_act (Done.In 0) [] one_out

pub feed-requires-clause-next : goal.feed-requires-clause-next
feed-requires-clause-next g c = record { blocks = all_new 2; had = []; stands = c.shard_of-shard.ensures.stands; here = refl; feeds = refl }

pub feed-requires-2-clause-next : goal.feed-requires-2-clause-next
feed-requires-2-clause-next g c = record { blocks = fed_one; had = []; stands = c.feed.ensures.stands (all_new 2) c.shard_of-shard.ensures.stands; here = refl; feeds = refl }

pub take_out-number-requires-clause-here : goal.take_out-number-requires-clause-here
take_out-number-requires-clause-here g c =
    record {
      blocks = fed_two;
      had = one_had;
      stands = c.feed-2.ensures.stands fed_one (c.feed.ensures.stands (all_new 2) c.shard_of-shard.ensures.stands);
      here = refl;
    }

pub put_in-requires-clause-away : goal.put_in-requires-clause-away
put_in-requires-clause-away g c =
    record {
      blocks = one_out;
      stands = c.take_out-number.ensures.stands fed_two (c.feed-2.ensures.stands fed_one (c.feed.ensures.stands (all_new 2) c.shard_of-shard.ensures.stands));
      away = refl;
    }

pub feed-requires-3-clause-next : goal.feed-requires-3-clause-next
feed-requires-3-clause-next g c =
    let two = c.feed-2.ensures.stands fed_one (c.feed.ensures.stands (all_new 2) c.shard_of-shard.ensures.stands) in
    record {
      blocks = one_back;
      had = [];
      stands = c.put_in.ensures.stands one_out [] (c.take_out-number.ensures.stands fed_two two) (refl, sym c.none.ensures);
      here = refl;
      feeds = refl;
    }
