-- The blocks after each call.
use Rattle.std.proofs.Common.{List, [], ◌∷◌, refl}
use Rattle.squeue.specs.declared.Act.{Act}
use Rattle.squeue.specs.declared.Act.TheVariants as Did
use Rattle.squeue.specs.declared.Entry.TheVariants as Entry'
use Rattle.squeue.specs.declared.SynchAct.TheVariants as Done
use Rattle.squeue.specs.Blocks.{Blocks, with_feeds, with_act}
use Rattle.squeue.specs.Standing.{all_new}
use Rattle.example_tests.proofs.counters.a_counter_leaves_and_comes_back.Goals as goal

abbrev fed_one : Blocks
fed_one = with_feeds (Entry'.Feed 0 0 ∷ []) (all_new 2)

abbrev fed_two : Blocks
fed_two = with_feeds (Entry'.Feed 1 0 ∷ []) fed_one

abbrev one_had : List Act
one_had = Did.Feed 0 ∷ []

abbrev one_out : Blocks
one_out = with_act (Done.Out 0) [] fed_two

abbrev one_back : Blocks
one_back = with_act (Done.In 0) one_had one_out

abbrev one_read : Blocks
one_read = with_act (Done.Call 0 0 0) [] one_back

pub feed-requires-clause-next : goal.feed-requires-clause-next
feed-requires-clause-next g c = record { blocks = all_new 2; had = []; stands = c.in_ok-counters.ensures.stands; here = refl; feeds = refl }

pub feed-requires-2-clause-next : goal.feed-requires-2-clause-next
feed-requires-2-clause-next g c = record { blocks = fed_one; had = []; stands = c.feed.ensures.stands (all_new 2) c.in_ok-counters.ensures.stands; here = refl; feeds = refl }

pub take_out-part-requires-clause-here : goal.take_out-part-requires-clause-here
take_out-part-requires-clause-here g c =
    record {
      blocks = fed_two;
      had = one_had;
      stands = c.feed-2.ensures.stands fed_one (c.feed.ensures.stands (all_new 2) c.in_ok-counters.ensures.stands);
      here = refl;
    }

pub put_in-requires-clause-away : goal.put_in-requires-clause-away
put_in-requires-clause-away g c =
    record {
      blocks = one_out;
      stands = c.take_out-part.ensures.stands fed_two (c.feed-2.ensures.stands fed_one (c.feed.ensures.stands (all_new 2) c.in_ok-counters.ensures.stands));
      away = refl;
    }

pub call-requires-clause-here : goal.call-requires-clause-here
call-requires-clause-here g c =
    let two = c.feed-2.ensures.stands fed_one (c.feed.ensures.stands (all_new 2) c.in_ok-counters.ensures.stands) in
    record {
      blocks = one_back;
      had = one_had;
      stands = c.put_in.ensures.stands one_out one_had (c.take_out-part.ensures.stands fed_two two) (c.take_out-part.ensures.part fed_two one_had two refl);
      here = refl;
    }

pub feed-requires-3-clause-next : goal.feed-requires-3-clause-next
feed-requires-3-clause-next g c =
    let two = c.feed-2.ensures.stands fed_one (c.feed.ensures.stands (all_new 2) c.in_ok-counters.ensures.stands) in
    let back = c.put_in.ensures.stands one_out one_had (c.take_out-part.ensures.stands fed_two two) (c.take_out-part.ensures.part fed_two one_had two refl) in
    record {
      blocks = one_read;
      had = Did.Feed 0 ∷ Did.Call 0 0 ∷ [];
      stands = c.call.ensures.stands one_back back;
      here = refl;
      feeds = refl;
    }
