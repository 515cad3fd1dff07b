use Rattle.std.proofs.Common.{[], ◌∷◌, ◌++◌}
use Rattle.perimeter_core.specs.declared.entries.Act.TheVariants as Did
use Rattle.perimeter_core.specs.declared.entries.Entry.TheVariants as Entry'
use Rattle.perimeter_core.specs.declared.marks.SynchAct.TheVariants as Done
use Rattle.perimeter_core.specs.Blocks.{with_feeds, with_act}
use Rattle.perimeter_core.proofs.OneBlock.{after_feed, after_call}
use Rattle.trial_tests.proofs.machine.each_call.Goals as goal

pub call-requires-clause-here : goal.call-requires-clause-here
call-requires-clause-here g c =
    let f = c.requires.fresh in
    record {
      blocks = with_feeds (Entry'.Feed c.args.c 0 ∷ []) f.blocks;
      had = f.had ++ Did.Feed 0 ∷ [];
      stands = c.feed.ensures.stands f.blocks f.stands;
      here = after_feed f.blocks c.args.c 0 f.had f.here;
    }

pub take_out-part-requires-clause-here : goal.take_out-part-requires-clause-here
take_out-part-requires-clause-here g c =
    let f = c.requires.fresh in
    let fed = with_feeds (Entry'.Feed c.args.c 0 ∷ []) f.blocks in
    record {
      blocks = with_act (Done.Call c.args.c c.args.j c.args.k) [] fed;
      had = (f.had ++ Did.Feed 0 ∷ []) ++ Did.Call c.args.j c.args.k ∷ [];
      stands = c.call.ensures.stands fed (c.feed.ensures.stands f.blocks f.stands);
      here = after_call fed c.args.c c.args.j c.args.k (f.had ++ Did.Feed 0 ∷ []) (after_feed f.blocks c.args.c 0 f.had f.here);
    }
