use Rattle.std.proofs.Common.{◌≡◌, ◌++◌, ◌∷◌, [], arith}
use Rattle.perimeter_core.specs.declared.entries.Act.TheVariants as act
use Rattle.perimeter_core.specs.declared.entries.Entry.TheVariants as Entry'
use Rattle.perimeter_core.specs.Deeds.{fed}
use Rattle.perimeter_core.specs.Blocks.{with_feeds}
use Rattle.perimeter_core.proofs.OneBlock.{after_feed}
use Rattle.perimeter_core.proofs.NextFeed.{fed-append}
use Rattle.run_tests.proofs.blocks.feed_next.Goals as goal

pub returns-clause-next : goal.returns-clause-next
returns-clause-next g c =
    let f = c.requires.next in
    let n = c.args.n in
    record {
      blocks = with_feeds (Entry'.Feed 0 n ∷ []) f.blocks;
      had = f.had ++ act.Feed n ∷ [];
      stands = c.feed.ensures.stands f.blocks f.stands;
      here = after_feed f.blocks 0 n f.had f.here;
      feeds = (let one : fed (act.Feed n ∷ []) ≡ 1 = omega arith in omega (arith, fed-append f.had (act.Feed n ∷ []), one, f.feeds));
    }
