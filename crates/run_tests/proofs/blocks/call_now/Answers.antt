use Rattle.std.proofs.Common.{◌++◌, ◌∷◌, [], arith}
use Rattle.perimeter_core.specs.declared.entries.Act.TheVariants as act
use Rattle.perimeter_core.specs.declared.marks.SynchAct.TheVariants as Done
use Rattle.perimeter_core.specs.Blocks.{with_act}
use Rattle.perimeter_core.proofs.ActLists.{here_of_feeds}
use Rattle.perimeter_core.proofs.OneBlock.{after_call}
use Rattle.perimeter_core.proofs.NextFeed.{fed-append}
use Rattle.run_tests.proofs.blocks.call_now.Goals as goal

pub call-requires-clause-here : goal.call-requires-clause-here
call-requires-clause-here g c = here_of_feeds _ 0 c.args._n c.requires.here

pub returns-clause-here : goal.returns-clause-here
returns-clause-here g c =
    let f = c.requires.here in
    let j = c.args.j in
    let k = c.args.k in
    record {
      blocks = with_act (Done.Call 0 j k) [] f.blocks;
      had = f.had ++ act.Call j k ∷ [];
      stands = c.call.ensures.stands f.blocks f.stands;
      here = after_call f.blocks 0 j k f.had f.here;
      feeds = omega (arith, fed-append f.had (act.Call j k ∷ []), f.feeds);
    }
