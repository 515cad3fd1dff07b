use Rattle.std.proofs.Common.{refl, subst}
use Rattle.perimeter_core.specs.declared.marks.SynchAct.TheVariants as Done
use Rattle.perimeter_core.specs.Blocks.{with_act}
use Rattle.perimeter_core.proofs.ActLists.{here_of_feeds}
use Rattle.run_tests.proofs.blocks.move_over.Goals as goal

pub take_out-part-requires-clause-here : goal.take_out-part-requires-clause-here
take_out-part-requires-clause-here g c = here_of_feeds _ 0 2 c.requires.here

pub put_in-requires-clause-owner : goal.put_in-requires-clause-owner
put_in-requires-clause-owner g c = subst (λ o. g.R.Resident.is_part_of o 0 c.take_out-part.result) c.requires.origin c.take_out-part.ensures.owner

pub returns-clause-here : goal.returns-clause-here
returns-clause-here g c =
    let f = c.requires.here in
    let a = c.requires.away in
    record {
      blocks = with_act (Done.In 0) f.had a.blocks;
      had = f.had;
      stands = c.put_in.ensures.stands a.blocks f.had a.stands (c.take_out-part.ensures.part f.blocks f.had f.stands f.here);
      here = refl;
      feeds = f.feeds;
    }
