use Rattle.std.proofs.Common.{◌∷◌, ◌++◌, [], Some, sym, subst, arith}
use Rattle.squeue_bench.specs.Places.{AtEach, MayBring}
use Rattle.squeue_bench.proofs.Places.{at_more}
use Rattle.squeue_bench.proofs.Starting.{new_may}
use Rattle.squeue_bench.proofs.runs.give.Goals as goal

pub returns : goal.returns
returns g c =
    let lim = g.R.Resident.limits in
    let old = c.requires.ring in
    let feeds = c.args.ring.now.feeds.items in
    let P = MayBring lim c.args.bound c.args.k feeds in
    let may = new_may lim c.args.bound c.args.items c.args.squeue.now c.args.k c.args.pass feeds c.requires.squeue c.requires.pass.0 c.requires.pass.1 old.row in
    record {
      row = old.row;
      places = subst (AtEach P (c.args.squeues.now ++ c.args.squeue.now ∷ [])) (sym c.push_reserved.ensures.items) (at_more P c.args.squeues.now c.args.squeue.now c.args.ring.now.passes.items (Some c.args.pass) old.places may);
      room = omega (arith, old.room, c.push_reserved.ensures.capacity);
    }
