use Rattle.std.proofs.Common.{sym, subst}
use Rattle.shards.specs.Sharing.{limits_for}
use Rattle.shard_rings.specs.Rows.{AreKnown}
use Rattle.shard_rings.proofs.Closing.{all_fed, all_may_close, closed_count}
use Rattle.shard_rings.proofs.doing.bring.Goals as goal

pub close_all-requires : goal.close_all-requires
close_all-requires g c =
    let cells = c.run_by-done.result.0.cells.items in
    all_may_close limits_for c.args.ring.number c.args.squeues.now c.replace-empty.new.dest.items cells
    (subst (λ lent. AreKnown limits_for c.args.ring.number c.args.squeues.now lent.items cells) (sym c.replace-empty.ensures.after) c.run_by-done.ensures.known)

pub returns : goal.returns
returns g c =
    let cells = c.run_by-done.result.0.cells.items in
    let known = subst (λ lent. AreKnown limits_for c.args.ring.number c.args.squeues.now lent.items cells) (sym c.replace-empty.ensures.after) c.run_by-done.ensures.known in
    record {
      number = c.run_by-done.ensures.number;
      did = c.run_by-done.ensures.did;
      ends = c.run_by-done.ensures.ends;
      count = closed_count limits_for c.args.ring.number c.args.squeues.now c.replace-empty.new.dest.items cells known c.close_all.new.places.items c.close_all.ensures;
      fed = all_fed limits_for c.args.ring.number c.args.squeues.now c.replace-empty.new.dest.items cells known c.close_all.new.places.items c.close_all.ensures;
    }
