use Rattle.std.proofs.Common.{refl, sym}
use Rattle.std.proofs.lemmas.Option.{slice_get_read}
use Rattle.placed_parts.specs.Placing.{size_of}
use Rattle.shards.proofs.MergedMore.{merged_more, same_more}
use Rattle.shards.proofs.shard.ShardResident.feed.Goals as goal

pub returns-clause-stands : goal.returns-clause-stands
returns-clause-stands g c blocks stands =
    let r = c.args.self.now in
    let at = slice_get_read r.ends.items (size_of r.numbers) c.args.c c.index_mut.result.now (sym r.many) c.requires.range c.index_mut.ensures.value in (
      c.feed.ensures.stands blocks stands.0,
      merged_more g.X.Shared.is_made r.ends.items c.args.c c.index_mut.result.now c.take_next.new.end r.shared c.take_next.new.shared at c.take_next.ensures.took stands.1,
    )

pub invariant_of-self-clause-same : goal.invariant_of-self-clause-same
invariant_of-self-clause-same g c =
    let r = c.args.self.now in
    let at = slice_get_read r.ends.items (size_of r.numbers) c.args.c c.index_mut.result.now (sym r.many) c.requires.range c.index_mut.ensures.value in
    same_more r.first.value.items r.ends.items c.args.c c.index_mut.result.now c.take_next.new.end at c.take_next.ensures.same r.same

pub returns-clause-one : goal.returns-clause-one
returns-clause-one g c =
    let r = c.args.self.now in
    record {
      a = c.index_mut.result.now;
      b = c.take_next.new.end;
      its = slice_get_read r.ends.items (size_of r.numbers) c.args.c c.index_mut.result.now (sym r.many) c.requires.range c.index_mut.ensures.value;
      lane = c.take_next.ensures.same;
      others = refl;
      took = c.take_next.ensures.took;
    }
