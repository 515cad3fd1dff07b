use Rattle.std.proofs.Common.{◌≡◌, refl, sym, subst, ◌∙◌, ap}
use Rattle.std.proofs.lemmas.Option.{slice_get_read, slice_get_within}
use Rattle.perimeter_core.proofs.ActLists.{get_other, get_same}
use Rattle.placed_parts.specs.Placing.{size_of}
use mathlib.Core.List.{IsPrefix}
use Rattle.rtrb.specs.Ring.{received, sent}
use Rattle.shards.proofs.MergedMore.{same_more, some_is}
use Rattle.shards.proofs.shard.Shard.take_rest.Goals as goal

pub take_all-requires : goal.take_all-requires
take_all-requires g c =
    let r = c.args.self.now in
    c.requires.lane c.index_mut.result.now (slice_get_read r.ends.items (size_of r.numbers) c.args.p c.index_mut.result.now (sym r.many) c.requires.range c.index_mut.ensures.value)

pub invariant_of-self-clause-same : goal.invariant_of-self-clause-same
invariant_of-self-clause-same g c =
    let r = c.args.self.now in
    let at = slice_get_read r.ends.items (size_of r.numbers) c.args.p c.index_mut.result.now (sym r.many) c.requires.range c.index_mut.ensures.value in
    same_more r.first.value.items r.ends.items c.args.p c.index_mut.result.now c.take_all.new.end at c.take_all.ensures.same r.same

pub returns-clause-all : goal.returns-clause-all
returns-clause-all g c end is =
    let r = c.args.self.now in
    let at = slice_get_read r.ends.items (size_of r.numbers) c.args.p c.index_mut.result.now (sym r.many) c.requires.range c.index_mut.ensures.value in
    let new : end ≡ c.take_all.new.end = some_is (sym is ∙ get_same r.ends.items c.args.p c.take_all.new.end (slice_get_within r.ends.items c.args.p c.index_mut.result.now at)) in
    ap (λ e. received e.input) new ∙ c.take_all.ensures.all

pub returns-clause-front : goal.returns-clause-front
returns-clause-front g c end is =
    let r = c.args.self.now in
    let at = slice_get_read r.ends.items (size_of r.numbers) c.args.p c.index_mut.result.now (sym r.many) c.requires.range c.index_mut.ensures.value in
    let new : end ≡ c.take_all.new.end = some_is (sym is ∙ get_same r.ends.items c.args.p c.take_all.new.end (slice_get_within r.ends.items c.args.p c.index_mut.result.now at)) in
    subst (λ e. IsPrefix (received c.args.ring.now.back) (sent e.back)) (sym new) c.take_all.ensures.front

pub returns-clause-others : goal.returns-clause-others
returns-clause-others g c q apart = get_other c.args.self.now.ends.items c.args.p q c.take_all.new.end (λ e. apart (sym e))

pub returns-clause-merged : goal.returns-clause-merged
returns-clause-merged g c =
    let r = c.args.self.now in
    let at = slice_get_read r.ends.items (size_of r.numbers) c.args.p c.index_mut.result.now (sym r.many) c.requires.range c.index_mut.ensures.value in
    c.take_all.ensures.merges r.ends.items at
