use Rattle.std.proofs.Common.{◌<◌, length, subst}
use Rattle.std.proofs.lemmas.List.{length-map}
use Rattle.shards.specs.Sharing.{limits_for}
use Rattle.shard_rings.specs.Knowing.{came_of, sent_of}
use Rattle.shard_rings.proofs.Rows.{none_more, ready_beside, same_sent, set_same, some_more}
use Rattle.shard_rings.proofs.ring.RingLanesLanes.try_back.Goals as goal

pub returns-clause-ready : goal.returns-clause-ready
returns-clause-ready g c =
    let range : c.args.q < length c.args.self.now.cells.items = subst (λ n. c.args.q < n) (length-map c.args.self.now.cells.items sent_of) c.requires.range in
    ready_beside limits_for c.args.self.now.ring c.args.self.now.squeues.now c.args.self.now.places.items c.args.self.now.cells.items c.args.q c.requires.ready.0 range
    c.args.self.now.first.value.items c.requires.ready.1 c.index_mut.result.now c.pop_back.new.cell c.index_mut.ensures.value c.pop_back.ensures.same

pub returns-clause-none : goal.returns-clause-none
returns-clause-none g c =
    let range : c.args.q < length c.args.self.now.cells.items = subst (λ n. c.args.q < n) (length-map c.args.self.now.cells.items sent_of) c.requires.range in
    none_more came_of c.args.self.now.cells.items c.args.q c.index_mut.result.now c.pop_back.new.cell range c.index_mut.ensures.value c.pop_back.result c.pop_back.ensures.none

pub returns-clause-some : goal.returns-clause-some
returns-clause-some g c =
    let range : c.args.q < length c.args.self.now.cells.items = subst (λ n. c.args.q < n) (length-map c.args.self.now.cells.items sent_of) c.requires.range in
    some_more came_of c.args.self.now.cells.items c.args.q c.index_mut.result.now c.pop_back.new.cell range c.index_mut.ensures.value c.pop_back.result c.pop_back.ensures.some

pub returns-clause-sent : goal.returns-clause-sent
returns-clause-sent g c =
    let range : c.args.q < length c.args.self.now.cells.items = subst (λ n. c.args.q < n) (length-map c.args.self.now.cells.items sent_of) c.requires.range in
    set_same sent_of c.args.self.now.cells.items c.args.q c.index_mut.result.now c.pop_back.new.cell range c.index_mut.ensures.value
    (same_sent c.index_mut.result.now c.pop_back.new.cell c.pop_back.ensures.same)
