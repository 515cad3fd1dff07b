use Rattle.std.proofs.Common.{◌<◌, [], ◌∷◌, length, subst}
use Rattle.std.proofs.lemmas.List.{length-map}
use Rattle.shards.specs.Sharing.{limits_for}
use Rattle.shard_rings.specs.Knowing.{came_of, sent_of}
use Rattle.shard_rings.proofs.Rows.{known_at, ready_set, set_more, set_same}
use Rattle.shard_rings.proofs.ring.RingLanesLanes.back.Goals as goal

pub back_in-requires-clause-known : goal.back_in-requires-clause-known
back_in-requires-clause-known g c =
    let range : c.args.q < length c.args.self.now.cells.items = subst (λ n. c.args.q < n) (length-map c.args.self.now.cells.items sent_of) c.requires.range in
    known_at limits_for c.args.self.now.ring c.args.self.now.squeues.now c.args.self.now.places.items c.args.self.now.cells.items c.args.q c.requires.ready.0 range c.index-self-q.result
    c.index_mut.result.now c.index_mut-2.result.now c.index_mut.ensures.value c.index_mut-2.ensures.value

pub returns-clause-ready : goal.returns-clause-ready
returns-clause-ready g c =
    let range : c.args.q < length c.args.self.now.cells.items = subst (λ n. c.args.q < n) (length-map c.args.self.now.cells.items sent_of) c.requires.range in
    ready_set limits_for c.args.self.now.ring c.args.self.now.squeues.now c.args.self.now.places.items c.args.self.now.cells.items c.args.q c.requires.ready.0 range c.args.self.now.first.value.items
    c.requires.ready.1 c.index_mut-2.result.now c.back_in.new.cell c.index_mut-2.ensures.value c.index-self-q.result c.back_in.new.place c.back_in.ensures.known c.back_in.ensures.end

pub returns-clause-back : goal.returns-clause-back
returns-clause-back g c =
    let range : c.args.q < length c.args.self.now.cells.items = subst (λ n. c.args.q < n) (length-map c.args.self.now.cells.items sent_of) c.requires.range in
    set_more came_of c.args.self.now.cells.items c.args.q c.index_mut-2.result.now c.back_in.new.cell range c.index_mut-2.ensures.value (c.back_in.result ∷ []) c.back_in.ensures.back

pub returns-clause-sent : goal.returns-clause-sent
returns-clause-sent g c =
    let range : c.args.q < length c.args.self.now.cells.items = subst (λ n. c.args.q < n) (length-map c.args.self.now.cells.items sent_of) c.requires.range in
    set_same sent_of c.args.self.now.cells.items c.args.q c.index_mut-2.result.now c.back_in.new.cell range c.index_mut-2.ensures.value c.back_in.ensures.sent
