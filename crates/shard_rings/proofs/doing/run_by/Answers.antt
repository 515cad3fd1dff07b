use Rattle.std.proofs.Common.{length, map, sym, subst}
use Rattle.std.proofs.lemmas.List.{length-map}
use Rattle.shards.specs.Sharing.{limits_for}
use Rattle.shard_rings.specs.Knowing.{came_of, sent_of}
use Rattle.shard_rings.specs.Rows.{SameEnds}
use Rattle.shard_rings.proofs.Beginning.{all_nothing, known_first, same_ends}
use Rattle.shard_rings.proofs.doing.run_by.Goals as goal

pub bring-requires-clause-ready : goal.bring-requires-clause-ready
bring-requires-clause-ready g c =
    let cells = c.args.ring.cells.items in
    (known_first limits_for c.args.squeues.now c.args.places.items c.args.ring c.requires.ready, subst (λ first. SameEnds first.items cells) (sym c.of-first.ensures) (same_ends cells))

pub bring-requires-clause-sent : goal.bring-requires-clause-sent
bring-requires-clause-sent g c =
    let cells = c.args.ring.cells.items in
    all_nothing sent_of cells (length (map sent_of cells)) (length-map cells sent_of) (λ q x is. (c.requires.ready.new q x is).0)

pub bring-requires-clause-back : goal.bring-requires-clause-back
bring-requires-clause-back g c =
    let cells = c.args.ring.cells.items in
    all_nothing came_of cells (length (map sent_of cells)) (length-map cells sent_of) (λ q x is. (c.requires.ready.new q x is).1)
