use Rattle.std.proofs.Common.{◌≡◌, [], ◌∷◌, length, length-append, slice_get, refl, ap, sym, ◌∙◌, subst, arith, rules}
use Rattle.shards.specs.Sharing.{ends_of, shared_of}
use Rattle.shard_rings.specs.Columns.{IsFinished}
use Rattle.shard_rings.proofs.Columns.{finished_by, get_last, none_taken, one_taken}
use Rattle.shard_rings.proofs.ending.finish.Goals as goal

pub cells-init : goal.cells-init
cells-init g c =
    record {
      so_far = none_taken c.args.column.now.items (ends_of c.args.shard);
      few = omega arith;
      rings = refl;
      origin = refl;
      merged = c.requires.merged;
      kept = refl;
    }

pub take_rest-requires-clause-lane : goal.take_rest-requires-clause-lane
take_rest-requires-clause-lane g c end is =
    let i = c.cells.invariant in
    let rest = c.pop.new.self.items in
    let more = ap length c.in-Some.ensures.items ∙ length-append rest (c.in-Some.cell ∷ []) in
    let n : c.len.result ≡ length rest = omega (arith, c.len.ensures, c.pop.new.self.ok) in
    let at : slice_get (ends_of c.cells.shard) (length rest) ≡ _ = ap (slice_get (ends_of c.cells.shard)) (sym n) ∙ is in
    c.requires.lanes.each (length rest) c.in-Some.cell end
    (sym (i.so_far.cells (length rest) (omega (arith, more))) ∙ (ap (λ l. slice_get l (length rest)) c.in-Some.ensures.items ∙ get_last rest c.in-Some.cell))
    (sym (i.so_far.same (length rest) (omega (arith, more))) ∙ at)

pub cells-preserved : goal.cells-preserved
cells-preserved g c =
    let i = c.cells.invariant in
    let rest = c.pop.new.self.items in
    let more = ap length c.in-Some.ensures.items ∙ length-append rest (c.in-Some.cell ∷ []) in
    let few = i.few in
    let n : c.len.result ≡ length rest = omega (arith, c.len.ensures, c.pop.new.self.ok) in
    let took = c.take_rest.ensures in
    record {
      so_far =
          one_taken c.args.column.now.items c.cells.column.items rest c.in-Some.cell (ends_of c.args.shard) (ends_of c.cells.shard) (ends_of c.take_rest.new.self) c.in-Some.ensures.items
          (rw (sym n) took.all) (rw (sym n) took.front) (rw (sym n) took.others) i.so_far;
      few = omega (arith, few, more);
      rings = took.rings ∙ i.rings;
      origin = took.origin ∙ i.origin;
      merged = took.merged i.merged;
      kept = c.pop.ensures.capacity ∙ i.kept;
    }

pub returns-clause-finished : goal.returns-clause-finished
returns-clause-finished g c =
    let i = c.cells.invariant in
    let r = c.cells.shard in
    let empty : c.cells.column.items ≡ [] = search rules in
    let z = ap length empty in
    let count : length (ends_of r) ≡ length c.args.column.now.items = r.many ∙ (i.rings ∙ c.requires.rings) in
    subst (IsFinished g.X.Shared.is_made c.args.column.now.items) (sym c.into_parts-shared.ensures.shared)
    (finished_by g.X.Shared.is_made c.args.column.now.items (ends_of r) (shared_of r) count (λ p d end at is. i.so_far.taken p d end (omega (arith, z)) at is) i.merged)
