use Rattle.std.proofs.Common.{◌≡◌, ◌∷◌, ◌++◌, [], length, length-append, map, reverse, ap, ◌∙◌, arith, rules}
use Rattle.std.proofs.lemmas.List.{append-nil, length-map}
use Rattle.squeue_serve.specs.Lending.{tasks_in}
use Rattle.shard_rings.specs.declared.run.RingTask.{RingTask}
use Rattle.shard_rings.specs.Columns.{rings_in}
use Rattle.shard_rings.proofs.Apart.{kept_all, kept_more, rings_more}
use Rattle.shard_rings.proofs.Finishing.{all_before}
use Rattle.shard_rings.proofs.ending.take_apart.Goals as goal

pub jobs-init : goal.jobs-init
jobs-init g c =
    let a = ap length c.requires.empty.0 in
    let b = ap length c.requires.empty.1 in
    record {
      rings = ap (λ l. map (λ (t : RingTask g.row.B.Denot g.row.P.Denot). t.bringer) (rings_in (tasks_in c.args.jobs.items)) ++ reverse l) c.requires.empty.0 ∙ append-nil (map (λ (t : RingTask g.row.B.Denot g.row.P.Denot). t.bringer) (rings_in (tasks_in c.args.jobs.items)));
      rows = ap (λ l. map (λ (t : RingTask g.row.B.Denot g.row.P.Denot). t.cells) (rings_in (tasks_in c.args.jobs.items)) ++ reverse l) c.requires.empty.1 ∙ append-nil (map (λ (t : RingTask g.row.B.Denot g.row.P.Denot). t.cells) (rings_in (tasks_in c.args.jobs.items)));
      places = c.requires.places;
      room = omega (arith, a, c.requires.room.0);
      row_room = omega (arith, b, c.requires.room.1);
    }

pub keep-requires : goal.keep-requires
keep-requires g c =
    let i = c.jobs.invariant in
    let n = rings_more c.pop.new.self.items c.jobs.jobs.items c.in-Some.job c.in-Some.ensures.items in
    let a = i.room in
    let b = i.row_room in
    record { room = (omega (arith, n, a), omega (arith, n, b)) }

pub jobs-preserved : goal.jobs-preserved
jobs-preserved g c =
    let i = c.jobs.invariant in
    let split = c.in-Some.ensures.items in
    let left = c.pop.new.self.items in
    let n = rings_more left c.jobs.jobs.items c.in-Some.job split in
    let a = i.room in
    let b = i.row_room in
    let rings = c.keep.ensures.rings in
    let rows = c.keep.ensures.rows in
    let m = ap length rings ∙ length-append c.jobs.brought.rings.items (map (λ (t : RingTask g.row.B.Denot g.row.P.Denot). t.bringer) (rings_in (c.in-Some.job.task ∷ []))) in
    let k = ap length rows ∙ length-append c.jobs.brought.rows.items (map (λ (t : RingTask g.row.B.Denot g.row.P.Denot). t.cells) (rings_in (c.in-Some.job.task ∷ []))) in
    let m2 = length-map (rings_in (c.in-Some.job.task ∷ [])) (λ t. t.bringer) in
    let k2 = length-map (rings_in (c.in-Some.job.task ∷ [])) (λ t. t.cells) in
    record {
      rings = ap (λ l. map (λ (t : RingTask g.row.B.Denot g.row.P.Denot). t.bringer) (rings_in (tasks_in left)) ++ reverse l) rings ∙ kept_more (λ t. t.bringer) _ c.jobs.brought.rings.items left c.jobs.jobs.items c.in-Some.job split i.rings;
      rows = ap (λ l. map (λ (t : RingTask g.row.B.Denot g.row.P.Denot). t.cells) (rings_in (tasks_in left)) ++ reverse l) rows ∙ kept_more (λ t. t.cells) _ c.jobs.brought.rows.items left c.jobs.jobs.items c.in-Some.job split i.rows;
      places = all_before (λ j. j.places.items ≡ []) c.jobs.jobs.items left c.in-Some.job split i.places;
      room = omega (arith, n, a, m, m2, c.keep.ensures.capacity.0);
      row_room = omega (arith, n, b, k, k2, c.keep.ensures.capacity.1);
    }

pub returns-clause-rings : goal.returns-clause-rings
returns-clause-rings g c =
    let empty : c.jobs.jobs.items ≡ [] = search rules in
    c.reverse.ensures.items ∙ kept_all (λ t. t.bringer) _ c.jobs.brought.rings.items c.jobs.jobs.items empty c.jobs.invariant.rings

pub returns-clause-rows : goal.returns-clause-rows
returns-clause-rows g c =
    let empty : c.jobs.jobs.items ≡ [] = search rules in
    c.reverse-2.ensures.items ∙ kept_all (λ t. t.cells) _ c.jobs.brought.rows.items c.jobs.jobs.items empty c.jobs.invariant.rows
