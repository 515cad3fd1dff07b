use Rattle.std.proofs.Common.{◌≡◌, List, [], ◌∷◌, length, length-append, reverse, refl, ap, sym, ◌∙◌, subst, arith}
use Rattle.std.proofs.lemmas.List.{reverse-append}
use Rattle.squeue_state.specs.Naming.{Named}
use Rattle.squeue_serve.specs.Lending.{AreLent, lent_to}
use Rattle.squeue_serve.specs.Places.{MayEnd}
use Rattle.squeue_serve.proofs.Coming.{none_lent_at_all}
use Rattle.squeue_serve.proofs.Lent.{none_lent_to}
use Rattle.squeue_pool.specs.declared.work.Left.{Left}
use Rattle.squeue_pool.proofs.Back.{SoFar, all_back, none_back, one_back}
use Rattle.shard_rings.proofs.ending.gather.Goals as goal

pub squeues-init : goal.squeues-init
squeues-init g c =
    let z = ap length c.requires.empty in
    record {
      so_far = none_back g.R.Resident 0 c.args.count c.args.squeues.now.all.items (lent_to c.args.jobs.now.items) (reverse c.args.left.now.items) (ap reverse c.requires.empty) c.requires.lent;
      rooms = c.requires.rooms.0;
      each_room = c.requires.rooms.1;
      jobs = refl;
      free = omega (arith, z, c.requires.room);
    }

pub squeues-preserved : goal.squeues-preserved
squeues-preserved g c =
    let some = c.in-Some.ensures.some in
    let rest = c.end_last.new.squeues.all.items in
    let old = c.squeues.left in
    let v : Left g.row.R.Denot = record { resident = c.in-Some.resident; end = c.in-Some.end; trace = c.in-Some.trace } in
    let turned : reverse c.push_reserved.new.self.items ≡ v ∷ reverse old.items = ap reverse c.push_reserved.ensures.items ∙ reverse-append old.items (v ∷ []) in
    let more = ap length c.push_reserved.ensures.items ∙ length-append old.items (v ∷ []) in
    let less = ap length some.1 ∙ length-append rest (some.0 ∷ []) in
    record {
      so_far = subst (SoFar g.R.Resident 0 c.args.count c.args.squeues.now.all.items (lent_to c.args.jobs.now.items) rest (lent_to c.end_last.new.jobs.items)) (sym turned)
          (one_back g.R.Resident 0 c.args.count c.args.squeues.now.all.items (lent_to c.args.jobs.now.items) c.squeues.squeues.all.items rest some.0 (lent_to c.squeues.jobs.items) (lent_to c.end_last.new.jobs.items) (reverse old.items)
          v some.1 c.squeues.invariant.so_far some.2);
      rooms = c.end_last.ensures.rooms.0;
      each_room = c.end_last.ensures.rooms.1;
      jobs = c.end_last.ensures.tasks ∙ c.squeues.invariant.jobs;
      free = omega (arith, more, less, c.push_reserved.ensures.capacity, c.squeues.invariant.free);
    }

pub returns-clause-back : goal.returns-clause-back
returns-clause-back g c =
    let same = c.in_default.ensures.same in
    let still = subst (λ (l : List (Named g.row.R.Denot)). AreLent (MayEnd g.R.Resident.limits) 0 c.args.count l (lent_to c.squeues.jobs.items)) same.0 c.squeues.invariant.so_far.are.still in
    none_lent_to _ (λ i. ap (λ l. lent_to l i) same.1 ∙ none_lent_at_all (MayEnd g.R.Resident.limits) 0 c.args.count (lent_to c.squeues.jobs.items) still i)

pub returns-clause-left : goal.returns-clause-left
returns-clause-left g c =
    all_back g.R.Resident 0 c.args.count c.args.squeues.now.all.items (lent_to c.args.jobs.now.items) c.squeues.squeues.all.items (lent_to c.squeues.jobs.items) (reverse c.squeues.left.items) c.in_default.ensures.same.0
    c.squeues.invariant.so_far
