use Rattle.std.proofs.Common.{◌≡◌, ℕ, ◌+◌, Some, List, [], ◌∷◌, length, map, refl, sym, subst, arith}
use Rattle.std.proofs.lemmas.List.{length-map}
use Rattle.turn_gate.specs.declared.pass.Pass.{Pass}
use Rattle.perimeter_core.specs.History.{Element}
use Rattle.squeue_serve.specs.Lending.{lent_to}
use Rattle.squeue_rings.specs.Ends.{WorkerEnds}
use Rattle.squeue_rings.proofs.Finished.{caller_done, caller_kept, lent_back, ring_done, ring_paced, worker_left}
use Rattle.squeue_rings.proofs.Ready.{all_ready}
use Rattle.squeue_pool.proofs.all_jobs.run_new.Goals as goal

pub run_all-requires-clause-run : goal.run_all-requires-clause-run
run_all-requires-clause-run g c κs within = c.requires.may.one

pub run_all-requires-clause-hints : goal.run_all-requires-clause-hints
run_all-requires-clause-hints g c κs within = (c.requires.may.below, c.requires.hints)

pub run_all-requires-clause-intakes : goal.run_all-requires-clause-intakes
run_all-requires-clause-intakes g c κs within = c.requires.tasks.have

pub run_all-requires-clause-ready : goal.run_all-requires-clause-ready
run_all-requires-clause-ready g c κs within =
    let p = c.args.pool.now in
    let callers = length c.args.calls.now.items in
    let calls : List (List ℕ) = map (λ v. v.items) c.args.calls.now.items in
    let may = c.requires.may in
    let n = length-map c.args.calls.now.items (λ v. v.items) in
    all_ready p.rings callers (p.rings + callers) p.pace.homes.squeues refl c.args.intakes.now.items c.args.jobs.now c.requires.tasks g.R.Resident.limits g.R.Resident.origin p.pace.homes.spread calls c.args.access.now.squeues.now
    may.one p.pace.homes.some c.requires.lent may.rings_same may.starts (λ r l lt is. may.bring r l is) (omega (arith, n)) may.short (λ j lt. may.make j)

pub returns-clause-done : goal.returns-clause-done
returns-clause-done g c =
    let p = c.args.pool.now in
    let m = g.R.Resident.limits in
    let callers = length c.args.calls.now.items in
    let calls : List (List ℕ) = map (λ v. v.items) c.args.calls.now.items in
    let ss = c.args.access.now.squeues.now in
    let intakes = c.args.intakes.now.items in
    let jobs = c.args.jobs.now in
    let new = c.run_all.new.jobs in
    let n = length-map c.args.calls.now.items (λ v. v.items) in
    record {
      rings_end = ring_done m p.pace.homes.squeues p.pace.homes.spread p.pace.mode p.pace.budget calls intakes ss jobs new p.rings callers (p.rings + callers) refl c.requires.may.one.count c.requires.tasks c.requires.lent c.run_all.auto.jobs c.run_all.ensures;
      paced = ring_paced m p.pace.homes.squeues p.pace.homes.spread p.pace.mode p.pace.budget calls intakes ss jobs new p.rings callers (p.rings + callers) refl c.requires.may.one.count c.requires.tasks c.requires.lent c.run_all.auto.jobs c.run_all.ensures;
      callers_end = λ j lt. caller_done m p.pace.homes.squeues p.pace.homes.spread p.pace.mode p.pace.budget calls intakes ss jobs new p.rings callers (p.rings + callers) refl c.requires.may.one.count c.requires.tasks c.requires.lent c.run_all.auto.jobs c.run_all.ensures j
          (omega (arith, lt, n));
      callers_keep = λ j lt. caller_kept m p.pace.homes.squeues p.pace.homes.spread p.pace.mode p.pace.budget calls intakes ss jobs new p.rings callers (p.rings + callers) refl c.requires.may.one.count c.requires.tasks c.requires.lent c.run_all.auto.jobs c.run_all.ensures j
          (omega (arith, lt, n));
      workers_end = λ q s at. subst (λ (k : ℕ). (x : Pass Element) × (lent_to new (1 + (p.rings + k) + q) ≡ Some x ∷ []) × WorkerEnds m (p.rings + k) s x) (sym n)
          (worker_left m p.pace.homes.squeues p.pace.homes.spread p.pace.mode p.pace.budget calls intakes ss jobs new p.rings callers (p.rings + callers) refl c.requires.may.one.count c.requires.tasks c.requires.lent c.run_all.auto.jobs c.run_all.ensures q s at);
    }

pub returns-clause-lent : goal.returns-clause-lent
returns-clause-lent g c =
    let p = c.args.pool.now in
    let callers = length c.args.calls.now.items in
    let calls : List (List ℕ) = map (λ v. v.items) c.args.calls.now.items in
    lent_back g.R.Resident.limits p.pace.homes.squeues p.pace.homes.spread p.pace.mode p.pace.budget calls c.args.intakes.now.items c.args.access.now.squeues.now c.args.jobs.now c.run_all.new.jobs p.rings callers (p.rings + callers) refl
    c.requires.may.one.count c.requires.tasks c.requires.lent c.run_all.auto.jobs c.run_all.ensures c.requires.may.rings_same
