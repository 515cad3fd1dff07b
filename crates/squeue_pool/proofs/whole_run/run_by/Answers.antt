use Rattle.std.proofs.Common.{◌≡◌, ℕ, ◌+◌, length, map, reverse, refl, sym, subst, arith}
use Rattle.std.proofs.lemmas.List.{length-map}
use Rattle.std.proofs.lemmas.Result.{IfOk-weaker}
use Rattle.histories.specs.Quotas.{pairs}
use Rattle.squeue_serve.specs.Lending.{lent_to}
use Rattle.squeue_serve.proofs.Lent.{none_lent_to}
use Rattle.synch_enter.specs.Hinting.{conns_of}
use Rattle.squeue_rings.proofs.Starts.{from_ok}
use Rattle.squeue_pool.specs.Leftovers.{HaveLeft}
use Rattle.squeue_pool.specs.AllJobs.{AllDone, MayRun}
use Rattle.squeue_pool.specs.Works.{AreFor, SuitSqueues, work_by}
use Rattle.squeue_pool.specs.Runs.{HasRun}
use Rattle.squeue_pool.proofs.Ready.{may_run}
use Rattle.squeue_pool.proofs.Whole.{has_run}
use Rattle.squeue_pool.proofs.whole_run.run_by.Goals as goal

pub make_all-made-requires-clause-pool : goal.make_all-made-requires-clause-pool
make_all-made-requires-clause-pool g c =
    let callers = length c.args.means.calls.items in
    let n = length-map c.args.means.calls.items (λ v. v.items) in
    (callers, c.requires.pool, omega (arith, c.len.ensures, c.args.means.calls.ok), subst (SuitSqueues g.R.Resident c.args.pool.now c.args.residents.items (map (λ v. pairs v.items) c.args.quotas.now)) n c.requires.work.squeues)

pub run_or_end-requires-clause-may : goal.run_or_end-requires-clause-may
run_or_end-requires-clause-may g c κs within =
    let w = work_by (conns_of c.args.means.hints) c.args.residents.items c.args.quotas.now c.args.means.intakes.items c.args.means.calls.items in
    IfOk-weaker c.make_all-made.result _ _ (λ _ made. subst (λ ss. MayRun g.R.Resident c.args.pool.now c.args.means.intakes.items w.calls ss (conns_of c.args.means.hints)) (sym c.as_slice.ensures.value)
    (may_run g.R.Resident c.args.pool.now w c.requires.work c.make_all-made.new.squeues.all.items made c.args.means.intakes.items refl (conns_of c.args.means.hints) refl)) c.make_all-made.ensures.made

pub discard-requires : goal.discard-requires
discard-requires g c = none_lent_to c.gather.new.jobs.items c.gather.ensures.back

pub returns : goal.returns
returns g c =
    let w = work_by (conns_of c.args.means.hints) c.args.residents.items c.args.quotas.now c.args.means.intakes.items c.args.means.calls.items in
    let p = c.args.pool.now in
    let ss = c.make_all-made.new.squeues.all.items in
    let lent = lent_to c.run_or_end.new.jobs.items in
    let n = length-map c.args.means.calls.items (λ v. v.items) in
    let made = from_ok (λ _. AreFor g.R.Resident p c.args.residents.items (map (λ v. pairs v.items) c.args.quotas.now) ss) c.make_all-made.result c.in_ok-made.field-0 c.in_ok-made.was c.make_all-made.ensures.made in
    let done = from_ok (λ _. AllDone g.R.Resident p c.args.means.intakes.items (map (λ v. v.items) c.args.means.calls.items) c.as_slice.result.now lent) c.make_all-made.result c.in_ok-made.field-0 c.in_ok-made.was c.run_or_end.ensures.done in
    let counted : p.rings + c.len.result ≡ p.rings + length w.calls = omega (arith, c.len.ensures, c.args.means.calls.ok, n) in
    let back = subst (λ (k : ℕ). HaveLeft g.R.Resident 1 k lent ss (reverse c.gather.new.left.items)) counted c.gather.ensures.left in
    subst (HasRun g.R.Resident p w) (sym c.reverse.ensures.items)
    (has_run g.R.Resident p w c.requires.work c.requires.pool.0 ss made c.args.means.intakes.items refl lent (subst (λ ss. AllDone g.R.Resident p c.args.means.intakes.items w.calls ss lent) c.as_slice.ensures.value done) (reverse c.gather.new.left.items) back)
