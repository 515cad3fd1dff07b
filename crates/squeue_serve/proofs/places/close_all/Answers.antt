use Rattle.std.proofs.Common.{arith}
use Rattle.squeue_serve.specs.Places.{Holds, Became, MayClose, HasClosed}
use Rattle.squeue_serve.proofs.AtEach.{changed_none, changed_all, changed_length, changed_here, changed_on}
use Rattle.squeue_serve.proofs.places.close_all.Goals as goal

pub loop-q-init : goal.loop-q-init
loop-q-init g c = changed_none (λ s o. Holds (MayClose g.R.Resident.limits s) o) (λ s o n. Became (HasClosed g.R.Resident.limits s) o n) c.args.squeues.now c.args.places.now.items c.requires

pub index_mut-requires : goal.index_mut-requires
index_mut-requires g c =
    let n = changed_length (λ s o. Holds (MayClose g.R.Resident.limits s) o) (λ s o n. Became (HasClosed g.R.Resident.limits s) o n) c.loop-q.q c.args.squeues.now c.args.places.now.items c.loop-q.places.items c.loop-q.invariant in
    omega (arith, n, c.loop-q-test.true)

pub close_one-requires : goal.close_one-requires
close_one-requires g c =
    changed_here (λ s o. Holds (MayClose g.R.Resident.limits s) o) (λ s o n. Became (HasClosed g.R.Resident.limits s) o n) c.loop-q.q c.args.squeues.now c.args.places.now.items c.loop-q.places.items c.index-squeues-q.result c.index_mut.result.now c.loop-q-test.true c.index-squeues-q.is c.index_mut.ensures.value c.loop-q.invariant

pub loop-q-preserved : goal.loop-q-preserved
loop-q-preserved g c =
    changed_on (λ s o. Holds (MayClose g.R.Resident.limits s) o) (λ s o n. Became (HasClosed g.R.Resident.limits s) o n) c.loop-q.q c.args.squeues.now c.args.places.now.items c.loop-q.places.items c.index-squeues-q.result c.index_mut.result.now c.close_one.new.place c.loop-q-test.true c.index-squeues-q.is c.index_mut.ensures.value c.loop-q.invariant c.close_one.ensures

pub returns : goal.returns
returns g c =
    changed_all (λ s o. Holds (MayClose g.R.Resident.limits s) o) (λ s o n. Became (HasClosed g.R.Resident.limits s) o n) c.loop-q.q c.args.squeues.now c.args.places.now.items c.loop-q.places.items (omega (arith, c.loop-q-test.false, c.loop-q.auto.q-end)) c.loop-q.invariant
