use Rattle.std.proofs.Common.{◌∙◌, drop, length-set, arith}
use Rattle.squeue_bench.specs.Places.{MayBring}
use Rattle.squeue_bench.proofs.Places.{begun, next, read, at_all}
use Rattle.squeue_bench.proofs.threads.bring_to_each.Goals as goal

pub loop-q-init : goal.loop-q-init
loop-q-init g c = record { as_many = c.requires.passes.as_many; places = begun _ _ c.args.passes.now (λ q o l s. c.requires.passes.each q s o (omega (arith, l, c.requires.passes.as_many))) }

pub loop-q-preserved : goal.loop-q-preserved
loop-q-preserved g c =
    let i = c.loop-q.invariant in
    record {
      as_many = length-set c.loop-q.passes c.loop-q.q c.bring.new.place ∙ i.as_many;
      places = next _ _ c.loop-q.passes c.loop-q.q c.bring.new.place i.places (omega (arith, c.loop-q-test.true, i.as_many)) (read (MayBring g.R.Resident.limits c.args.way.bound c.args.k (drop c.args.chain c.args.rest.now)) c.args.squeues.now c.loop-q.q c.index-squeues-q.result c.bring.new.place c.loop-q-test.true c.index-squeues-q.is c.bring.ensures);
    }

pub returns : goal.returns
returns g c = at_all (MayBring g.R.Resident.limits c.args.way.bound c.args.k (drop c.args.chain c.args.rest.now)) _ c.args.squeues.now c.loop-q.q c.loop-q.passes c.loop-q.invariant.places c.loop-q.invariant.as_many c.loop-q-test.false
