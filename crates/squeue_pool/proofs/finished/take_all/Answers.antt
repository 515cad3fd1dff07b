use Rattle.std.proofs.Common.{◌≡◌, ◌+◌, ℕ, suc, subst, arith}
use Rattle.squeue_pool.proofs.Taking.{TakenBelow, all_taken, left_after, none_taken, one_taken}
use Rattle.squeue_pool.proofs.finished.take_all.Goals as goal

pub loop-c-init : goal.loop-c-init
loop-c-init g c = none_taken g.R.Resident c.args.resident c.args.places.now.items

pub take_one-requires-clause-range : goal.take_one-requires-clause-range
take_one-requires-clause-range g c = omega (arith, c.loop-c-test.true, c.conns-c-end.ensures, c.requires.size, c.loop-c.invariant.count)

pub take_one-requires-clause-size : goal.take_one-requires-clause-size
take_one-requires-clause-size g c = omega (arith, c.requires.size, c.loop-c.invariant.size, c.loop-c.invariant.count)

pub take_one-requires-clause-stands : goal.take_one-requires-clause-stands
take_one-requires-clause-stands g c = (left_after c.loop-c.c c.requires.stands.0, c.loop-c.invariant.stands c.requires.stands.0 c.requires.stands.1)

pub loop-c-preserved : goal.loop-c-preserved
loop-c-preserved g c =
    let more = one_taken g.R.Resident c.args.resident c.args.places.now.items c.loop-c.c c.loop-c.resident c.take_one.new.resident c.loop-c.places.items c.take_one.new.places.items c.loop-c.invariant
    c.take_one.ensures.part c.take_one.ensures.others c.take_one.ensures.count c.take_one.ensures.stands c.take_one.ensures.size c.take_one.ensures.origin in
    let e : suc c.loop-c.c ≡ c.loop-c.c + 1 = omega arith in
    subst (λ (n : ℕ). TakenBelow g.R.Resident c.args.resident c.args.places.now.items n c.take_one.new.resident c.take_one.new.places.items) e more

pub returns : goal.returns
returns g c =
    all_taken g.R.Resident c.args.resident c.args.places.now.items c.loop-c.c c.loop-c.resident c.loop-c.places.items (omega (arith, c.loop-c-test.false, c.conns-c-end.ensures, c.requires.size)) c.loop-c.invariant
