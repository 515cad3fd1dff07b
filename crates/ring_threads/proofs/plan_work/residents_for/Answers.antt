use Rattle.std.proofs.Common.{◌≡◌, arith}
use Rattle.ring_threads.specs.Working.{IsFirst}
use Rattle.ring_threads.proofs.Each.{all_of_them, none_yet, one_more}
use Rattle.ring_threads.proofs.plan_work.residents_for.Goals as goal

pub loop-q-init : goal.loop-q-init
loop-q-init c =
    record {
      residents = rw c.in_ok-residents.ensures.items (none_yet (IsFirst c.args.plan.now c.args.calls.now c.args.setup.now));
      room = omega (arith, c.in_ok-residents.ensures.capacity);
    }

pub push_reserved-requires : goal.push_reserved-requires
push_reserved-requires c = omega (arith, c.loop-q.invariant.residents.count, c.loop-q.invariant.room, c.loop-q-test.true)

pub loop-q-preserved : goal.loop-q-preserved
loop-q-preserved c =
    let its : IsFirst c.args.plan.now c.args.calls.now c.args.setup.now c.loop-q.q c.in_ok-blocks.blocks = record { stands = c.in_ok-blocks.ensures.stands; size = c.in_ok-blocks.ensures.size; limits = c.in_ok-blocks.ensures.limits; origin = c.in_ok-blocks.ensures.origin } in
    record {
      residents = rw c.push_reserved.ensures.items (one_more (IsFirst c.args.plan.now c.args.calls.now c.args.setup.now) c.loop-q.q c.loop-q.residents.items c.in_ok-blocks.blocks c.loop-q.invariant.residents its);
      room = omega (arith, c.push_reserved.ensures.capacity, c.loop-q.invariant.room);
    }

pub returns : goal.returns
returns c =
    let all : c.loop-q.q ≡ c.args.setup.now.squeues = omega (arith, c.loop-q-test.false, c.loop-q.auto.q-end) in
    all_of_them (IsFirst c.args.plan.now c.args.calls.now c.args.setup.now) c.loop-q.q c.args.setup.now.squeues c.loop-q.residents.items all c.loop-q.invariant.residents
