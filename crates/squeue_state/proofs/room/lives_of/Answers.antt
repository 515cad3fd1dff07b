use Rattle.std.proofs.Common.{◌∙◌, ap, refl, length, arith}
use Rattle.histories.specs.declared.quota.Quota.{Quota}
use Rattle.squeue_state.specs.Behind.{ever}
use Rattle.squeue_state.proofs.RoomMade.{lives_next}
use Rattle.squeue_state.proofs.room.lives_of.Goals as goal

pub loop-quota-preserved : goal.loop-quota-preserved
loop-quota-preserved c =
    let d : Quota = record { feeds = 0; asks = 0 } in
    record {
      lives = ap ever c.push_reserved.ensures.items ∙ lives_next c.loop-quota.lives.items _ c.args.quotas.now c.loop-quota.quota-index d c.loop-quota-test.true c.loop-quota.invariant.lives c.from.ensures refl;
      many = omega (arith, ap length c.push_reserved.ensures.items, c.loop-quota.invariant.many);
      room = omega (arith, c.push_reserved.ensures.capacity, c.loop-quota.invariant.room);
    }
