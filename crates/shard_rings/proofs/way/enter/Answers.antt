use Rattle.std.proofs.Common.{arith, ◌<◌, ◌^◌}
use Rattle.shard_rings.proofs.Knowing.{entered, may_enter, waited}
use Rattle.shard_rings.proofs.way.enter.Goals as goal

pub enter_or_full-requires-clause-may : goal.enter_or_full-requires-clause-may
enter_or_full-requires-clause-may g c =
    let may = c.tries.invariant.may in
    may_enter g.R.Resident.limits c.args.way.now.squeue.now c.args.way.now.ring c.args.n may.0 c.tries.pass c.requires.serves c.requires.number may.1 may.2

pub returns-in-Ok : goal.returns-in-Ok
returns-in-Ok g c fed at =
    let e = c.in-Ok.ensures in
    entered g.R.Resident.limits c.args.way.now.squeue.now c.args.way.now.ring c.args.n fed c.tries.pass c.in-Ok.field-0.pass c.requires.serves e.brought e.entered.goes_on.is_pass e.entered.goes_on.same_number e.entered.idle
    (c.tries.invariant.keeps fed at)

pub tries-preserved : goal.tries-preserved
tries-preserved g c =
    let i = c.tries.invariant in
    let e = c.in-Err.ensures in
    let on = waited g.R.Resident.limits c.args.way.now.squeue.now c.args.way.now.ring c.args.n in
    record {
      may = (i.may.0, i.may.1, on i.may.0 c.tries.pass c.in-Err.back c.requires.serves c.requires.number i.may.1 e.brought e.more e.full.goes_on.same_number i.may.2);
      keeps = λ fed at. (
          let now = i.keeps fed at in
          let a = now.feeds in
          let b = i.may.2.feeds in
          let few = i.may.1 in
          let below : fed < 2 ^ 50 = omega (arith, a, b, few) in
          on fed c.tries.pass c.in-Err.back c.requires.serves c.requires.number below e.brought e.more e.full.goes_on.same_number now);
    }
