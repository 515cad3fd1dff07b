use Rattle.std.proofs.Common.{◌+◌, ◌-◌, take, drop, arith}
use Rattle.squeue_rings.proofs.Running.{last_far, next_ready}
use Rattle.squeue_rings.proofs.Slots.{part_is}
use Rattle.squeue_rings.proofs.bringing.bring_last.Goals as goal

pub bring_rest-requires-clause-ready : goal.bring_rest-requires-clause-ready
bring_rest-requires-clause-ready g c =
    let list = c.args.list.now in
    let n = c.args.end.now.popped in
    let first = c.cleanup-first.result.0 in
    let k = c.cleanup-first.result.1 in
    let ready = c.requires.ready in (
      ready.0,
      list,
      take n list,
      drop k (drop n list),
      next_ready g.R.Resident.limits c.args.pace.homes.squeues c.args.pace.homes.spread ready.0 list c.args.access.now.squeues.now n k c.args.places.now.items ready.1 (take (first + k - first) (drop first list)) (part_is list first n k c.cleanup-first.ensures.first),
    )

pub returns : goal.returns
returns g c =
    let limits = g.R.Resident.limits in
    let sq = c.args.pace.homes.squeues in
    let sp = c.args.pace.homes.spread in
    let ss = c.args.access.now.squeues.now in
    let list = c.args.list.now in
    let n = c.args.end.now.popped in
    let first = c.cleanup-first.result.0 in
    let k = c.cleanup-first.result.1 in
    let piece = take (first + k - first) (drop first list) in
    let is = part_is list first n k c.cleanup-first.ensures.first in
    record {
      ready = λ r far.
          let ready = next_ready limits sq sp r list ss n k c.args.places.now.items far piece is in
          last_far limits sq sp r list ss n k c.args.places.now.items far piece is c.bring_rest.new.places.items (omega (arith, c.cleanup-first.ensures.count, c.requires.ring.1)) (c.bring_rest.ensures.brought r list (take n list) (drop k (drop n list)) ready);
      paced = λ r far before.
          c.bring_rest.ensures.paced r list (take n list) (drop k (drop n list)) (next_ready limits sq sp r list ss n k c.args.places.now.items far piece is) before;
    }
