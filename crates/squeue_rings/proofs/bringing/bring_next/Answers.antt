use Rattle.std.proofs.Common.{◌+◌, ◌-◌, take, drop, ap, arith}
use Rattle.squeue_rings.proofs.Running.{next_far, next_ready}
use Rattle.squeue_rings.proofs.Slots.{part_is}
use Rattle.squeue_rings.proofs.bringing.bring_next.Goals as goal

pub bring_piece-requires-clause-ready : goal.bring_piece-requires-clause-ready
bring_piece-requires-clause-ready g c =
    let list = c.args.list.now in
    let n = c.args.end.now.popped in
    let first = c.pop_chain-first.result.0 in
    let k = c.pop_chain-first.result.1 in
    let ready = c.requires.ready in (
      ready.0,
      list,
      take n list,
      drop k (drop n list),
      next_ready g.R.Resident.limits c.args.pace.homes.squeues c.args.pace.homes.spread ready.0 list c.args.access.now.squeues.now n k c.args.places.now.items ready.1 (take (first + k - first) (drop first list)) (part_is list first n k c.pop_chain-first.ensures.first),
    )

pub returns-clause-ready : goal.returns-clause-ready
returns-clause-ready g c r far =
    let limits = g.R.Resident.limits in
    let sq = c.args.pace.homes.squeues in
    let sp = c.args.pace.homes.spread in
    let ss = c.args.access.now.squeues.now in
    let list = c.args.list.now in
    let n = c.args.end.now.popped in
    let first = c.pop_chain-first.result.0 in
    let k = c.pop_chain-first.result.1 in
    let piece = take (first + k - first) (drop first list) in
    let is = part_is list first n k c.pop_chain-first.ensures.first in
    let ready = next_ready limits sq sp r list ss n k c.args.places.now.items far piece is in
    next_far limits sq sp r list ss n k c.args.places.now.items far piece is c.pop_chain-first.new.end.popped c.bring_piece.new.places.items (ap (λ e. e.popped) c.pop_chain-first.ensures.popped) (omega (arith, c.pop_chain-first.ensures.capacity, c.requires.ring.1))
    (c.bring_piece.ensures.brought r list (take n list) (drop k (drop n list)) ready)

pub returns-clause-paced : goal.returns-clause-paced
returns-clause-paced g c r far before =
    let list = c.args.list.now in
    let n = c.args.end.now.popped in
    let first = c.pop_chain-first.result.0 in
    let k = c.pop_chain-first.result.1 in
    let piece = take (first + k - first) (drop first list) in
    c.bring_piece.ensures.paced r list (take n list) (drop k (drop n list))
    (next_ready g.R.Resident.limits c.args.pace.homes.squeues c.args.pace.homes.spread r list c.args.access.now.squeues.now n k c.args.places.now.items far piece (part_is list first n k c.pop_chain-first.ensures.first)) before
