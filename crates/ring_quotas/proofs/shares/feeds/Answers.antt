use Rattle.std.proofs.Common.{arith}
use Rattle.ring_quotas.proofs.Moving.{feeds_elsewhere, feeds_most, feeds_there}
use Rattle.ring_quotas.proofs.shares.feeds.Goals.{then-c-homes, else-c-homes}
use Rattle.ring_quotas.proofs.shares.feeds.Goals as goal

pub overflow_mul-result : goal.overflow_mul-result
overflow_mul-result c =
    let s = c.args.homes.squeues in
    let p = c.args.homes.spread in
    let most = feeds_most s p c.args.c c.args.q c.args.items c.requires.squeue c.requires.items.0 in
    elim c.if-c-homes.branch [
      | then-c-homes w ↦ let e = feeds_there s p c.args.c c.args.q c.args.items c.requires.squeue c.requires.items.0 c.leaving.result c.moves-moves.result c.if-c-homes.last c.leaving.ensures.value c.moves-moves.ensures w.if-c-homes.true w.last-is in omega (arith, e, most, c.requires.items.1)
      | else-c-homes w ↦ let e = feeds_elsewhere s p c.args.c c.args.q c.args.items c.requires.squeue c.requires.items.0 c.leaving.result c.moves-moves.result c.if-c-homes.last c.leaving.ensures.value c.moves-moves.ensures w.if-c-homes.false w.last-is in omega (arith, e, most, c.requires.items.1)
    ]

pub overflow_add-result : goal.overflow_add-result
overflow_add-result c =
    let s = c.args.homes.squeues in
    let p = c.args.homes.spread in
    let most = feeds_most s p c.args.c c.args.q c.args.items c.requires.squeue c.requires.items.0 in
    elim c.if-c-homes.branch [
      | then-c-homes w ↦ let e = feeds_there s p c.args.c c.args.q c.args.items c.requires.squeue c.requires.items.0 c.leaving.result c.moves-moves.result c.if-c-homes.last c.leaving.ensures.value c.moves-moves.ensures w.if-c-homes.true w.last-is in omega (arith, e, most, c.requires.items.1)
      | else-c-homes w ↦ let e = feeds_elsewhere s p c.args.c c.args.q c.args.items c.requires.squeue c.requires.items.0 c.leaving.result c.moves-moves.result c.if-c-homes.last c.leaving.ensures.value c.moves-moves.ensures w.if-c-homes.false w.last-is in omega (arith, e, most, c.requires.items.1)
    ]

pub returns-clause-value : goal.returns-clause-value
returns-clause-value c =
    let s = c.args.homes.squeues in
    let p = c.args.homes.spread in
    elim c.if-c-homes.branch [
      | then-c-homes w ↦ feeds_there s p c.args.c c.args.q c.args.items c.requires.squeue c.requires.items.0 c.leaving.result c.moves-moves.result c.if-c-homes.last c.leaving.ensures.value c.moves-moves.ensures w.if-c-homes.true w.last-is
      | else-c-homes w ↦ feeds_elsewhere s p c.args.c c.args.q c.args.items c.requires.squeue c.requires.items.0 c.leaving.result c.moves-moves.result c.if-c-homes.last c.leaving.ensures.value c.moves-moves.ensures w.if-c-homes.false w.last-is
    ]

pub returns-clause-most : goal.returns-clause-most
returns-clause-most c =
    let s = c.args.homes.squeues in
    let p = c.args.homes.spread in
    let most = feeds_most s p c.args.c c.args.q c.args.items c.requires.squeue c.requires.items.0 in
    elim c.if-c-homes.branch [
      | then-c-homes w ↦ let e = feeds_there s p c.args.c c.args.q c.args.items c.requires.squeue c.requires.items.0 c.leaving.result c.moves-moves.result c.if-c-homes.last c.leaving.ensures.value c.moves-moves.ensures w.if-c-homes.true w.last-is in omega (arith, e, most)
      | else-c-homes w ↦ let e = feeds_elsewhere s p c.args.c c.args.q c.args.items c.requires.squeue c.requires.items.0 c.leaving.result c.moves-moves.result c.if-c-homes.last c.leaving.ensures.value c.moves-moves.ensures w.if-c-homes.false w.last-is in omega (arith, e, most)
    ]
