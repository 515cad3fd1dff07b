use Rattle.std.proofs.Common.{None, Some, arith}
use Rattle.segment_codec.proofs.SumLemmas.{sum_next}
use Rattle.segment_codec.proofs.writing.sum_options.Goals as goal
use Rattle.segment_codec.proofs.writing.sum_options.Goals.{in-Some, in_default}

pub loop-word-preserved : goal.loop-word-preserved
loop-word-preserved c =
    let words = c.args.words.now in
    let i = c.loop-word.word-index in
    let sum = c.loop-word.invariant.0 in
    let small = c.loop-word.invariant.1 in
    elim c.match-word.branch [
      | in-Some w ↦
          let next = sum_next words i (Some w.in-Some.word) c.loop-word-test.true w.in-Some.is in
          (omega (arith, w.sum-is, w.halves-sum.ensures.is, sum, next), omega (arith, w.sum-is, w.halves-sum.ensures.small, small))
      | in_default w ↦
          let next = sum_next words i None c.loop-word-test.true w.in_default.is in
          (omega (arith, w.sum-is, sum, next), omega (arith, w.sum-is, small))
    ]
