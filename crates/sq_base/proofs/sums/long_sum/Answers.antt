use Rattle.std.proofs.Common.{◌≡◌, ◌+◌, ◌*◌, ap, ◌∙◌, arith, ℕ}
use Rattle.sq_base.specs.InternetSum.{word_sum, reduced}
use Rattle.sq_base.proofs.SumLemmas.{turned-goes_on, word_sum-split}
use Rattle.sq_base.proofs.sums.long_sum.Goals as goal

pub loop-rest-preserved : goal.loop-rest-preserved
loop-rest-preserved c =
    let block = c.split_at.result.0.now in
    let others = c.split_at.result.1.now in
    let parts : word_sum block + word_sum others ≡ word_sum c.loop-rest.rest.now
    = omega (arith, ap word_sum c.split_at.ensures.front, ap word_sum c.split_at.ensures.back, word_sum-split 65536 32768 c.loop-rest.rest.now (omega arith)) in
    let next : reduced (256 * c.folded-sum.result + word_sum others) ≡ reduced (256 * c.loop-rest.sum + (word_sum block + word_sum others))
    = ap (λ (s : ℕ). reduced (256 * s + word_sum others)) c.folded-sum.ensures
    ∙ turned-goes_on c.loop-rest.sum (word_sum block) c.block_sum.result (word_sum others) c.block_sum.ensures in
    record {
      fits = omega (arith, c.folded-sum.type_inv);
      all = next ∙ (ap (λ (n : ℕ). reduced (256 * c.loop-rest.sum + n)) parts ∙ c.loop-rest.invariant.all);
    }
