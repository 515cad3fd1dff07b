use Rattle.std.proofs.Common.{◌≡◌, ◌+◌, ◌<◌, length}
use Rattle.sq_base.specs.InternetSum.{word_sum, reduced}
use Rattle.sq_base.proofs.sums.short_sum.Given as goal

-- the sum so far with the rest is the sum of all
abbrev pub invariant-loop-rest : goal.invariant-loop-rest
invariant-loop-rest l =
    record {
      fits : l.sum < 65536;
      all : reduced (l.sum + word_sum l.rest) ≡ reduced (l.start + word_sum l.bytes);
    }

abbrev pub decreases-loop-rest : goal.decreases-loop-rest
decreases-loop-rest l = length l.rest
