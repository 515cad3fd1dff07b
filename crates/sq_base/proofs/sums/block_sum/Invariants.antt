use Rattle.std.proofs.Common.{◌≡◌, ◌+◌, ◌*◌, ◌≤◌, length}
use Rattle.sq_base.specs.InternetSum.{word_sum, reduced}
use Rattle.sq_base.proofs.sums.block_sum.Given as goal

-- the sum so far with the rest is the sum of the block, and what the rest adds has room
abbrev pub invariant-loop-rest : goal.invariant-loop-rest
invariant-loop-rest l =
    record {
      room : l.sum + 1073741824 * length l.rest ≤ 65535 + 70368744177664;
      all : reduced (256 * l.sum + word_sum l.rest) ≡ reduced (256 * l.start + word_sum l.block);
    }

abbrev pub decreases-loop-rest : goal.decreases-loop-rest
decreases-loop-rest l = length l.rest
