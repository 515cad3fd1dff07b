use Rattle.std.proofs.Common.{◌≡◌, ◌<◌, ◌^◌, ◌++◌, length}
use Rattle.std.specs.Fmt.{decimal}
use Rattle.trace_lines.proofs.Numbers.{scan}
use Rattle.trace_lines.proofs.fields.more_digits.Given as goal

-- the digits that were read are those of the value, and the others will be read behind it
abbrev pub invariant-loop-rest : goal.invariant-loop-rest
invariant-loop-rest l = (0 < l.value) × (l.value < 2 ^ 64) × (decimal l.value ++ l.rest ≡ decimal l.fn.value ++ l.fn.text) × (scan l.value l.rest ≡ scan l.fn.value l.fn.text)

abbrev pub decreases-loop-rest : goal.decreases-loop-rest
decreases-loop-rest l = length l.rest
