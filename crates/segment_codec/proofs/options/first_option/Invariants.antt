use Rattle.std.proofs.Common.{◌≡◌, length}
use Rattle.segment_codec.specs.Options.{first_option}
use Rattle.segment_codec.proofs.options.first_option.Given as goal

-- the options that are left have the same first one
abbrev pub invariant-loop-rest : goal.invariant-loop-rest
invariant-loop-rest l = first_option l.kind l.size l.rest ≡ first_option l.kind l.size l.options

abbrev pub decreases-loop-rest : goal.decreases-loop-rest
decreases-loop-rest l = length l.rest
