use Rattle.std.proofs.Common.{◌≡◌, ℕ, ◌≤◌, length}
use Rattle.pcapng_reader.specs.Options.{first_resolution}
use Rattle.pcapng_reader.proofs.interface.resolution.Given as goal

-- the first resolution of what is left is that of all
abbrev pub invariant-loop-rest : goal.invariant-loop-rest
invariant-loop-rest l = (n : ℕ) × (length l.rest ≤ n) × (first_resolution n l.order l.rest ≡ first_resolution (length l.options) l.order l.options)

abbrev pub decreases-loop-rest : goal.decreases-loop-rest
decreases-loop-rest l = length l.rest
