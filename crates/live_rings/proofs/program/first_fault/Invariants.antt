use Rattle.std.proofs.Common.{◌≡◌, drop, map}
use Rattle.live_rings.specs.Program.{first_fault}
use Rattle.live_rings.proofs.program.first_fault.Given as goal

-- the streams before this one have no fault
abbrev pub invariant-loop-stream : goal.invariant-loop-stream
invariant-loop-stream g l = first_fault (map (λ d. d.fault) l.ended) ≡ first_fault (map (λ d. d.fault) (drop l.stream-index l.ended))
