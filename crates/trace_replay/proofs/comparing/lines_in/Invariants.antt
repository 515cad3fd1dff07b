use Rattle.std.proofs.Common.{◌≡◌, ◌+◌, ◌≤◌, drop}
use Rattle.trace_replay.specs.Reasons.{lines_in}
use Rattle.trace_replay.proofs.comparing.lines_in.Given as goal

abbrev pub invariant-loop-byte : goal.invariant-loop-byte
invariant-loop-byte l = record { counted : l.count + lines_in (drop l.byte-index l.text) ≡ lines_in l.text; few : l.count ≤ l.byte-index }
