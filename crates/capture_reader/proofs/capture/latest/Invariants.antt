use Rattle.std.proofs.Common.{◌≡◌, ℕ, max, take}
use Rattle.std.specs.Prelude.{fold}
use Rattle.capture_reader.specs.declared.capture.Record.{Record}
use Rattle.capture_reader.proofs.capture.latest.Given as goal

-- the greatest time so far
abbrev pub invariant-loop-record : goal.invariant-loop-record
invariant-loop-record l = l.latest ≡ fold (λ (latest : ℕ) (r : Record). max latest r.at) 0 (take l.record-index l.records)
