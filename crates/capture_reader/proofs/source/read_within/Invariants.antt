use Rattle.std.proofs.Common.{◌≡◌, ◌+◌, ◌-◌, ◌≤◌, length}
use Rattle.std.specs.Io.KnownBytes.{Consumes}
use Rattle.capture_reader.proofs.source.read_within.Given as goal

-- what was taken so far
abbrev pub invariant-loop-bytes : goal.invariant-loop-bytes
invariant-loop-bytes g l =
    record {
      taken : Consumes (g.S.Source.rest l.fn.src) (g.S.Source.rest l.src) l.bytes.items;
      small : length l.bytes.items ≤ l.most;
      kept : g.S.Source.read_faults l.src ≡ g.S.Source.read_faults l.fn.src;
    }

abbrev pub decreases-loop-bytes : goal.decreases-loop-bytes
decreases-loop-bytes g l = l.most + 1 - length l.bytes.items
