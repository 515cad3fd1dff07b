use Rattle.std.proofs.Common.{◌≡◌, take}
use Rattle.case_rows.specs.Wanted.{check_of}
use Rattle.case_rows.proofs.wanted.check_of.Given as goal

abbrev pub invariant-loop-byte : goal.invariant-loop-byte
invariant-loop-byte l = l.check ≡ check_of (take l.byte-index l.bytes)
