use Rattle.std.proofs.Common.{◌≡◌, ◌++◌, length}
use Rattle.std.specs.Prelude.{bytes_eq}
use Rattle.percent_encoding.specs.Percent.{percent_decode}
use Rattle.percent_encoding.specs.Iter.{decoded_bytes}
use Rattle.http_pages.proofs.pages.is_path_of.Given as goal

abbrev pub invariant-loop-byte : goal.invariant-loop-byte
invariant-loop-byte l = bytes_eq l.rest (decoded_bytes l.bytes ++ l.end) ≡ bytes_eq l.fn.path (percent_decode l.fn.escaped ++ l.fn.end)

abbrev pub decreases-loop-byte : goal.decreases-loop-byte
decreases-loop-byte l = length (decoded_bytes l.bytes)
