use Rattle.std.proofs.Common.{◌≡◌, ◌+◌, drop, map}
use Rattle.std.specs.List.{position_or_len}
use Rattle.case_rows.specs.Files.{begins_field, numbered}
use Rattle.case_rows.proofs.reading.body_len.Given as goal

abbrev pub invariant-loop-line : goal.invariant-loop-line
invariant-loop-line l = (l.len ≡ l.line-index) × (position_or_len begins_field (map numbered l.lines) ≡ l.len + position_or_len begins_field (map numbered (drop l.line-index l.lines)))
