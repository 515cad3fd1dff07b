use Rattle.std.proofs.Common.{◌≡◌, [], length, map}
use Rattle.case_rows.specs.Files.{begins, fit_rows, fit_to_come, groups, numbered, rows_in, to_come}
use Rattle.case_rows.proofs.reading.rows_among.Given as goal

abbrev pub invariant-loop-rest : goal.invariant-loop-rest
invariant-loop-rest l = (to_come l.reader (map numbered l.rest) ≡ rows_in [] (groups begins (map numbered l.lines))) × (fit_to_come l.reader (map numbered l.rest) ≡ fit_rows [] [] (groups begins (map numbered l.lines)))

abbrev pub decreases-loop-rest : goal.decreases-loop-rest
decreases-loop-rest l = length l.rest
