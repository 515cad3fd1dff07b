-- The lines that `sqrun` alone writes where it gives no output: those of a trace and of a CALL; `Words` has the usage line. The others are
-- those of `shell` under its name.
use Rattle.std.specs.Prelude.{ℕ, List, [], ◌++◌, codes}
use Rattle.std.specs.Fmt.{decimal}
use Rattle.shell.specs.Lines.{line}

-- the line of a trace that may have n marks
unfoldable pub many_marks_line : ℕ → List ℕ
many_marks_line n = codes "sqrun: too large: trace of " ++ (decimal n ++ line (codes " marks"))

-- the line of a CALL on connection c of n
unfoldable pub missing_line : ℕ → ℕ → List ℕ
missing_line c n = codes "sqrun: call on connection " ++ (decimal c ++ (codes " of " ++ (decimal n ++ line [])))
