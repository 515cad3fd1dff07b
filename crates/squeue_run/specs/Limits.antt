-- The most marks that a traced run may make. How many calls there are is a limit of `conn_blocks`, the numbers of a setup are those of `ring_quotas`.
use Rattle.std.specs.Prelude.{ℕ}

abbrev pub most_marks : ℕ
most_marks = 67108864
