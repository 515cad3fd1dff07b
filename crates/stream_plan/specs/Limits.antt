-- The most streams of a plan: later ones don't fit.
use Rattle.std.specs.Prelude.{ℕ}

abbrev pub most_streams : ℕ
most_streams = 4096
