-- The most bytes that the character generator offers in its life.
use Rattle.std.specs.Prelude.{ℕ}

abbrev pub most_given : ℕ
most_given = 65535
