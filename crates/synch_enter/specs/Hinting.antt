-- What contracts see of the hints.
use Rattle.std.specs.Prelude.{ℕ, vec_len}
use Rattle.synch_enter.specs.declared.hints.Hints.{Hints}

-- how many connections have a hint, and how many squeues there are
abbrev pub conns_of : Hints → ℕ
conns_of h = vec_len h.words

abbrev pub squeues_of : Hints → ℕ
squeues_of h = h.squeues
