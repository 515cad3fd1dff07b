-- The hints of a connection's segments, and what the walk from the back keeps.
use Rattle.std.specs.Prelude.{ℕ, ◌==◌, List, [], ◌∷◌, if◌then◌else◌, ◌≡◌}
use Rattle.conn_classifier.specs.Items.{hint, looked}
use Rattle.conn_classifier.specs.declared.kinds.Arrival.{Arrival}
use Rattle.conn_classifier.specs.declared.ahead.Ahead.{Ahead}
use Rattle.conn_classifier.specs.declared.ahead.Ahead.TheVariants as ahead

abbrev pub hints_of : List Arrival → List ℕ
hints_of [] = []
hints_of (a ∷ more) = hint a.seg more ∷ hints_of more

abbrev pub said : Ahead → ℕ → ℕ
said ahead.Nothing seq = 0
said (ahead.Acked iss) seq = iss
said (ahead.Syn other iss) seq = if other == seq then iss else 0

-- the later segments are these, as far as a hint can tell
abbrev pub IsAhead : Ahead → List Arrival → Type 0
IsAhead x more = (seq : ℕ) → said x seq ≡ looked seq more
