-- Words of the search for the address that crowds a table: three candidates, and what speaks for each. No contract of another crate cites them.
use Rattle.std.specs.Prelude.{ℕ, ◌+◌, ◌==◌, nat_lt, ◌&&◌, ◌||◌, Bool, if◌then◌else◌}
use Rattle.live_server.specs.declared.crowding.Candidates.{Candidates}
use Rattle.live_server.specs.declared.crowding.Crowders.{Crowders}

abbrev pub has : ℕ → Candidates → Bool
has address s = (s.first.address.0 == address) || ((s.second.address.0 == address) || (s.third.address.0 == address))

-- what speaks for an address, by the first candidate of this name
abbrev pub weight : ℕ → Candidates → ℕ
weight address s =
    if s.first.address.0 == address then s.first.weight
    else if s.second.address.0 == address then s.second.weight
    else if s.third.address.0 == address then s.third.weight
    else 0

abbrev pub total : Candidates → ℕ
total s = s.first.weight + (s.second.weight + s.third.weight)

abbrev pub crowds : ℕ → Crowders → Bool
crowds address r = nat_lt 0 r.most && (weight address r.candidates == r.most)
