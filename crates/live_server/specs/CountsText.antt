-- What a server tells its host: a line for each number, with its name, a space, and the number in decimal.
use Rattle.std.specs.Prelude.{ℕ, Bool, List, ◌∷◌, [], ◌++◌, codes}
use Rattle.std.specs.List.{flat_map}
use Rattle.std.specs.Fmt.{decimal}
use Rattle.tcb_machine.specs.BlockState.{one_if}
use Rattle.live_server.specs.declared.counts.Counts.{Counts}

unfoldable pub count_line : List ℕ × ℕ → List ℕ
count_line c = c.0 ++ (codes " " ++ (decimal c.1 ++ codes "\n"))

abbrev pub counts_text : List (List ℕ × ℕ) → List ℕ
counts_text cs = flat_map count_line cs

-- what is counted, by its name: datagrams; who took a place, and who lost it; what became of segments; what memory and a path let pass
abbrev pub datagram_counts : Counts → List (List ℕ × ℕ)
datagram_counts n = (codes "passed_over", n.passed_over) ∷ (codes "pinged", n.pinged) ∷ (codes "astray", n.astray) ∷ (codes "refused", n.refused) ∷ []

abbrev pub place_counts : Counts → List (List ℕ × ℕ)
place_counts n = (codes "opened", n.opened) ∷ (codes "turned_away", n.turned_away) ∷ (codes "gave_way", n.gave_way) ∷ (codes "left", n.left) ∷ []

abbrev pub segment_counts : Counts → List (List ℕ × ℕ)
segment_counts n = (codes "challenges", n.challenges) ∷ (codes "unanswered", n.unanswered) ∷ (codes "late", n.late) ∷ (codes "urgent", n.urgent) ∷ []

abbrev pub limit_counts : Counts → List (List ℕ × ℕ)
limit_counts n = (codes "over_full", n.over_full) ∷ (codes "shortened", n.shortened) ∷ []

-- what routers say of segments, and who left at that
abbrev pub reach_counts : Counts → List (List ℕ × ℕ)
reach_counts n =
    (codes "unreachable", n.unreachable) ∷ (codes "port_unreachable", n.port_unreachable) ∷ (codes "prohibited", n.prohibited) ∷ (codes "unreached", n.unreached)
    ∷ []

abbrev pub header_counts : Counts → List (List ℕ × ℕ)
header_counts n = (codes "time_exceeded", n.time_exceeded) ∷ (codes "parameter_problem", n.parameter_problem) ∷ []

abbrev pub named_counts : Counts → List (List ℕ × ℕ)
named_counts n = datagram_counts n ++ (place_counts n ++ (segment_counts n ++ (limit_counts n ++ (reach_counts n ++ header_counts n))))

-- how many connections there are, and how many of them may be half open; how many bytes all hold; whether the server drains
abbrev pub state_counts : ℕ → ℕ → ℕ → Bool → List (List ℕ × ℕ)
state_counts connections waiting held draining =
    (codes "connections", connections) ∷ (codes "waiting", waiting) ∷ (codes "held", held) ∷ (codes "draining", one_if draining) ∷ []
