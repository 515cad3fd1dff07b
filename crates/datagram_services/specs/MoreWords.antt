-- The words of `sqmore`: four options, and no CALL. A stream stays at its squeue, so there is no spread.
use Rattle.std.specs.Prelude.{ℕ, false, List, [], ◌∷◌, Option, Some, codes, option_map, option_and_then}
use Rattle.ring_quotas.specs.Limits.{most_budget, most_rings, most_squeues}
use Rattle.ring_quotas.specs.declared.setup.Setup.{Setup}
use Rattle.histories.specs.declared.mode.Mode.{Mode}
use Rattle.histories.specs.ModeWords.{mode_of, mode_words}
use Rattle.shell.specs.declared.asked.NoCall.{NoCall}
use Rattle.shell.specs.Asked.{AskedOf, GivenOf, asked, no_call, number_for, text_for}
use Rattle.shell.specs.Table.{TableOf, Text, number, row, text}
use Rattle.datagram_services.specs.RefusalLines.{sqmore}

abbrev pub sqmore_table : TableOf
sqmore_table = record {
  program = sqmore;
  options =
      row (codes "squeues") (number 1 most_squeues (Some 1))
      ∷ row (codes "rings") (number 1 most_rings (Some 1))
      ∷ row (codes "mode") (text mode_words (Some (codes "process")))
      ∷ row (codes "budget") (number 1 most_budget (Some 64))
      ∷ [];
  most_calls = 0;
}

-- the setup that the options name: without spread, and without trace
abbrev pub setup_by : Option ℕ → Option ℕ → Option Mode → Option ℕ → Option Setup
setup_by squeues rings mode budget =
    option_and_then (λ q. option_and_then (λ r. option_and_then (λ m. option_map (λ b.
    record { squeues = q; rings = r; mode = m; budget = b; spread = 0; trace = false }) budget) mode) rings) squeues

abbrev pub setup_of : List GivenOf → Option Setup
setup_of gs =
    setup_by (number_for (codes "squeues") gs) (number_for (codes "rings") gs) (option_and_then mode_of (text_for (codes "mode") gs))
    (number_for (codes "budget") gs)

abbrev pub setup_asked : AskedOf NoCall → Option Setup
setup_asked a = setup_of a.givens

-- the setup that the words name, where they aren't refused
unfoldable pub more_setup : List Text → Option Setup
more_setup words = option_and_then setup_asked (asked no_call sqmore_table words)
