-- Two accounts written out: one has two deposits, the other one; the first sends the second an amount, and gets a part of it back.
use Rattle.std.specs.Prelude.{ℕ, List, [], ◌∷◌}
use Rattle.moving_bank.specs.declared.accounts.Statement.{Statement}
use Rattle.moving_bank.specs.declared.accounts.Transfer.{Transfer}

abbrev pub deposits : List (List ℕ)
deposits = (5 ∷ 7 ∷ []) ∷ (3 ∷ []) ∷ []

-- each by a thread of its own
abbrev pub transfers : List (List Transfer)
transfers = (record { from = 0; to = 1; amount = 4 } ∷ []) ∷ (record { from = 1; to = 0; amount = 1 } ∷ []) ∷ []

abbrev pub statements : List Statement
statements = record { credit = 13; debit = 4 } ∷ record { credit = 7; debit = 1 } ∷ []
