-- Statements: what came into each account and what went out, by its deposits and by all transfers.
use Rattle.std.specs.Prelude.{ℕ, ◌+◌, ◌==◌, if◌then◌else◌, List, length, map, sum, sum_by}
use Rattle.std.specs.List.{range_with_len}
use Rattle.moving_bank.specs.declared.accounts.Statement.{Statement}
use Rattle.moving_bank.specs.declared.accounts.Transfer.{Transfer}
use Rattle.moving_bank.specs.Booking.{row_of}

-- what all transfers bring to account c, and what they take from it
abbrev pub received : List (List Transfer) → ℕ → ℕ
received transfers c = sum_by (sum_by (λ t. if t.to == c then t.amount else 0)) transfers

abbrev pub sent : List (List Transfer) → ℕ → ℕ
sent transfers c = sum_by (sum_by (λ t. if t.from == c then t.amount else 0)) transfers

abbrev pub statement_of : List (List ℕ) → List (List Transfer) → ℕ → Statement
statement_of deposits transfers c = record { credit = sum (row_of deposits c) + received transfers c; debit = sent transfers c }

abbrev pub statements_of : List (List ℕ) → List (List Transfer) → List Statement
statements_of deposits transfers = map (statement_of deposits transfers) (range_with_len 0 (length deposits))
