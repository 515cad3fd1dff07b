-- What an account stands for: the sums of all that was done to it.
use Rattle.std.specs.Prelude.{◌≡◌, ℕ, ◌+◌, ◌-◌, ◌*◌, ◌/◌, ◌%◌, ◌^◌, ◌≤◌, ◌==◌, if◌then◌else◌, List, [], ◌∷◌, length, map, min, slice_index_or, sum_by}
use Rattle.std.specs.List.{flat_map}
use Rattle.squeue.specs.declared.Act.{Act}
use Rattle.squeue.specs.declared.Act.TheVariants as Did
use Rattle.squeue.specs.Calls.{limits_for}
use Rattle.squeue.specs.Deeds.{fed}
use Rattle.squeue.specs.History.{Limits}
use Rattle.moving_bank.specs.declared.accounts.Account.{Account}
use Rattle.moving_bank.specs.declared.accounts.Bank.{Bank}
use Rattle.moving_bank.specs.declared.accounts.Transfer.{Transfer}

-- the greatest sum, and the greatest amount
abbrev pub most : ℕ
most = 2 ^ 64 - 1

abbrev pub most_amount : ℕ
most_amount = 2 ^ 32 - 1

abbrev pub deposits_of : Bank → List (List ℕ)
deposits_of b = map (λ row. row.items) b.deposits.now

abbrev pub transfers_of : Bank → List (List Transfer)
transfers_of b = map (λ row. row.items) b.transfers.now

-- the accounts of the two calls for a transfer: the one that the amount leaves, and then the one to which it comes
abbrev pub both_of : Transfer → List ℕ
both_of t = t.from ∷ t.to ∷ []

abbrev pub accounts_of : List Transfer → List ℕ
accounts_of row = flat_map both_of row

abbrev pub calls_of : List (List Transfer) → List (List ℕ)
calls_of transfers = map accounts_of transfers

-- transfer i of thread j; none where there isn't one
abbrev pub transfer_at : List (List Transfer) → ℕ → ℕ → Transfer
transfer_at transfers j i = slice_index_or (slice_index_or transfers j []) i record { from = 0; to = 0; amount = 0 }

-- what a call is worth, where the first one for a transfer is worth the one, and the second the other
abbrev pub worth : (Transfer → ℕ) → (Transfer → ℕ) → List (List Transfer) → ℕ → ℕ → ℕ
worth first second transfers j k = if k % 2 == 0 then first (transfer_at transfers j (k / 2)) else second (transfer_at transfers j (k / 2))

-- what an act adds to the two sums of an account with these deposits
abbrev pub credit_of : List ℕ → List (List Transfer) → Act → ℕ
credit_of row transfers (Did.Feed n) = slice_index_or row n 0
credit_of row transfers (Did.Call j k) = worth (λ t. 0) (λ t. t.amount) transfers j k

abbrev pub debit_of : List (List Transfer) → Act → ℕ
debit_of transfers (Did.Feed n) = 0
debit_of transfers (Did.Call j k) = worth (λ t. t.amount) (λ t. 0) transfers j k

abbrev pub row_of : List (List ℕ) → ℕ → List ℕ
row_of rows c = slice_index_or rows c []

-- its deposits were as many as there were feeds, its two sums are those of all acts, and none of these moved more than an amount can be
pub record HasBooked (k : Account) (had : List Act) : Type 0 where
  pub feeds : fed had ≡ k.had
  pub credit : k.sums.credit ≡ min most (sum_by (credit_of (row_of (deposits_of k.bank) k.number) (transfers_of k.bank)) had)
  pub debit : k.sums.debit ≡ min most (sum_by (debit_of (transfers_of k.bank)) had)
  pub small : sum_by (credit_of (row_of (deposits_of k.bank) k.number) (transfers_of k.bank)) had
      + sum_by (debit_of (transfers_of k.bank)) had ≤ most_amount * length had

-- an account is of its number, and of this bank
pub record IsPartOf (bank : Bank) (c : ℕ) (k : Account) : Type 0 where
  pub number : k.number ≡ c
  pub its_bank : k.bank ≡ bank

-- each account has a feed for each of its deposits, and may leave as often; and there are two calls for each transfer
abbrev pub limits_of : Bank → Limits
limits_of b = limits_for (map length (deposits_of b)) (calls_of (transfers_of b))
