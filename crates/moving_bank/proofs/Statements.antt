-- From accounts that had all to their statements.
use Rattle.std.proofs.Common.{◌≡◌, ℕ, zero, suc, ◌+◌, ◌*◌, ◌/◌, ◌%◌, ◌≤◌, ◌^◌, ◌==◌, Bool, true, false, if◌then◌else◌, Some, List, [], ◌∷◌, Vec, length, map, sum, get_or, slice_get, slice_index, slice_index_or, refl, ap, sym, ◌∙◌, subst, arith}
use Rattle.std.specs.Prelude.{All, sum_by}
use Rattle.std.specs.Option.{option_map_or}
use Rattle.std.specs.declared.alloc.Global.{Global}
use Rattle.std.proofs.lemmas.List.Elements.{All-head, All-tail}
use Rattle.std.proofs.lemmas.List.Sums.{sum_by-cons}
use Rattle.std.proofs.lemmas.Simd.{map-map}
use Rattle.squeue.specs.declared.Act.{Act}
use Rattle.squeue.specs.Backlog.{up}
use Rattle.squeue.specs.Calls.{HadAll, HadBoth, HaveHadAll}
use Rattle.squeue.specs.Finishing.{FinishedOf}
use Rattle.squeue.proofs.ActSums.{row_more, row_none, row_sum, sum_of_all, sum_of_items, table_more, table_none, table_sum}
use Rattle.squeue.proofs.Rows.{index_few, lengths_of, limit_is}
use Rattle.moving_bank.specs.contracts.accounts.BankParts.TheImpl.{ghosts}
use Rattle.moving_bank.specs.declared.accounts.Account.{Account}
use Rattle.moving_bank.specs.declared.accounts.Bank.{Bank}
use Rattle.moving_bank.specs.declared.accounts.Transfer.{Transfer}
use Rattle.moving_bank.specs.Booking.{HasBooked, IsPartOf, accounts_of, calls_of, credit_of, debit_of, deposits_of, most, row_of, transfers_of, worth}
use Rattle.moving_bank.specs.Settling.{received, sent, statement_of}
use Rattle.moving_bank.proofs.BankSteps.{next_half, same_side}

-- what all calls on account c are worth together, where the first one for a transfer is worth the one, and the second the other
module _ (c : ℕ) (first second : Transfer → ℕ) where
  abbrev none : Transfer
  none = record { from = 0; to = 0; amount = 0 }

  abbrev at_row : List Transfer → ℕ → ℕ
  at_row row k = if k % 2 == 0 then first (slice_index_or row (k / 2) none) else second (slice_index_or row (k / 2) none)

  abbrev on_account : Transfer → ℕ
  on_account t = (if t.from == c then first t else 0) + (if t.to == c then second t else 0)

  on_row : (row : List Transfer) → row_sum (λ k. option_map_or (λ d. if d == c then at_row row k else 0) (slice_get (accounts_of row) k) 0) (accounts_of row) ≡ sum_by on_account row
  on_row [] = row_none (λ k. 0)
  on_row (t ∷ row) =
      let f : ℕ → ℕ = λ k. option_map_or (λ d. if d == c then at_row (t ∷ row) k else 0) (slice_get (t.from ∷ t.to ∷ accounts_of row) k) 0 in
      let one = row_more f t.from (t.to ∷ accounts_of row) in
      let two = row_more (λ k. f (suc k)) t.to (accounts_of row) in
      let later : row_sum (λ k. f (suc (suc k))) (accounts_of row) ≡ sum_by on_account row =
      (λ i. row_sum (λ k. option_map_or (λ d. if d == c then (if same_side k i == 0 then first (slice_index_or (t ∷ row) (next_half k i) none) else second (slice_index_or (t ∷ row) (next_half k i) none)) else 0)
      (slice_get (accounts_of row) k) 0) (accounts_of row))
      ∙ on_row row in
      let all = sum_by-cons on_account t row in
      omega (arith, one, two, later, all)

  pub on_table : (transfers : List (List Transfer))
      → table_sum (λ j k. option_map_or (λ d. if d == c then worth first second transfers j k else 0) (slice_get (get_or (calls_of transfers) j []) k) 0) (calls_of transfers)
      ≡ sum_by (sum_by on_account) transfers
  on_table [] = table_none (λ j k. 0)
  on_table (row ∷ transfers) =
      table_more (λ j k. option_map_or (λ d. if d == c then worth first second (row ∷ transfers) j k else 0) (slice_get (get_or (calls_of (row ∷ transfers)) j []) k) 0)
      (accounts_of row) (calls_of transfers)
      ∙ ((λ i. on_row row i + on_table transfers i) ∙ sym (sum_by-cons (sum_by on_account) row transfers))

pub zeros : {X : Type 0} (xs : List X) → sum_by (λ (x : X). 0) xs ≡ 0
zeros {X} [] = refl
zeros {X} (x ∷ xs) = let both = sum_by-cons (λ (x : X). 0) x xs in let rest = zeros xs in omega (arith, both, rest)

ones : {X : Type 0} (xs : List X) → sum_by (λ (x : X). 1) xs ≡ length xs
ones {X} [] = refl
ones {X} (x ∷ xs) = let both = sum_by-cons (λ (x : X). 1) x xs in let rest = ones xs in omega (arith, both, rest)

length_up : (a n : ℕ) → length (up a n) ≡ n
length_up a zero = refl
length_up a (suc n) = ap suc (length_up (suc a) n)

none_first : (b : Bool) (n : ℕ) → (if b then 0 else 0) + n ≡ n
none_first true n = omega arith
none_first false n = omega arith

none_last : (b : Bool) (n : ℕ) → n + (if b then 0 else 0) ≡ n
none_last true n = omega arith
none_last false n = omega arith

-- how many calls there are on account c
abbrev times : ℕ → Transfer → ℕ
times c t = (if t.from == c then 1 else 0) + (if t.to == c then 1 else 0)

one_call : (b : Bool) → ◌≡◌ {A = ℕ} 1 (if b then 1 else 1)
one_call true = refl
one_call false = refl

one_twice : (c : ℕ) (t : Transfer) → times c t ≤ 2
one_twice c t = by (t.from == c) (t.to == c)
  where
    by : (a b : Bool) → (if a then 1 else 0) + (if b then 1 else 0) ≤ 2
    by true true = omega arith
    by true false = omega arith
    by false true = omega arith
    by false false = omega arith

row_twice : (c : ℕ) (row : List Transfer) → sum_by (times c) row ≤ 2 * length row
row_twice c [] = omega arith
row_twice c (t ∷ row) =
    let all = sum_by-cons (times c) t row in
    let one = one_twice c t in
    let rest = row_twice c row in
    omega (arith, all, one, rest)

table_few : (c : ℕ) (transfers : List (List Transfer)) → All (λ row. length row ≤ 2 ^ 11) transfers → sum_by (sum_by (times c)) transfers ≤ 4096 * length transfers
table_few c [] few = omega arith
table_few c (row ∷ transfers) few =
    let all = sum_by-cons (sum_by (times c)) row transfers in
    let one = row_twice c row in
    let here : length row ≤ 2 ^ 11 = All-head (λ (row : List Transfer). length row ≤ 2 ^ 11) row transfers few in
    let rest = table_few c transfers (All-tail (λ (row : List Transfer). length row ≤ 2 ^ 11) row transfers few) in
    omega (arith, all, one, here, rest)

-- an account that has had all its deposits and all its calls
module _ (Stands : List Act → Type 0) (row : List ℕ) (transfers : List (List Transfer)) (c feeds : ℕ) (h : HadBoth Stands feeds (calls_of transfers) c) where
  came : feeds ≡ length row → sum_by (credit_of row transfers) h.had ≡ sum row + received transfers c
  came e =
      sum_of_all (credit_of row transfers) Stands feeds (calls_of transfers) c h
      ∙ (λ i. (ap (λ (n : ℕ). sum_by (λ (m : ℕ). slice_index_or row m 0) (up 0 n)) e ∙ sum_of_items (λ x. x) 0 row) i
      + (on_table c (λ t. 0) (λ t. t.amount) transfers ∙ (λ j. sum_by (sum_by (λ t. none_first (t.from == c) (if t.to == c then t.amount else 0) j)) transfers)) i)

  went : sum_by (debit_of transfers) h.had ≡ sent transfers c
  went =
      let all = sum_of_all (debit_of transfers) Stands feeds (calls_of transfers) c h in
      let none = zeros (up 0 feeds) in
      let calls : _ ≡ sent transfers c = on_table c (λ t. t.amount) (λ t. 0) transfers ∙ (λ j. sum_by (sum_by (λ t. none_last (t.to == c) (if t.from == c then t.amount else 0) j)) transfers) in
      omega (arith, all, none, calls)

  few_acts : All (λ row. length row ≤ 2 ^ 11) transfers → length h.had ≤ feeds + 4096 * length transfers
  few_acts few =
      let one = ones h.had in
      let all = sum_of_all (λ (a : Act). 1) Stands feeds (calls_of transfers) c h in
      let fed = ones (up 0 feeds) in
      let n = length_up 0 feeds in
      let calls : _ ≡ sum_by (sum_by (times c)) transfers =
      (λ i. table_sum (λ j k. option_map_or (λ d. if d == c then one_call (k % 2 == 0) i else 0) (slice_get (get_or (calls_of transfers) j []) k) 0) (calls_of transfers))
      ∙ on_table c (λ t. 1) (λ t. 1) transfers in
      let le = table_few c transfers few in
      omega (arith, one, all, fed, n, calls, le)

-- the sums of an account that had all are those of its statement
module _ (bank : Bank) (c : ℕ) (k : Account) (own : IsPartOf bank c k) (h : HadBoth (HasBooked k) (slice_index (map length (deposits_of bank)) c) (calls_of (transfers_of bank)) c)
    (few : sum (map length (deposits_of bank)) ≤ 2 ^ 20) (threads : length (transfers_of bank) ≤ 63) (short : All (λ row. length row ≤ 2 ^ 11) (transfers_of bank)) where
  abbrev row : List ℕ
  row = row_of (deposits_of bank) c

  abbrev transfers : List (List Transfer)
  transfers = transfers_of bank

  abbrev feeds : ℕ
  feeds = slice_index (map length (deposits_of bank)) c

  same_credit : sum_by (credit_of (row_of (deposits_of k.bank) k.number) (transfers_of k.bank)) h.had ≡ sum row + received transfers c
  same_credit =
      (λ i. sum_by (credit_of (row_of (deposits_of (own.its_bank i)) (own.number i)) (transfers_of (own.its_bank i))) h.had)
      ∙ came (HasBooked k) row transfers c feeds h (limit_is (deposits_of bank) c)

  same_debit : sum_by (debit_of (transfers_of k.bank)) h.had ≡ sent transfers c
  same_debit = (λ i. sum_by (debit_of (transfers_of (own.its_bank i))) h.had) ∙ went (HasBooked k) row transfers c feeds h

  -- no sum is greater than 64 bits hold
  both_small : (sum row + received transfers c) + sent transfers c ≤ most
  both_small =
      let acts = few_acts (HasBooked k) row transfers c feeds h short in
      let one = index_few (map length (deposits_of bank)) c in
      omega (arith, h.stands.small, same_credit, same_debit, acts, one, few, threads)

  pub its_sums : k.sums ≡ statement_of (deposits_of bank) transfers c
  its_sums =
      let credit : k.sums.credit ≡ sum row + received transfers c = omega (arith, h.stands.credit, same_credit, both_small) in
      let debit : k.sums.debit ≡ sent transfers c = omega (arith, h.stands.debit, same_debit, both_small) in
      λ i. record { credit = credit i; debit = debit i }

-- an account that lies where it was left has its statement
pub its_statement : (bank : Bank) (f : FinishedOf Account) (c : ℕ) (k : Account) → HadAll ghosts bank (map length (deposits_of bank)) (calls_of (transfers_of bank)) f c
    → slice_get f.parts c ≡ Some (Some k) → sum (map length (deposits_of bank)) ≤ 2 ^ 20 → length (transfers_of bank) ≤ 63 → All (λ row. length row ≤ 2 ^ 11) (transfers_of bank)
    → k.sums ≡ statement_of (deposits_of bank) (transfers_of bank) c
its_statement bank f c k it lies few threads short =
    let same : it.part ≡ k = (let both : Some (Some it.part) ≡ Some (Some k) = sym it.lies ∙ lies in cc both) in
    ap (λ (k : Account). k.sums) (sym same) ∙ its_sums bank c it.part it.own it.had few threads short

-- what the accounts had is what the bank says, however it was counted and called
pub had_theirs : (bank : Bank) (f : FinishedOf Account) (counts : List ℕ) (called : List (List ℕ)) → HaveHadAll ghosts bank counts called f → counts ≡ map (λ row. length row.items) bank.deposits.now
    → called ≡ map (λ row. accounts_of row.items) bank.transfers.now → HaveHadAll ghosts bank (map length (deposits_of bank)) (calls_of (transfers_of bank)) f
had_theirs bank f counts called had ns ls =
    subst (λ (x : List (List ℕ)). HaveHadAll ghosts bank (map length (deposits_of bank)) x f) (ls ∙ sym (map-map accounts_of (λ (row : Vec Transfer Global). row.items) bank.transfers.now))
    (subst (λ (x : List ℕ). HaveHadAll ghosts bank x called f) (ns ∙ sym (lengths_of (λ (row : Vec ℕ Global). row.items) bank.deposits.now)) had)
