-- An account after one act more.
use Rattle.std.proofs.Common.{◌≡◌, ℕ, zero, suc, ◌+◌, ◌*◌, ◌/◌, ◌%◌, ◌<◌, ◌≤◌, ◌==◌, Bool, true, false, if◌then◌else◌, Some, List, [], ◌∷◌, ◌++◌, length, length-append, map, min, get_or, slice_get, slice_index_or, refl, ap, sym, ◌∙◌, arith}
use Rattle.std.specs.Prelude.{Vec, sum_by}
use Rattle.std.specs.declared.alloc.Global.{Global}
use Rattle.std.proofs.Math.Dec.{eqb-suc-zero}
use Rattle.std.proofs.Math.Nat.{add-div_right, add-mod_right}
use Rattle.std.proofs.lemmas.List.{get_or-map, get_or_read}
use Rattle.std.proofs.lemmas.List.Sums.{sum_by_push}
use Rattle.squeue.specs.declared.Act.{Act}
use Rattle.squeue.specs.declared.Act.TheVariants as Did
use Rattle.squeue.proofs.NextFeed.{fed-append}
use Rattle.moving_bank.specs.declared.accounts.Account.{Account}
use Rattle.moving_bank.specs.declared.accounts.Transfer.{Transfer}
use Rattle.moving_bank.specs.Booking.{HasBooked, accounts_of, calls_of, credit_of, debit_of, deposits_of, most, most_amount, row_of, transfer_at, transfers_of}

-- two calls further on is one transfer further on
pub next_half : (k : ℕ) → suc (suc k) / 2 ≡ suc (k / 2)
next_half k =
    let two : suc (suc k) ≡ k + 2 = omega arith in
    let more : k / 2 + 1 ≡ suc (k / 2) = omega arith in
    ap (λ n. n / 2) two ∙ (add-div_right k (omega arith) ∙ more)

pub same_side : (k : ℕ) → suc (suc k) % 2 ≡ k % 2
same_side k = let two : suc (suc k) ≡ k + 2 = omega arith in ap (λ n. n % 2) two ∙ add-mod_right k 2

second_side : (n : ℕ) → (n ≡ 0 → ⊥) → (n == 0) ≡ false
second_side zero other = absurd (other refl)
second_side (suc n) other = eqb-suc-zero n

-- a sum that stays at the greatest
stays : (a b : ℕ) → min most (min most a + b) ≡ min most (a + b)
stays a b = omega arith

-- the sum after an act that adds so much to it, and after one that adds nothing
adds : (w : Act → ℕ) (had : List Act) (act : Act) (old amount : ℕ) → old ≡ min most (sum_by w had) → amount ≡ w act → min most (old + amount) ≡ min most (sum_by w (had ++ act ∷ []))
adds w had act old amount was is =
    (λ i. min most (was i + is i)) ∙ (stays (sum_by w had) (w act) ∙ ap (min most) (sym (sum_by_push w had act)))

stands : (w : Act → ℕ) (had : List Act) (act : Act) (old : ℕ) → old ≡ min most (sum_by w had) → w act ≡ 0 → old ≡ min most (sum_by w (had ++ act ∷ []))
stands w had act old was none = was ∙ ap (min most) (let all = sum_by_push w had act in omega (arith, all, none))

-- both sums together stay small
small_more : (v w : Act → ℕ) (had : List Act) (act : Act) → sum_by v had + sum_by w had ≤ most_amount * length had → v act + w act ≤ most_amount
    → sum_by v (had ++ act ∷ []) + sum_by w (had ++ act ∷ []) ≤ most_amount * length (had ++ act ∷ [])
small_more v w had act was few =
    let one = sum_by_push v had act in
    let two = sum_by_push w had act in
    let n = length-append had (act ∷ []) in
    omega (arith, one, two, n, was, few)

module _ (k : Account) (had : List Act) (h : HasBooked k had) where
  abbrev row : List ℕ
  row = row_of (deposits_of k.bank) k.number

  abbrev transfers : List (List Transfer)
  transfers = transfers_of k.bank

  pub deposited : (n amount : ℕ) → amount ≤ most_amount → amount ≡ slice_index_or row n 0
      → HasBooked (record k { had = k.had + 1; sums = record k.sums { credit = min most (k.sums.credit + amount) } }) (had ++ Did.Feed n ∷ [])
  deposited n amount few is =
      record {
        feeds = fed-append had (Did.Feed n ∷ []) ∙ omega (arith, h.feeds);
        credit = adds (credit_of row transfers) had (Did.Feed n) k.sums.credit amount h.credit is;
        debit = stands (debit_of transfers) had (Did.Feed n) k.sums.debit h.debit refl;
        small = small_more (credit_of row transfers) (debit_of transfers) had (Did.Feed n) h.small (omega (arith, few, is));
      }

  -- the first call for a transfer, and the second
  pub went_out : (j i amount : ℕ) → amount ≤ most_amount → i % 2 ≡ 0 → amount ≡ (transfer_at transfers j (i / 2)).amount
      → HasBooked (record k { sums = record k.sums { debit = min most (k.sums.debit + amount) } }) (had ++ Did.Call j i ∷ [])
  went_out j i amount few even is =
      let first : (i % 2 == 0) ≡ true = ap (λ n. n == 0) even in
      let debit : debit_of transfers (Did.Call j i) ≡ amount = ap (λ (b : Bool). if b then (transfer_at transfers j (i / 2)).amount else 0) first ∙ sym is in
      let credit : credit_of row transfers (Did.Call j i) ≡ 0 = ap (λ (b : Bool). if b then 0 else (transfer_at transfers j (i / 2)).amount) first in
      record {
        feeds = fed-append had (Did.Call j i ∷ []) ∙ omega (arith, h.feeds);
        credit = stands (credit_of row transfers) had (Did.Call j i) k.sums.credit h.credit credit;
        debit = adds (debit_of transfers) had (Did.Call j i) k.sums.debit amount h.debit (sym debit);
        small = small_more (credit_of row transfers) (debit_of transfers) had (Did.Call j i) h.small (omega (arith, few, debit, credit));
      }

  pub came_in : (j i amount : ℕ) → amount ≤ most_amount → (i % 2 ≡ 0 → ⊥) → amount ≡ (transfer_at transfers j (i / 2)).amount
      → HasBooked (record k { sums = record k.sums { credit = min most (k.sums.credit + amount) } }) (had ++ Did.Call j i ∷ [])
  came_in j i amount few odd is =
      let second : (i % 2 == 0) ≡ false = second_side (i % 2) odd in
      let debit : debit_of transfers (Did.Call j i) ≡ 0 = ap (λ (b : Bool). if b then (transfer_at transfers j (i / 2)).amount else 0) second in
      let credit : credit_of row transfers (Did.Call j i) ≡ amount = ap (λ (b : Bool). if b then 0 else (transfer_at transfers j (i / 2)).amount) second ∙ sym is in
      record {
        feeds = fed-append had (Did.Call j i ∷ []) ∙ omega (arith, h.feeds);
        credit = adds (credit_of row transfers) had (Did.Call j i) k.sums.credit amount h.credit (sym credit);
        debit = stands (debit_of transfers) had (Did.Call j i) k.sums.debit h.debit debit;
        small = small_more (credit_of row transfers) (debit_of transfers) had (Did.Call j i) h.small (omega (arith, few, debit, credit));
      }

-- a call that exists has its transfer
has_place : (row : List Transfer) (k c : ℕ) → slice_get (accounts_of row) k ≡ Some c → k / 2 < length row
has_place [] k c at = cc at
has_place (t ∷ row) zero c at = omega arith
has_place (t ∷ row) (suc zero) c at = omega arith
has_place (t ∷ row) (suc (suc k)) c at = let r = has_place row k c at in omega (arith, r, next_half k)

pub table_place : (transfers : List (List Transfer)) (j k c : ℕ) → slice_get (get_or (calls_of transfers) j []) k ≡ Some c
    → (j < length transfers) × (k / 2 < length (slice_index_or transfers j []))
table_place [] j k c at = cc at
table_place (row ∷ transfers) zero k c at = (omega arith, has_place row k c at)
table_place (row ∷ transfers) (suc j) k c at = let r = table_place transfers j k c at in (let lt = r.0 in omega (arith, lt), r.1)

pub row_is : (rows : List (Vec Transfer Global)) (j : ℕ) (row : Vec Transfer Global) → j < length rows → row ≡ get_or rows j row → row.items ≡ slice_index_or (map (λ row. row.items) rows) j []
row_is rows j row lt is = ap (λ (r : Vec Transfer Global). r.items) is ∙ sym (get_or-map (λ (r : Vec Transfer Global). r.items) rows j row [] lt)

pub transfer_read : (rows : List (Vec Transfer Global)) (j i : ℕ) (row : Vec Transfer Global) (t : Transfer) → j < length rows → i < length row.items → row ≡ get_or rows j row
    → t ≡ get_or row.items i t → t ≡ transfer_at (map (λ row. row.items) rows) j i
transfer_read rows j i row t lt within is read =
    let none : Transfer = record { from = 0; to = 0; amount = 0 } in
    get_or_read row.items i t within read none ∙ ap (λ (r : List Transfer). get_or r i none) (row_is rows j row lt is)
