-- The calls for transfers: how many they are, and on which accounts.
use Rattle.std.proofs.Common.{◌≡◌, ℕ, ◌*◌, ◌<◌, ◌≤◌, ◌^◌, List, [], ◌∷◌, length, refl, arith}
use Rattle.std.specs.Prelude.{All}
use Rattle.std.proofs.lemmas.List.Elements.{All-cons, All-head, All-nil, All-tail}
use Rattle.moving_bank.specs.declared.accounts.Transfer.{Transfer}
use Rattle.moving_bank.specs.Booking.{accounts_of, calls_of}

twice : (row : List Transfer) → length (accounts_of row) ≡ 2 * length row
twice [] = refl
twice (t ∷ row) = omega (arith, twice row)

pub few_calls : (transfers : List (List Transfer)) → All (λ row. length row ≤ 2 ^ 11) transfers → All (λ called. length called ≤ 2 ^ 12) (calls_of transfers)
few_calls [] all = All-nil (λ (called : List ℕ). length called ≤ 2 ^ 12)
few_calls (row ∷ transfers) all =
    let here : length row ≤ 2 ^ 11 = All-head (λ (row : List Transfer). length row ≤ 2 ^ 11) row transfers all in
    All-cons (λ (called : List ℕ). length called ≤ 2 ^ 12) (accounts_of row) (calls_of transfers)
    (omega (arith, twice row, here))
    (few_calls transfers (All-tail (λ (row : List Transfer). length row ≤ 2 ^ 11) row transfers all))

abbrev pub IsOf : ℕ → Transfer → Type 0
IsOf n t = (t.from < n) × (t.to < n)

row_named : (n : ℕ) (row : List Transfer) → All (IsOf n) row → All (λ d. d < n) (accounts_of row)
row_named n [] all = All-nil (λ (d : ℕ). d < n)
row_named n (t ∷ row) all =
    let here = All-head (IsOf n) t row all in
    All-cons (λ (d : ℕ). d < n) t.from (t.to ∷ accounts_of row) here.0
    (All-cons (λ (d : ℕ). d < n) t.to (accounts_of row) here.1 (row_named n row (All-tail (IsOf n) t row all)))

pub all_named : (n : ℕ) (transfers : List (List Transfer)) → All (All (IsOf n)) transfers → All (λ called. All (λ d. d < n) called) (calls_of transfers)
all_named n [] all = All-nil (λ (called : List ℕ). All (λ d. d < n) called)
all_named n (row ∷ transfers) all =
    All-cons (λ (called : List ℕ). All (λ d. d < n) called) (accounts_of row) (calls_of transfers)
    (row_named n row (All-head (All (IsOf n)) row transfers all))
    (all_named n transfers (All-tail (All (IsOf n)) row transfers all))
