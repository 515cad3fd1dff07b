-- All statements together.
use Rattle.std.proofs.Common.{◌≡◌, ℕ, zero, suc, ◌+◌, ◌<◌, ◌==◌, Bool, if◌then◌else◌, List, [], ◌∷◌, length, map, sum, refl, ap, sym, ◌∙◌, arith}
use Rattle.std.specs.Prelude.{All, sum_by}
use Rattle.std.specs.List.{range_with_len}
use Rattle.std.proofs.lemmas.List.Elements.{All-head, All-tail}
use Rattle.std.proofs.lemmas.List.Sums.{sum_by-cons}
use Rattle.std.proofs.Math.Dec.{eqb-suc-suc, eqb-suc-zero, eqb-zero-suc}
use Rattle.moving_bank.specs.declared.accounts.Statement.{Statement}
use Rattle.moving_bank.specs.declared.accounts.Transfer.{Transfer}
use Rattle.moving_bank.specs.Booking.{row_of}
use Rattle.moving_bank.specs.Settling.{received, statement_of, statements_of}
use Rattle.moving_bank.proofs.Called.{IsOf}
use Rattle.moving_bank.proofs.Statements.{zeros}

two : {X : Type 0} (f g : X → ℕ) (xs : List X) → sum_by (λ x. f x + g x) xs ≡ sum_by f xs + sum_by g xs
two f g [] = refl
two f g (x ∷ xs) =
    let both = sum_by-cons (λ x. f x + g x) x xs in
    let one = sum_by-cons f x xs in
    let other = sum_by-cons g x xs in
    let rest = two f g xs in
    omega (arith, both, one, other, rest)

-- a sum over rows of columns is the sum of the rows' sums
columns : {X : Type 0} (P : X → Type 0) (f : X → ℕ → ℕ) (g : X → ℕ) (cs : List ℕ) (xs : List X) → ((x : X) → P x → sum_by (f x) cs ≡ g x) → All P xs
    → sum_by (λ c. sum_by (λ x. f x c) xs) cs ≡ sum_by g xs
columns P f g cs [] each all = zeros cs
columns P f g cs (x ∷ xs) each all =
    (λ i. sum_by (λ c. sum_by-cons (λ x. f x c) x xs i) cs)
    ∙ (two (f x) (λ c. sum_by (λ x. f x c) xs) cs
    ∙ ((λ i. each x (All-head P x xs all) i + columns P f g cs xs each (All-tail P x xs all) i) ∙ sym (sum_by-cons g x xs)))

shifted : (f : ℕ → ℕ) (a n : ℕ) → sum_by f (range_with_len (a + 1) n) ≡ sum_by (λ c. f (suc c)) (range_with_len a n)
shifted f a zero = refl
shifted f a (suc n) =
    let next : a + 1 ≡ suc a = omega arith in
    sum_by-cons f (a + 1) (range_with_len (a + 1 + 1) n)
    ∙ ((λ i. f (next i) + shifted f (a + 1) n i) ∙ sym (sum_by-cons (λ c. f (suc c)) a (range_with_len (a + 1) n)))

-- one number alone below n is m
one_place : (amount m n : ℕ) → m < n → sum_by (λ c. if m == c then amount else 0) (range_with_len 0 n) ≡ amount
one_place amount m zero lt = absurd (omega (arith, lt))
one_place amount zero (suc n) lt =
    let f : ℕ → ℕ = λ c. if zero == c then amount else 0 in
    let rest : sum_by f (range_with_len (0 + 1) n) ≡ 0 =
    shifted f 0 n ∙ ((λ i. sum_by (λ c. if eqb-zero-suc c i then amount else 0) (range_with_len 0 n)) ∙ zeros (range_with_len 0 n)) in
    let all = sum_by-cons f 0 (range_with_len (0 + 1) n) in
    omega (arith, all, rest)
one_place amount (suc m) (suc n) lt =
    let f : ℕ → ℕ = λ c. if suc m == c then amount else 0 in
    let rest : sum_by f (range_with_len (0 + 1) n) ≡ amount =
    shifted f 0 n ∙ ((λ i. sum_by (λ c. if eqb-suc-suc m c i then amount else 0) (range_with_len 0 n)) ∙ one_place amount m n (omega (arith, lt))) in
    let first : f 0 ≡ 0 = ap (λ (b : Bool). if b then amount else 0) (eqb-suc-zero m) in
    let all = sum_by-cons f 0 (range_with_len (0 + 1) n) in
    omega (arith, all, first, rest)

all_rows : (rows : List (List ℕ)) → sum_by (λ c. sum (row_of rows c)) (range_with_len 0 (length rows)) ≡ sum_by sum rows
all_rows [] = refl
all_rows (row ∷ rows) =
    sum_by-cons (λ c. sum (row_of (row ∷ rows) c)) 0 (range_with_len (0 + 1) (length rows))
    ∙ ((λ i. sum row + (shifted (λ c. sum (row_of (row ∷ rows) c)) 0 (length rows) ∙ all_rows rows) i) ∙ sym (sum_by-cons sum row rows))

-- what transfers bring to all accounts, or take from all, is what they move
at_places : (place : Transfer → ℕ) (n : ℕ) (transfers : List (List Transfer)) → ((t : Transfer) → IsOf n t → place t < n) → All (All (IsOf n)) transfers
    → sum_by (λ c. sum_by (sum_by (λ t. if place t == c then t.amount else 0)) transfers) (range_with_len 0 n) ≡ sum_by (sum_by (λ t. t.amount)) transfers
at_places place n transfers there all =
    columns (All (IsOf n)) (λ row c. sum_by (λ t. if place t == c then t.amount else 0) row) (sum_by (λ t. t.amount)) (range_with_len 0 n) transfers
    (λ row named. columns (IsOf n) (λ t c. if place t == c then t.amount else 0) (λ t. t.amount) (range_with_len 0 n) row (λ t is. one_place t.amount (place t) n (there t is)) named)
    all

mapped : {A B : Type 0} (f : B → ℕ) (g : A → B) (xs : List A) → sum_by f (map g xs) ≡ sum_by (λ x. f (g x)) xs
mapped f g [] = refl
mapped f g (x ∷ xs) = let one = sum_by-cons f (g x) (map g xs) in let two = sum_by-cons (λ x. f (g x)) x xs in let rest = mapped f g xs in omega (arith, one, two, rest)

-- all that came into the accounts is what was deposited and what went out of them
pub money_kept : (deposits : List (List ℕ)) (transfers : List (List Transfer)) → All (All (IsOf (length deposits))) transfers
    → sum_by (λ s. s.credit) (statements_of deposits transfers) ≡ sum_by sum deposits + sum_by (λ s. s.debit) (statements_of deposits transfers)
money_kept deposits transfers named =
    let n = length deposits in
    let cs = range_with_len 0 n in
    let came =
    mapped (λ (s : Statement). s.credit) (statement_of deposits transfers) cs
    ∙ (two (λ c. sum (row_of deposits c)) (received transfers) cs ∙ (λ i. all_rows deposits i + at_places (λ t. t.to) n transfers (λ t is. is.1) named i)) in
    let went = mapped (λ (s : Statement). s.debit) (statement_of deposits transfers) cs ∙ at_places (λ t. t.from) n transfers (λ t is. is.0) named in
    came ∙ ap (λ (m : ℕ). sum_by sum deposits + m) (sym went)

pub summed_rows : {V : Type 0} (items : V → List ℕ) (xs : List V) → sum_by sum (map items xs) ≡ sum_by (λ x. sum (items x)) xs
summed_rows items xs = mapped sum items xs
