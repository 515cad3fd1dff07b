-- The feeds that go on from one, and the entries of an order.
use Rattle.std.proofs.Common.{◌≡◌, ℕ, ◌+◌, ◌<◌, ◌≤◌, Bool, true, false, List, [], ◌∷◌, suc, length, drop, get_or, refl, sym, ap, ◌∙◌, inl, inr, cond, eqb, arith, drop-cons}
use Rattle.std.proofs.lemmas.Bool.{eqb-true}
use Rattle.std.proofs.lemmas.Bool.Decides.{eqb_tells}
use Rattle.std.proofs.lemmas.List.{drop_all}
use Rattle.perimeter_core.specs.declared.entries.Act.{Act}
use Rattle.perimeter_core.specs.declared.entries.Act.TheVariants as act
use Rattle.report_lines.specs.ReportText.{feeds, call, with_act, entries_of}

-- how many acts, from the first on, are the feeds behind feed n
abbrev pub lead : ℕ → List Act → ℕ
lead n [] = 0
lead n (act.Call j k ∷ xs) = 0
lead n (act.Feed m ∷ xs) = cond (eqb (n + 1) m) (suc (lead m xs)) 0

-- a feed before a run that is known
joined : (n m : ℕ) (k : ℕ) (xs : List Act) (b : Bool) → eqb (n + 1) m ≡ b → entries_of (act.Feed m ∷ xs) ≡ feeds m (m + k) ∷ entries_of (drop k xs)
    → with_act (act.Feed n) (entries_of (act.Feed m ∷ xs)) ≡ feeds n (n + cond b (suc k) 0) ∷ entries_of (drop (cond b (suc k) 0) (act.Feed m ∷ xs))
joined n m k xs true e run =
    let next : n + 1 ≡ m = eqb-true (n + 1) m e in
    let last : m + k ≡ n + suc k = omega arith in
    ap (with_act (act.Feed n)) run ∙ ap (λ b. cond b (feeds n (m + k) ∷ entries_of (drop k xs)) (feeds n n ∷ feeds m (m + k) ∷ entries_of (drop k xs))) e
    ∙ ap (λ i. feeds n i ∷ entries_of (drop k xs)) last
joined n m k xs false e run =
    let alone : n ≡ n + 0 = omega arith in
    ap (with_act (act.Feed n)) run ∙ ap (λ b. cond b (feeds n (m + k) ∷ entries_of (drop k xs)) (feeds n n ∷ feeds m (m + k) ∷ entries_of (drop k xs))) e
    ∙ ap (λ es. feeds n n ∷ es) (sym run) ∙ ap (λ i. feeds n i ∷ entries_of (act.Feed m ∷ xs)) alone

run_is : (n : ℕ) (xs : List Act) → entries_of (act.Feed n ∷ xs) ≡ feeds n (n + lead n xs) ∷ entries_of (drop (lead n xs) xs)
run_is n [] = ap (λ k. feeds n k ∷ []) (omega arith)
run_is n (act.Call j k ∷ xs) = ap (λ i. feeds n i ∷ call j k ∷ entries_of xs) (omega arith)
run_is n (act.Feed m ∷ xs) = joined n m (lead m xs) xs (eqb (n + 1) m) refl (run_is m xs)

-- the first i acts are feeds behind feed n, and what follows is no such feed
run_to : (n last count i : ℕ) (xs : List Act) → count ≡ i → lead n xs ≡ count + lead last (drop i xs) → lead last (drop i xs) ≡ 0
    → entries_of (act.Feed n ∷ xs) ≡ feeds n (n + count) ∷ entries_of (drop count xs)
run_to n last count i xs at so_far stops =
    let e : lead n xs ≡ count = omega arith in
    run_is n xs ∙ ap (λ k. feeds n (n + k) ∷ entries_of (drop k xs)) e

at_next : (n i : ℕ) (xs : List Act) (a d : Act) → i < length xs → get_or xs i d ≡ a → lead n (drop i xs) ≡ lead n (a ∷ drop (suc i) xs)
at_next n i xs a d lt e = ap (lead n) (drop-cons xs i d lt ∙ ap (λ x. x ∷ drop (suc i) xs) e)

no_run : (n m : ℕ) (xs : List Act) → (m ≡ n + 1 → ⊥) → lead n (act.Feed m ∷ xs) ≡ 0
no_run n m xs other =
    elim (eqb_tells (n + 1) m) [ inl h ↦ absurd (other (sym h.1)) | inr h ↦ ap (λ b. cond b (suc (lead m xs)) 0) h.0 ]

pub ends_at_feed : (n last count i m : ℕ) (xs : List Act) (d : Act) → count ≡ i → lead n xs ≡ count + lead last (drop i xs)
    → i < length xs → get_or xs i d ≡ act.Feed m → (m ≡ last + 1 → ⊥)
    → entries_of (act.Feed n ∷ xs) ≡ feeds n (n + count) ∷ entries_of (drop count xs)
ends_at_feed n last count i m xs d at so_far lt e other =
    run_to n last count i xs at so_far (at_next last i xs (act.Feed m) d lt e ∙ no_run last m (drop (suc i) xs) other)

pub ends_at_call : (n last count i j k : ℕ) (xs : List Act) (d : Act) → count ≡ i → lead n xs ≡ count + lead last (drop i xs)
    → i < length xs → get_or xs i d ≡ act.Call j k
    → entries_of (act.Feed n ∷ xs) ≡ feeds n (n + count) ∷ entries_of (drop count xs)
ends_at_call n last count i j k xs d at so_far lt e = run_to n last count i xs at so_far (at_next last i xs (act.Call j k) d lt e)

pub ends_at_end : (n last count i : ℕ) (xs : List Act) → count ≡ i → lead n xs ≡ count + lead last (drop i xs)
    → length xs ≤ i → entries_of (act.Feed n ∷ xs) ≡ feeds n (n + count) ∷ entries_of (drop count xs)
ends_at_end n last count i xs at so_far past = run_to n last count i xs at so_far (ap (lead last) (drop_all i xs past))
