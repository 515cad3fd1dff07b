-- What a squeue takes when it is made.
use Rattle.std.proofs.Common.{◌≡◌, ◌+◌, ◌<◌, ◌≤◌, inl, inr, ℕ, zero, suc, Bool, false, Option, Some, None, List, [], ◌∷◌, ◌++◌, length, take, get_or, ap, ◌∙◌, refl, arith}
use Rattle.std.specs.Prelude.{is_some}
use Rattle.std.proofs.lemmas.List.{take_more, take_all}
use Rattle.std.proofs.Math.ListN.{get_or-eq_default}
use Rattle.std.proofs.lemmas.Bool.{cases_lt}
use Rattle.perimeter_core.specs.declared.entries.Act.{Act}
use Rattle.perimeter_core.specs.History.{feed_quotas}
use Rattle.perimeter_core.specs.Blocks.{Blocks}
use Rattle.squeue_state.specs.declared.guarded.Life.{Life}
use Rattle.histories.specs.declared.quota.Quota.{Quota}
use Rattle.squeue_state.specs.Behind.{ever}
use Rattle.histories.specs.Quotas.{pairs, ask_quotas}

feeds_push : (qs : List Quota) (q : Quota) → feed_quotas (pairs (qs ++ q ∷ [])) ≡ feed_quotas (pairs qs) + q.feeds
feeds_push [] q = omega arith
feeds_push (x ∷ qs) q = omega (arith, feeds_push qs q)

asks_push : (qs : List Quota) (q : Quota) → ask_quotas (pairs (qs ++ q ∷ [])) ≡ ask_quotas (pairs qs) + q.asks
asks_push [] q = omega arith
asks_push (x ∷ qs) q = omega (arith, asks_push qs q)

pub feeds_next : (qs : List Quota) (i : ℕ) (d : Quota) → i < length qs → feed_quotas (pairs (take (i + 1) qs)) ≡ feed_quotas (pairs (take i qs)) + (get_or qs i d).feeds
feeds_next qs i d h = ap (λ xs. feed_quotas (pairs xs)) (take_more qs i d h) ∙ feeds_push (take i qs) (get_or qs i d)

pub asks_next : (qs : List Quota) (i : ℕ) (d : Quota) → i < length qs → ask_quotas (pairs (take (i + 1) qs)) ≡ ask_quotas (pairs (take i qs)) + (get_or qs i d).asks
asks_next qs i d h = ap (λ xs. ask_quotas (pairs xs)) (take_more qs i d h) ∙ asks_push (take i qs) (get_or qs i d)

pub feeds_part : (qs : List Quota) (i : ℕ) → feed_quotas (pairs (take i qs)) ≤ feed_quotas (pairs qs)
feeds_part [] zero = omega arith
feeds_part [] (suc i) = omega arith
feeds_part (q ∷ qs) zero = omega arith
feeds_part (q ∷ qs) (suc i) = omega (arith, feeds_part qs i)

pub asks_part : (qs : List Quota) (i : ℕ) → ask_quotas (pairs (take i qs)) ≤ ask_quotas (pairs qs)
asks_part [] zero = omega arith
asks_part [] (suc i) = omega arith
asks_part (q ∷ qs) zero = omega arith
asks_part (q ∷ qs) (suc i) = omega (arith, asks_part qs i)

pub pairs_all : (qs : List Quota) (i : ℕ) → length qs ≤ i → pairs (take i qs) ≡ pairs qs
pairs_all qs i h = ap pairs (take_all i qs h)

pairs_push : (qs : List Quota) (q : Quota) → pairs (qs ++ q ∷ []) ≡ pairs qs ++ (q.feeds, q.asks) ∷ []
pairs_push [] q = refl
pairs_push (x ∷ qs) q = ap (λ rest. (x.feeds, x.asks) ∷ rest) (pairs_push qs q)

ever_push : (ls : List Life) (l : Life) → ever (ls ++ l ∷ []) ≡ ever ls ++ (l.feeds, l.asks) ∷ []
ever_push [] l = refl
ever_push (x ∷ ls) l = ap (λ rest. (x.feeds, x.asks) ∷ rest) (ever_push ls l)

-- one life more, as the next quota says
pub lives_next : (ls : List Life) (l : Life) (qs : List Quota) (i : ℕ) (d : Quota) → i < length qs → ever ls ≡ pairs (take i qs)
    → l.feeds ≡ (get_or qs i d).feeds → l.asks ≡ (get_or qs i d).asks → ever (ls ++ l ∷ []) ≡ pairs (take (i + 1) qs)
lives_next ls l qs i d h so_far feeds asks =
    rw (ever_push ls l, so_far, feeds, asks, take_more qs i d h, pairs_push (take i qs) (get_or qs i d)) refl

none_above : (b : Option (List Act)) (c n : ℕ) → ((had : List Act) → b ≡ Some had → c < n) → n ≤ c → false ≡ is_some b
none_above None c n small above = refl
none_above (Some had) c n small above = let lt = small had refl in absurd (omega (arith, lt, above))

-- the flags of all connections, and none behind them
pub all_flags : {R : Type 0} (stands : R → Blocks → Type 0) (size : R → ℕ) (in_range : (r : R) (blocks : Blocks) (c : ℕ) (had : List Act) → stands r blocks → blocks c ≡ Some had → c < size r) (r : R) (xs : List Bool) (n : ℕ)
    → length xs ≡ n → size r ≤ n → ((blocks : Blocks) (c : ℕ) → stands r blocks → c < n → get_or xs c false ≡ is_some (blocks c))
    → (blocks : Blocks) (c : ℕ) → stands r blocks → get_or xs c false ≡ is_some (blocks c)
all_flags stands size in_range r xs n count all each blocks c s =
    elim (cases_lt c n) [
      | inl h ↦ each blocks c s h
      | inr h ↦ get_or-eq_default xs false (omega (arith, count, h)) ∙ none_above (blocks c) c n (λ had is. let lt = in_range r blocks c had s is in omega (arith, lt, all)) h
    ]
