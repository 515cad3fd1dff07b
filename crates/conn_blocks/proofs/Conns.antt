-- The connections of calls, by thread.
use Rattle.std.proofs.Common.{◌≡◌, ◌≤◌, ℕ, zero, suc, List, [], ◌∷◌, get_or, length, map, ap, refl, sym, ◌∙◌, subst, arith}
use Rattle.conn_blocks.specs.CallLists.{AreConnsOf, CallLists, conns_called}
use Rattle.conn_blocks.specs.Limits.{callers, most_calls}

row_of : (calls : CallLists) (j : ℕ) → get_or (map (λ l. map (λ x. x.0) l) calls) j [] ≡ conns_called calls j
row_of [] j = refl
row_of (l ∷ ls) zero = refl
row_of (l ∷ ls) (suc j) = row_of ls j

-- those of one thread
pub conns_of_thread : (calls : CallLists) (conns : List (List ℕ)) (j : ℕ) → AreConnsOf calls conns → get_or conns j [] ≡ conns_called calls j
conns_of_thread calls conns j called = ap (λ (ls : List (List ℕ)). get_or ls j []) called.are ∙ row_of calls j

-- the lists of four threads are those of all
pub of_four : (calls : CallLists) (rows : List (List ℕ)) (a b c d : List ℕ) → length calls ≡ callers → rows ≡ a ∷ b ∷ c ∷ d ∷ []
    → a ≡ conns_called calls 0 → b ≡ conns_called calls 1 → c ≡ conns_called calls 2 → d ≡ conns_called calls 3
    → length a ≤ most_calls → length b ≤ most_calls → length c ≤ most_calls → length d ≤ most_calls → AreConnsOf calls rows
of_four (k ∷ l ∷ m ∷ n ∷ []) rows a b c d four is e f g h s t u v = record {
  are = is ∙ (λ i. e i ∷ f i ∷ g i ∷ h i ∷ []);
  threads = ap length is;
  few = λ j. subst (λ (ls : List (List ℕ)). length (get_or ls j []) ≤ most_calls) (sym is) (one_of j);
}
  where
    one_of : (j : ℕ) → length (get_or (a ∷ b ∷ c ∷ d ∷ []) j []) ≤ most_calls
    one_of zero = s
    one_of (suc zero) = t
    one_of (suc (suc zero)) = u
    one_of (suc (suc (suc zero))) = v
    one_of (suc (suc (suc (suc j)))) = omega arith
of_four [] rows a b c d four is e f g h s t u v = absurd (omega (arith, four))
of_four (k ∷ []) rows a b c d four is e f g h s t u v = absurd (omega (arith, four))
of_four (k ∷ l ∷ []) rows a b c d four is e f g h s t u v = absurd (omega (arith, four))
of_four (k ∷ l ∷ m ∷ []) rows a b c d four is e f g h s t u v = absurd (omega (arith, four))
of_four (k ∷ l ∷ m ∷ n ∷ o ∷ more) rows a b c d four is e f g h s t u v = absurd (omega (arith, four))
