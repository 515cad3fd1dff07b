-- Places changed one after another.
use Rattle.std.proofs.Common.{◌≡◌, ℕ, zero, suc, ◌+◌, ◌<◌, List, [], ◌∷◌, length, slice_index_or, slice_set, refl, sym, subst, arith}
use Rattle.squeue_state.specs.Naming.{Named}
use Rattle.squeue_serve.specs.Places.{AtEach, AtEachTwo}

module _ {R A : Type 0} (P : Named R → A → Type 0) (Q : Named R → A → A → Type 0) where
  -- the first q places have changed so, and the others are as they were
  abbrev pub Changed : ℕ → List (Named R) → List A → List A → Type 0
  Changed q [] [] [] = Unit {0}
  Changed zero (s ∷ ss) (o ∷ os) (n ∷ ns) = P s o × (n ≡ o) × Changed zero ss os ns
  Changed (suc q) (s ∷ ss) (o ∷ os) (n ∷ ns) = Q s o n × Changed q ss os ns
  Changed q [] [] (n ∷ ns) = ⊥
  Changed q [] (o ∷ os) ns = ⊥
  Changed q (s ∷ ss) [] ns = ⊥
  Changed q (s ∷ ss) (o ∷ os) [] = ⊥

  pub changed_none : (ss : List (Named R)) (os : List A) → AtEach P ss os → Changed 0 ss os os
  changed_none [] [] h = tt
  changed_none [] (o ∷ os) h = absurd h
  changed_none (s ∷ ss) [] h = absurd h
  changed_none (s ∷ ss) (o ∷ os) h = (h.0, refl, changed_none ss os h.1)

  pub changed_all : (q : ℕ) (ss : List (Named R)) (os ns : List A) → q ≡ length ss → Changed q ss os ns → AtEachTwo Q ss os ns
  changed_all q [] [] [] e h = tt
  changed_all q [] [] (n ∷ ns) e h = absurd h
  changed_all q [] (o ∷ os) ns e h = absurd h
  changed_all q (s ∷ ss) [] ns e h = absurd h
  changed_all q (s ∷ ss) (o ∷ os) [] e h = absurd h
  changed_all zero (s ∷ ss) (o ∷ os) (n ∷ ns) e h = absurd (omega (arith, e))
  changed_all (suc q) (s ∷ ss) (o ∷ os) (n ∷ ns) e h = (h.0, changed_all q ss os ns (omega (arith, e)) h.1)

  pub changed_length : (q : ℕ) (ss : List (Named R)) (os ns : List A) → Changed q ss os ns → length ns ≡ length ss
  changed_length q [] [] [] h = refl
  changed_length q [] [] (n ∷ ns) h = absurd h
  changed_length q [] (o ∷ os) ns h = absurd h
  changed_length q (s ∷ ss) [] ns h = absurd h
  changed_length q (s ∷ ss) (o ∷ os) [] h = absurd h
  changed_length zero (s ∷ ss) (o ∷ os) (n ∷ ns) h = let r = changed_length zero ss os ns h.2 in omega (arith, r)
  changed_length (suc q) (s ∷ ss) (o ∷ os) (n ∷ ns) h = let r = changed_length q ss os ns h.1 in omega (arith, r)

  -- the place that is next is as it was
  pub changed_at : (q : ℕ) (ss : List (Named R)) (os ns : List A) (d : Named R) (e : A) → q < length ss → Changed q ss os ns → P (slice_index_or ss q d) (slice_index_or ns q e)
  changed_at q [] os ns d e lt h = absurd (omega arith)
  changed_at q (s ∷ ss) [] ns d e lt h = absurd h
  changed_at q (s ∷ ss) (o ∷ os) [] d e lt h = absurd h
  changed_at zero (s ∷ ss) (o ∷ os) (n ∷ ns) d e lt h = subst (P s) (sym h.1) h.0
  changed_at (suc q) (s ∷ ss) (o ∷ os) (n ∷ ns) d e lt h = changed_at q ss os ns d e (omega arith) h.1

  pub changed_next : (q : ℕ) (ss : List (Named R)) (os ns : List A) (d : Named R) (e n : A) → q < length ss → Changed q ss os ns → Q (slice_index_or ss q d) (slice_index_or ns q e) n → Changed (suc q) ss os (slice_set ns q n)
  changed_next q [] os ns d e n lt h new = absurd (omega arith)
  changed_next q (s ∷ ss) [] ns d e n lt h new = absurd h
  changed_next q (s ∷ ss) (o ∷ os) [] d e n lt h new = absurd h
  changed_next zero (s ∷ ss) (o ∷ os) (m ∷ ns) d e n lt h new = (subst (λ (x : A). Q s x n) h.1 new, h.2)
  changed_next (suc q) (s ∷ ss) (o ∷ os) (m ∷ ns) d e n lt h new = (h.0, changed_next q ss os ns d e n (omega arith) h.1 new)

  pub changed_here : (q : ℕ) (ss : List (Named R)) (os ns : List A) (s : Named R) (o : A) → q < length ss → s ≡ slice_index_or ss q s → o ≡ slice_index_or ns q o → Changed q ss os ns → P s o
  changed_here q ss os ns s o lt a b h = subst (λ (t : Named R). P t o) (sym a) (subst (λ (x : A). P (slice_index_or ss q s) x) (sym b) (changed_at q ss os ns s o lt h))

  pub changed_on : (q : ℕ) (ss : List (Named R)) (os ns : List A) (s : Named R) (o n : A) → q < length ss → s ≡ slice_index_or ss q s → o ≡ slice_index_or ns q o → Changed q ss os ns → Q s o n → Changed (q + 1) ss os (slice_set ns q n)
  changed_on q ss os ns s o n lt a b h new =
      let e : q + 1 ≡ suc q = omega arith in
      rw e (changed_next q ss os ns s o n lt h (subst (λ (t : Named R). Q t (slice_index_or ns q o) n) a (subst (λ (x : A). Q s x n) b new)))
