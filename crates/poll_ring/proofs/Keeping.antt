-- Each step keeps the ring's rule.
use Rattle.std.proofs.Common.{◌≡◌, ◌≢◌, ℕ, zero, suc, ◌+◌, ◌≤◌, true, true≢false, List, [], ◌∷◌, ◌++◌, length, set, drop, slice_index_or, arith, sym, refl, ap, ◌∙◌, subst, ⊎_elim}
use Rattle.std.specs.List.{range_with_len}
use mathlib.Core.Option.{some, some-ne-none}
use lib.ListN.{get_elem?}
use Rattle.crossbeam_queue.specs.Fifo.{Pushes, Pops, Forks, Learns}
use Rattle.crossbeam_queue.proofs.Lists.{at_set, at_snoc}
use Rattle.poll_ring.specs.declared.rule.View.{View}
use Rattle.poll_ring.specs.Rule.{unsplit, feeder, poller, Keeps, Knows}

-- ---- the numbers in the queue
length_snoc : (xs : List ℕ) (x : ℕ) → length (xs ++ x ∷ []) ≡ suc (length xs)
length_snoc [] x = refl
length_snoc (y ∷ xs) x = ap suc (length_snoc xs x)

one_more : (a n : ℕ) → range_with_len a n ++ (a + n) ∷ [] ≡ range_with_len a (suc n)
one_more a zero = ap (λ k. k ∷ []) (omega arith)
one_more a (suc n) = let same : a + suc n ≡ (a + 1) + n = omega arith in ap (λ l. a ∷ l) (ap (λ k. range_with_len (a + 1) n ++ k ∷ []) same ∙ one_more (a + 1) n)

-- ---- the views of the passes
at_end : (l : List View) (a b : View) (j : ℕ) → get_elem? l j ≢ some b → get_elem? (l ++ a ∷ []) j ≡ some b → j ≡ length l
at_end [] a b zero n e = refl
at_end [] a b (suc j) n e = absurd (some-ne-none b (sym e))
at_end (x ∷ xs) a b zero n e = absurd (n e)
at_end (x ∷ xs) a b (suc j) n e = ap suc (at_end xs a b j n e)

abbrev All : (ℕ → View → Type 0) → List View → Type 0
All F views = (pass : ℕ) (v : View) → get_elem? views pass ≡ some v → F pass v

all_set : (F : ℕ → View → Type 0) (views : List View) (pass : ℕ) (w : View) → F pass w → ((j : ℕ) (u : View) → j ≢ pass → get_elem? views j ≡ some u → F j u) → All F (set views pass w)
all_set F views pass w mine others j u e = ⊎_elim (λ (x : (j ≡ pass) × (w ≡ u)). subst (λ (y : ℕ × View). F y.0 y.1) (λ i. (sym x.0 i, x.1 i)) mine)
    (λ (x : (j ≢ pass) × (get_elem? views j ≡ some u)). others j u x.0 x.1) (at_set views pass j w u e)

-- ---- the steps
pub begins : Keeps [] (unsplit ∷ [])
begins = record {
  put = 0;
  popped = 0;
  count = refl;
  next_ones = refl;
  feeding = 0;
  polling = 0;
  each = all_set (Knows 0 0 0 0) (unsplit ∷ []) 0 unsplit ((λ _. (refl, refl)), λ _. (refl, refl)) (λ j u other e. absurd (other (at_end [] _ u j (λ x. some-ne-none u (sym x)) e)));
}

-- the first pass becomes those of the two ends
pub splits : (pass : ℕ) (v : View) → v.feeds ≡ true → v.polls ≡ true → Forks Keeps pass v (feeder v.put) (poller v.popped)
splits pass v a b numbers views h at =
    let l : View = feeder v.put in
    let r : View = poller v.popped in
    let mine = h.each pass v at in
    let vs : List View = set views pass l in
    let Old : ℕ → View → Type 0 = λ j u. (u.feeds ≡ true → (j ≡ h.feeding) × (u.put ≡ h.put)) × (u.polls ≢ true) in
    let old : All Old vs = all_set Old views pass l ((λ _. mine.0 a), λ p. true≢false (sym p)) (λ j u other e. ((h.each j u e).0, λ p. other (((h.each j u e).1 p).0 ∙ sym (mine.1 b).0))) in
    record {
      put = h.put;
      popped = h.popped;
      count = h.count;
      next_ones = h.next_ones;
      feeding = h.feeding;
      polling = length vs;
      each = λ j u e. ⊎_elim (λ x. ((old j u x).0, λ p. absurd ((old j u x).1 p)))
          (λ (is : r ≡ u). ((λ p. absurd (true≢false (sym (ap (λ (y : View). y.feeds) is ∙ p)))), λ p. (at_end vs r u j (λ x. (old j u x).1 p) e, ap (λ (y : View). y.popped) (sym is) ∙ (mine.1 b).1)))
          (at_snoc vs r u j e);
    }

-- the feeding pass, which knows that n were put, puts the number n
pub puts : (room pass : ℕ) (v : View) (n : ℕ) → v ≡ feeder n → Pushes Keeps room pass v n (λ w. w ≡ feeder (v.put + 1))
puts room pass v n is numbers views _ h at =
    let w : View = feeder (v.put + 1) in
    let known = (h.each pass v at).0 (ap (λ (y : View). y.feeds) is) in
    let longer = length_snoc numbers n in
    let next : n ≡ h.popped + length numbers = sym (ap (λ (y : View). y.put) is) ∙ known.1 ∙ h.count in (
      w,
      record {
        put = h.put + 1;
        popped = h.popped;
        count = omega (arith, h.count, longer);
        next_ones = (λ i. h.next_ones i ++ next i ∷ []) ∙ one_more h.popped (length numbers) ∙ ap (range_with_len h.popped) (sym longer);
        feeding = h.feeding;
        polling = h.polling;
        each = all_set (Knows h.feeding (h.put + 1) h.polling h.popped) views pass w ((λ _. (known.0, ap (λ k. k + 1) known.1)), λ p. absurd (true≢false (sym p)))
            (λ j u other e. ((λ p. absurd (other (((h.each j u e).0 p).0 ∙ sym known.0))), (h.each j u e).1));
      },
      refl,
    )

-- no more numbers lie in the queue than were put
pub within : (pass : ℕ) (v : View) (n : ℕ) → v ≡ feeder n → Learns Keeps pass v (λ numbers. length numbers ≤ v.put)
within pass v n is numbers views h at = let known = (h.each pass v at).0 (ap (λ (y : View). y.feeds) is) in omega (arith, known.1, h.count)

-- the polling pass, which knows that n were popped, pops the number n
pub pops : (pass : ℕ) (v : View) (n : ℕ) → v ≡ poller n → Pops Keeps pass v (λ x w. (x ≡ v.popped) × (w ≡ poller (v.popped + 1)))
pops pass v n is x numbers views h at =
    let w : View = poller (v.popped + 1) in
    let known = (h.each pass v at).1 (ap (λ (y : View). y.polls) is) in
    let first : x ≡ h.popped = ap (λ (l : List ℕ). slice_index_or l 0 0) h.next_ones in (
      w,
      record {
        put = h.put;
        popped = h.popped + 1;
        count = omega (arith, h.count);
        next_ones = ap (λ (l : List ℕ). drop 1 l) h.next_ones;
        feeding = h.feeding;
        polling = h.polling;
        each = all_set (Knows h.feeding h.put h.polling (h.popped + 1)) views pass w ((λ p. absurd (true≢false (sym p))), λ _. (known.0, ap (λ k. k + 1) known.1))
            (λ j u other e. ((h.each j u e).0, λ p. absurd (other (((h.each j u e).1 p).0 ∙ sym known.0))));
      },
      (first ∙ sym known.1, refl),
    )
