-- The walk of an interface's options, one at a time.
use Rattle.std.proofs.Common.{◌≡◌, ℕ, zero, suc, ◌<◌, ◌≤◌, true, false, List, length, drop, get_or, subst, sym, ap, ◌∙◌, refl, arith, ltb, eqb, ◌&&◌, ◌||◌, ◌⊎◌, inl, inr, length-drop}
use Rattle.std.proofs.lemmas.Bool.Decides.{nat_tests}
use Rattle.pcapng_reader.specs.declared.order.Order.{Order}
use Rattle.pcapng_reader.specs.Options.{code, value_length, option_size, is_end, first_resolution}

end_test : (m c k : ℕ) → (m < 4 → ⊥) → (c ≡ 0 → ⊥) → (m < k → ⊥) → (ltb m 4 || (eqb c 0 || ltb m k)) ≡ false
end_test m c k a b d = grind (arith, nat_tests)

short_test : (m c k : ℕ) → m < 4 → (ltb m 4 || (eqb c 0 || ltb m k)) ≡ true
short_test m c k h = grind (arith, nat_tests)

zero_test : (m c k : ℕ) → c ≡ 0 → (ltb m 4 || (eqb c 0 || ltb m k)) ≡ true
zero_test m c k h = grind (arith, nat_tests)

past_test : (m c k : ℕ) → m < k → (ltb m 4 || (eqb c 0 || ltb m k)) ≡ true
past_test m c k h = grind (arith, nat_tests)

found_test : (c n : ℕ) → c ≡ 9 → n ≡ 1 → (eqb c 9 && eqb n 1) ≡ true
found_test c n h k = grind (arith, nat_tests)

other_test : (c n : ℕ) → (c ≡ 9 → n ≡ 1 → ⊥) → (eqb c 9 && eqb n 1) ≡ false
other_test c n h = grind (arith, nat_tests)

at_end : (n : ℕ) (order : Order) (z : List ℕ) → is_end order z ≡ true → first_resolution n order z ≡ 6
unfolding first_resolution
at_end zero order z e = refl
at_end (suc n) order z e = rw e refl

pub too_short : (n : ℕ) (order : Order) (z : List ℕ) → length z < 4 → first_resolution n order z ≡ 6
too_short n order z h = at_end n order z (short_test (length z) (code order z) (option_size order z) h)

pub at_zero : (n : ℕ) (order : Order) (z : List ℕ) → code order z ≡ 0 → first_resolution n order z ≡ 6
at_zero n order z h = at_end n order z (zero_test (length z) (code order z) (option_size order z) h)

pub reaches_past : (n : ℕ) (order : Order) (z : List ℕ) → length z < option_size order z → first_resolution n order z ≡ 6
reaches_past n order z h = at_end n order z (past_test (length z) (code order z) (option_size order z) h)

-- an option begins these bytes
pub record IsOption (order : Order) (z : List ℕ) : Type 0 where
  pub head : 4 ≤ length z
  pub named : code order z ≡ 0 → ⊥
  pub whole : option_size order z ≤ length z

no_end : (order : Order) (z : List ℕ) → IsOption order z → is_end order z ≡ false
no_end order z o = end_test (length z) (code order z) (option_size order z) (λ h. omega (arith, h, o.head)) o.named (λ h. omega (arith, h, o.whole))

pub first_found : (n : ℕ) (order : Order) (z : List ℕ) → length z ≤ n → IsOption order z → code order z ≡ 9 → value_length order z ≡ 1 → first_resolution n order z ≡ get_or z 4 0
unfolding first_resolution
first_found zero order z few o c v = absurd (omega (arith, few, o.head))
first_found (suc n) order z few o c v = rw (no_end order z o, found_test (code order z) (value_length order z) c v) refl

-- another option is passed by
pub record Passes (n : ℕ) (order : Order) (z : List ℕ) : Type 0 where
  pub left : ℕ
  pub few : length (drop (option_size order z) z) ≤ left
  pub same : first_resolution left order (drop (option_size order z) z) ≡ first_resolution n order z

pub passes_by : (n : ℕ) (order : Order) (z : List ℕ) → length z ≤ n → IsOption order z → (code order z ≡ 9 → value_length order z ≡ 1 → ⊥) → Passes n order z
unfolding first_resolution
passes_by zero order z few o other = absurd (omega (arith, few, o.head))
passes_by (suc n) order z few o other = record {
  left = n;
  few = omega (arith, few, o.head, length-drop (option_size order z) z);
  same = sym (rw (no_end order z o, other_test (code order z) (value_length order z) other) refl);
}

-- the same from the numbers that a reader has found
module _ (n : ℕ) (order : Order) (z : List ℕ) (c v size : ℕ) (coded : c ≡ code order z) (valued : v ≡ value_length order z) (sized : size ≡ option_size order z) where
  pub ends_here : (c ≡ 0) ⊎ ((c ≡ 0 → ⊥) × (length z < size)) → first_resolution n order z ≡ 6
  ends_here (inl h) = at_zero n order z (sym coded ∙ h)
  ends_here (inr h) = reaches_past n order z (omega (arith, h.1, sized))

  option_here : 4 ≤ length z → (c ≡ 0 → ⊥) → size ≤ length z → IsOption order z
  option_here head named whole = record { head = head; named = λ e. named (coded ∙ e); whole = omega (arith, whole, sized) }

  pub found_here : length z ≤ n → 4 ≤ length z → (c ≡ 0 → ⊥) → size ≤ length z → c ≡ 9 → v ≡ 1 → first_resolution n order z ≡ get_or z 4 0
  found_here few head named whole nine one = first_found n order z few (option_here head named whole) (sym coded ∙ nine) (sym valued ∙ one)

  neither : ((c ≡ 9) × (v ≡ 1 → ⊥)) ⊎ (c ≡ 9 → ⊥) → code order z ≡ 9 → value_length order z ≡ 1 → ⊥
  neither (inl h) nine one = h.1 (valued ∙ one)
  neither (inr h) nine one = h (coded ∙ nine)

  pub passes_here : (rest : List ℕ) → rest ≡ drop size z → length z ≤ n → 4 ≤ length z → (c ≡ 0 → ⊥) → size ≤ length z → ((c ≡ 9) × (v ≡ 1 → ⊥)) ⊎ (c ≡ 9 → ⊥)
      → (m : ℕ) × (length rest ≤ m) × (first_resolution m order rest ≡ first_resolution n order z)
  passes_here rest is few head named whole other =
      let passed = passes_by n order z few (option_here head named whole) (neither other) in
      let there : drop (option_size order z) z ≡ rest = ap (λ (k : ℕ). drop k z) (sym sized) ∙ sym is in
      subst (λ (xs : List ℕ). (m : ℕ) × (length xs ≤ m) × (first_resolution m order xs ≡ first_resolution n order z)) there (passed.left, passed.few, passed.same)
