-- A connection that may leave once more has a feed at home at its next squeue.
use Rattle.std.proofs.Common.{◌≡◌, ◌≢◌, ℕ, ◌+◌, ◌-◌, ◌*◌, ◌/◌, ◌%◌, ◌<◌, ◌==◌, inl, inr, Bool, true, false, if◌then◌else◌, refl, ap, ◌∙◌, subst, arith}
use Rattle.std.specs.Prelude.{◌||◌}
use Rattle.std.proofs.lemmas.Bool.{cases_lt}
use Rattle.std.proofs.lemmas.Bool.Decides.{nat_tests}
use Rattle.std.proofs.lemmas.Nat.{div-add-mod', mod_below}
use Rattle.histories.specs.Homes.{times_leaving}
use Rattle.ring_quotas.proofs.Moving.{away, leaving_is, moves_of}
use Rattle.trace_replay.proofs.Rounds.{away_of}

pub record GoesOn (s spread t items : ℕ) : Type 0 where
  pub several : 1 < s
  pub moves : 0 < spread
  pub next : (t + 1) * spread < items

-- a quotient that is larger has a larger dividend
larger : (s t m : ℕ) → 0 < s → t / s < (m + (s - 1 - t % s)) / s → t < m
larger s t m some lt =
    let x : ℕ = m + (s - 1 - t % s) in
    let dx = div-add-mod' x s in
    let dt = div-add-mod' t s in
    let small = mod_below t s some in
    let more : x / s ≡ t / s + 1 + (x / s - (t / s + 1)) = omega (arith, lt) in
    let all : x / s * s ≡ (t / s + 1 + (x / s - (t / s + 1))) * s = ap (λ (k : ℕ). k * s) more in
    omega (arith, dx, dt, small, all)

next_feed : (spread t items : ℕ) → 0 < spread → 0 < items → t < (items - 1) / spread → (t + 1) * spread < items
next_feed spread t items some have lt =
    let d = div-add-mod' (items - 1) spread in
    let more : (items - 1) / spread ≡ t + 1 + ((items - 1) / spread - (t + 1)) = omega (arith, lt) in
    let all : (items - 1) / spread * spread ≡ (t + 1 + ((items - 1) / spread - (t + 1))) * spread = ap (λ (k : ℕ). k * spread) more in
    omega (arith, d, all, have)

pub leaves_late : (s spread c t items : ℕ) → 0 < s → t / s < times_leaving s spread ((c + t) % s) c items → GoesOn s spread t items
leaves_late s spread c t items some lt =
    elim (cases_lt 0 items) [
      | inl have ↦
          let q : ℕ = (c + t) % s in
          let is = leaving_is s spread c q items (mod_below (c + t) s some) have in
          let far : away s c q ≡ t % s = away_of s some c t in
          let as_is : times_leaving s spread q c items ≡ (moves_of s spread items + (s - 1 - t % s)) / s = is ∙ ap (λ (k : ℕ). (moves_of s spread items + (s - 1 - k)) / s) far in
          let over : t < moves_of s spread items = larger s t (moves_of s spread items) some (subst (λ (k : ℕ). t / s < k) as_is lt) in
          by (spread == 0) (s == 1) refl refl have over
      | inr none ↦
          let nothing : items ≡ 0 = omega (arith, none) in
          let never : times_leaving s spread ((c + t) % s) c 0 ≡ 0 = refl in
          let small = subst (λ (k : ℕ). t / s < times_leaving s spread ((c + t) % s) c k) nothing lt in
          absurd (let no : ⊥ = omega (arith, small, never) in no)
    ]
  where
    by : (a b : Bool) → (spread == 0) ≡ a → (s == 1) ≡ b → 0 < items → t < (if a || b then 0 else (items - 1) / spread) → GoesOn s spread t items
    by true b e f have over = absurd (let no : ⊥ = omega (arith, over) in no)
    by false true e f have over = absurd (let no : ⊥ = omega (arith, over) in no)
    by false false e f have over =
        let moves : 0 < spread = grind (arith, nat_tests, e) in
        let several : s ≢ 1 = λ same. (let no : ⊥ = grind (arith, nat_tests, f, same) in no) in
        record { several = omega (arith, several, some); moves = moves; next = next_feed spread t items moves have over }
