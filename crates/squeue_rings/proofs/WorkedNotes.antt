-- A worked example: a connection goes there and back, with one feed before each move. Its notes are those of a spread of 1, not of 2.
use Rattle.std.proofs.Common.{◌≡◌, ℕ, zero, suc, ◌+◌, ◌*◌, ◌/◌, ◌%◌, ◌<◌, Option, Some, None, slice_get, refl, ap, sym, ◌∙◌, arith}
use Rattle.std.proofs.lemmas.Nat.{div-add-mod'}
use Rattle.std.proofs.Math.Nat.{mod-lt}
use Rattle.perimeter_core.specs.Deeds.{fed}
use Rattle.histories.specs.Stays.{Stay, all_in, stay, stays_in}
use Rattle.conn_migrate.specs.Worked.{there_and_back}
use Rattle.histories.specs.Noted.{AreNoted}

-- stay d of the connection at squeue m
abbrev fed_before : ℕ → ℕ → ℕ → Stay → Type 0
fed_before s d m v = slice_get (all_in (stays_in (slice_get there_and_back m) 0)) d ≡ Some v → fed v.note ≡ s

pub noted_by_one : AreNoted 1 there_and_back 0
noted_by_one s v at =
    let place : (0 + s) % 2 ≡ s % 2 = ap (λ (k : ℕ). k % 2) (let z : 0 + s ≡ s = omega arith in z) in
    let n = by (s / 2) (s % 2) (div-add-mod' s 2) (mod-lt s (omega arith)) (ap (λ (m : ℕ). slice_get (all_in (stays_in (slice_get there_and_back m) 0)) (s / 2)) (sym place) ∙ at) in
    omega (arith, n)
  where
    by : (d m : ℕ) → d * 2 + m ≡ s → m < 2 → fed_before s d m v
    by zero zero is lt at = let n : 0 ≡ fed v.note = cc at in omega (arith, n, is)
    by (suc zero) zero is lt at = let n : 2 ≡ fed v.note = cc at in omega (arith, n, is)
    by (suc (suc d)) zero is lt at = cc at
    by zero (suc zero) is lt at = let n : 1 ≡ fed v.note = cc at in omega (arith, n, is)
    by (suc d) (suc zero) is lt at = cc at
    by d (suc (suc m)) is lt at = absurd (omega (arith, lt))

pub not_by_two : AreNoted 2 there_and_back 0 → ⊥
not_by_two noted = at (stay there_and_back 0 1) refl
  where
    at : (o : Option Stay) → stay there_and_back 0 1 ≡ o → ⊥
    at None e = cc e
    at (Some v) e = let n = noted 1 v e in let m : 1 ≡ fed v.note = cc e in omega (arith, n, m)
