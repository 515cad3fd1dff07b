-- The first fault of some streams.
use Rattle.std.proofs.Common.{◌≡◌, ℕ, zero, suc, ◌+◌, ◌<◌, ◌≤◌, true, false, Option, None, Some, List, [], ◌∷◌, drop, length, get_or, refl, ap, sym, ◌∙◌, arith}
use Rattle.std.specs.Prelude.{is_some}
use Rattle.live_run.specs.declared.fault.Fault.{Fault}
use Rattle.live_rings.specs.Program.{first_fault}

-- what is found at a place, and what stands behind it
pub dropped : {A : Type 0} (ds : List A) (i : ℕ) (x : A) → i < length ds → x ≡ get_or ds i x → drop i ds ≡ x ∷ drop (i + 1) ds
dropped [] i x lt is = absurd (omega (arith, lt))
dropped {A = A} (d ∷ ds) zero x lt is = ap (λ (y : A). y ∷ ds) (sym is)
dropped {A = A} (d ∷ ds) (suc i) x lt is = dropped ds i x (omega (arith, lt)) is ∙ ap (λ (n : ℕ). x ∷ drop n (d ∷ ds)) (let e : suc (i + 1) ≡ suc i + 1 = omega arith in e)

pub skipped : (f : Option Fault) (fs : List (Option Fault)) → is_some f ≡ false → first_fault (f ∷ fs) ≡ first_fault fs
skipped None fs is = refl
skipped (Some fault) fs is = cc is

pub found : (f : Option Fault) (fs : List (Option Fault)) → is_some f ≡ true → first_fault (f ∷ fs) ≡ f
found None fs is = cc is
found (Some fault) fs is = refl

-- behind the last there is nothing
pub none_behind : {A : Type 0} (ds : List A) (n : ℕ) → length ds ≤ n → drop n ds ≡ []
none_behind [] zero le = refl
none_behind [] (suc n) le = refl
none_behind (d ∷ ds) zero le = absurd (omega (arith, le))
none_behind (d ∷ ds) (suc n) le = none_behind ds n (omega (arith, le))
