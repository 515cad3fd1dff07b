-- A block leaves a perimeter at most as often as it may.
use Rattle.std.proofs.Common.{◌≡◌, ℕ, ◌+◌, ◌≤◌, Bool, true, false, if◌then◌else◌, List, [], ◌∷◌, ◌++◌, slice_index, refl, subst, arith}
use Rattle.std.proofs.lemmas.Bool.Decides.{nat_tests}
use Rattle.perimeter_core.specs.declared.marks.SynchAct.TheVariants as Done
use Rattle.perimeter_core.specs.declared.marks.Mark.{Mark}
use Rattle.perimeter_core.specs.declared.marks.Mark.TheVariants as On
use Rattle.perimeter_core.specs.Perimeter.{State}
use Rattle.perimeter_core.specs.History.{Element, Setting, run}
use Rattle.perimeter_core.specs.Deeds.{takes_out, times_left}
use Rattle.perimeter_core.specs.Legal.{Legal, ActsFit}
use Rattle.perimeter_core.proofs.OneMore.{legal_ind}

pub left_push : (c : ℕ) (H : List Element) (e : Element) → times_left c (H ++ e ∷ []) ≡ times_left c H + (if takes_out c e.mark then 1 else 0)
left_push c [] e = omega arith
left_push c (x ∷ H) e = omega (arith, left_push c H e)

-- who takes a block out finds it below its limit
pub may_leave : (S : Setting) (H : List Element) (s : State) (c : ℕ) (m : Mark) → ActsFit S H s m → takes_out c m ≡ true → times_left c H + 1 ≤ slice_index S.limits.leaves c
may_leave S H s c (On.Leave p rest (Done.Out d)) fits is =
    let same : d ≡ c = grind (arith, nat_tests, is) in
    subst (λ (k : ℕ). times_left k H + 1 ≤ slice_index S.limits.leaves k) same (omega (arith, fits.2))
may_leave S H s c (On.Leave p rest Done.None) fits is = absurd (let no : false ≡ true = is in let bad : ⊥ = cc in bad)
may_leave S H s c (On.Leave p rest (Done.Call d j k)) fits is = absurd (let no : false ≡ true = is in let bad : ⊥ = cc in bad)
may_leave S H s c (On.Leave p rest Done.Away) fits is = absurd (let no : false ≡ true = is in let bad : ⊥ = cc in bad)
may_leave S H s c (On.Leave p rest (Done.In d)) fits is = absurd (let no : false ≡ true = is in let bad : ⊥ = cc in bad)
may_leave S H s c (On.Fill p es) fits is = absurd (let no : false ≡ true = is in let bad : ⊥ = cc in bad)
may_leave S H s c (On.Fast p e) fits is = absurd (let no : false ≡ true = is in let bad : ⊥ = cc in bad)
may_leave S H s c (On.Claim p es) fits is = absurd (let no : false ≡ true = is in let bad : ⊥ = cc in bad)
may_leave S H s c (On.Take p) fits is = absurd (let no : false ≡ true = is in let bad : ⊥ = cc in bad)
may_leave S H s c (On.Ask p) fits is = absurd (let no : false ≡ true = is in let bad : ⊥ = cc in bad)
may_leave S H s c (On.Grant p j rest) fits is = absurd (let no : false ≡ true = is in let bad : ⊥ = cc in bad)
may_leave S H s c (On.Accept j) fits is = absurd (let no : false ≡ true = is in let bad : ⊥ = cc in bad)
may_leave S H s c (On.Work p) fits is = absurd (let no : false ≡ true = is in let bad : ⊥ = cc in bad)
may_leave S H s c (On.Close p) fits is = absurd (let no : false ≡ true = is in let bad : ⊥ = cc in bad)

pub leaves_few : (S : Setting) (H : List Element) (c : ℕ) → Legal S H → times_left c H ≤ slice_index S.limits.leaves c
leaves_few S H c l =
    legal_ind S (λ (G : List Element). times_left c G ≤ slice_index S.limits.leaves c) (omega arith) (λ G e k i m. step G e i m.act) H l
  where
    step : (G : List Element) (e : Element) → times_left c G ≤ slice_index S.limits.leaves c → ActsFit S G (run S G) e.mark → times_left c (G ++ e ∷ []) ≤ slice_index S.limits.leaves c
    step G e i fits = by (takes_out c e.mark) refl (left_push c G e)
      where
        by : (b : Bool) → takes_out c e.mark ≡ b → times_left c (G ++ e ∷ []) ≡ times_left c G + (if b then 1 else 0) → times_left c (G ++ e ∷ []) ≤ slice_index S.limits.leaves c
        by true is more = omega (arith, more, may_leave S G (run S G) c e.mark fits is)
        by false is more = omega (arith, more, i)
