-- What one sees of histories of the only connection of one squeue by computing them.
use Rattle.std.specs.Prelude.{◌≡◌, ℕ, zero, suc, ◌+◌, ◌/◌, ◌%◌, ◌<◌, ◌==◌, true, List, [], ◌∷◌, slice_get, Some}
use Rattle.std.proofs.Common.{refl, sym, subst, ap, ◌∙◌, arith}
use Rattle.std.proofs.lemmas.Option.{slice_get_within}
use Rattle.perimeter_core.specs.declared.entries.Act.{Act}
use Rattle.perimeter_core.specs.Perimeter.{is_here}
use Rattle.perimeter_core.specs.History.{Element, Setting, start}
use Rattle.perimeter_core.specs.Deeds.{fed}
use Rattle.perimeter_core.specs.Legal.{Legal}
use Rattle.histories.specs.Endings.{Ending}
use Rattle.histories.specs.Noted.{AreNoted}
use Rattle.histories.specs.Stays.{AreLinked, IsLinked, StartsAtHome, Stay, all_in, stay, stays, stays_in}

-- the only place of a list of one
pub only : {A : Type 0} (x y : A) (q : ℕ) → slice_get (x ∷ []) q ≡ Some y → (q ≡ 0) × (x ≡ y)
only x y zero e = (refl, cc e)
only x y (suc q) e = absurd (omega (arith, slice_get_within (x ∷ []) (suc q) y e))

pub is_zero : (c : ℕ) → c < 1 → c ≡ 0
is_zero c lt = omega (arith, lt)

-- with one squeue, stay s is stay s of squeue 0
at_one : (s : ℕ) → ((0 + s) % 1 ≡ 0) × (s / 1 ≡ s)
at_one s = (omega arith, omega arith)

module _ (S : Setting) (H : List Element) (had : List Act) where
  abbrev end : Ending
  end = record { number = 0; setting = S; history = H }

  abbrev only_stay : Stay
  only_stay = record { note = []; own = had; had = had }

  -- the block has one stay, in which it had this order
  pub record Stayed : Type 0 where
    pub starts : is_here (start S) 0 ≡ true
    pub one_stay : all_in (stays S H 0) ≡ only_stay ∷ []

  module _ (stayed : Stayed) (legal : Legal S H) where
    the_stay : (s : ℕ) (v : Stay) → stay (end ∷ []) 0 s ≡ Some v → (s ≡ 0) × (v.note ≡ [])
    the_stay s v e =
        let a = at_one s in
        let there : slice_get (all_in (stays S H 0)) s ≡ Some v =
        subst (λ k. slice_get (all_in (stays S H 0)) k ≡ Some v) a.1
        (subst (λ k. slice_get (all_in (stays_in (slice_get (end ∷ []) k) 0)) (s / 1) ≡ Some v) a.0 e) in
        let o = only only_stay v s (subst (λ (l : List Stay). slice_get l s ≡ Some v) stayed.one_stay there) in
        (o.0, ap (λ (w : Stay). w.note) (sym o.1))

    at_home : StartsAtHome (end ∷ []) 0
    at_home q h at = let o = only end h q at in subst (λ k. is_here (start h.setting) 0 ≡ (k == 0 % 1)) (sym o.0) (subst (λ (f : Ending). is_here (start f.setting) 0 ≡ (0 == 0 % 1)) o.1 stayed.starts)

    pub linked : AreLinked 1 (end ∷ [])
    linked = record {
      legal = λ q h at. subst (λ (f : Ending). Legal f.setting f.history) (only end h q at).1 legal;
      home = λ c lt. subst (StartsAtHome (end ∷ [])) (sym (is_zero c lt)) at_home;
      linked = λ c lt. subst (IsLinked (end ∷ [])) (sym (is_zero c lt)) (λ s v e. absurd (omega (arith, (the_stay (s + 1) v e).0)));
    }

    pub noted : (c : ℕ) → c < 1 → AreNoted 0 (end ∷ []) c
    noted c lt = subst (AreNoted 0 (end ∷ [])) (sym (is_zero c lt)) (λ s v e. let o = the_stay s v e in ap fed o.1 ∙ (omega arith))
