-- What is written out of a look was seen.
use Rattle.std.specs.Prelude.{ℕ, zero, suc, ◌+◌, [], ◌∷◌, None, Some, length, slice_get}
use Rattle.std.proofs.Common.{refl, sym, subst, ap, ◌∙◌}
use Rattle.turn_gate.specs.Passes.{number, seen}
use Rattle.turn_gate.specs.declared.pass.Pass.{Pass}
use Rattle.turn_gate.specs.History.{Begins}
use Rattle.perimeter_core.specs.Blocks.{peri}
use Rattle.perimeter_core.specs.History.{Element, run}
use Rattle.perimeter_core.specs.Legal.{Legal, asks_by}
use Rattle.perimeter_core.specs.Perimeter.{Idle}
use Rattle.placed_parts.specs.Placing.{MayBe, Stands}
use Rattle.placed_parts.specs.Standing.{PlaceAt, PlacesStand}
use Rattle.placed_parts.specs.declared.parts.Parts.{Ghosts}
use Rattle.placed_parts.specs.declared.places.Places.{Places}
use Rattle.squeue_state.specs.Naming.{Named, setting_of}
use Rattle.squeue_state.specs.Behind.{IsPeri}
use Rattle.squeue_pool.specs.Placed.{as_resident}
use Rattle.worked_runs.specs.OneLook.{HasLooked, IsLooked, after, before, order, setting}

idle : Idle (run setting after) 1
idle = record { open_pass = refl; no_owner = λ e. cc e; not_granted = λ e. cc e; not_in_hand = refl; not_in_chain = refl }

module _ {S P O : Type 0} (G : Ghosts S P O) (s : Named (Places S P O G)) (r : Places S P O G) (part : P) (from to : Pass Element) (is : IsLooked G s r part from to) where
  own : MayBe r 0 part order
  own = (is.stands.0, (refl, is.stands.1))

  at : (c : ℕ) → PlaceAt (MayBe r) c (slice_get (Some part ∷ []) c) (peri setting after c)
  at zero = own
  at (suc c) = tt

  stands : Stands r (peri setting after)
  stands = subst (λ ps. PlacesStand (MayBe r) ps (peri setting after)) (sym is.lies) at

  is_peri : IsPeri (as_resident G) s.given r (peri setting after)
  is_peri = record { stands_for = stands; same_limits = is.same.0; same_size = ap length is.lies ∙ sym (ap (λ x. length x.starts) is.setting_is); same_origin = is.same.1 }

  pub has_looked : Legal setting after → HasLooked G s from to (Some part ∷ [])
  has_looked legal = record {
    goes_on = record {
      is_pass = is.is_pass;
      same_number = is.numbers.1 ∙ sym is.numbers.0;
      grows = subst (λ h. Begins h (seen to)) (sym is.saw.0) (subst (Begins before) (sym is.saw.1) (_, refl));
      legal = subst (λ x. Legal x (seen to)) (sym is.setting_is) (subst (Legal setting) (sym is.saw.1) legal);
    };
    has_seen = record {
      resident = r;
      stands = subst (λ x. IsPeri (as_resident G) s.given r (peri x (seen to))) (sym is.setting_is) (subst (λ h. IsPeri (as_resident G) s.given r (peri setting h)) (sym is.saw.1) is_peri);
      says = is.lies;
    };
    idle = subst (λ x. Idle (run x (seen to)) (number to)) (sym is.setting_is)
        (subst (λ h. Idle (run setting h) (number to)) (sym is.saw.1) (subst (Idle (run setting after)) (sym is.numbers.1) idle));
    asks = ap (λ n. asks_by n (seen to)) is.numbers.1 ∙ (ap (asks_by 1) is.saw.1 ∙ sym (ap (λ n. asks_by n (seen from) + 1) is.numbers.0 ∙ ap (λ h. asks_by 1 h + 1) is.saw.0));
  }

  -- where the connection is here, its place isn't empty
  pub no_empty : HasLooked G s from to (None ∷ []) → ⊥
  no_empty looked =
      let r' = looked.has_seen.resident in
      let stood : Stands r' (peri (setting_of (as_resident G).limits s.given) (seen to)) = looked.has_seen.stands.stands_for in
      let there = subst (λ x. Stands r' (peri x (seen to))) is.setting_is stood in
      let then = subst (λ h. Stands r' (peri setting h)) is.saw.1 there in
      subst (λ ps. PlacesStand (MayBe r') ps (peri setting after)) looked.has_seen.says then 0
