-- An application thread whose passes are new.
use Rattle.std.proofs.Common.{◌≡◌, ℕ, ◌+◌, Option, Some, None, List, [], ◌∷◌, refl, ap, sym, subst, arith}
use Rattle.turn_gate.specs.Passes.{seen}
use Rattle.turn_gate.specs.declared.pass.Pass.{Pass}
use Rattle.perimeter_core.specs.Perimeter.{Idle}
use Rattle.perimeter_core.specs.History.{Element, Limits, run}
use Rattle.perimeter_core.specs.Legal.{Legal, asks_by}
use Rattle.squeue_state.specs.Naming.{Named, setting_of}
use Rattle.squeue_serve.specs.Places.{AtEach, Holds, IsNew}
use Rattle.squeue_serve.proofs.Unused.{start_idle}
use Rattle.squeue_rings.specs.Made.{made_in, times_made}
use Rattle.squeue_rings.specs.Calling.{CallerAt, CallersAt}
use Rattle.squeue_rings.specs.OwnMarks.{EachOwn, OfThread, next_call}

module _ {R : Type 0} (limits : R → Limits) (j : ℕ) where
  new_caller : (s : Named R) (x : Pass Element) → IsNew (s.given.rings + j) s x → CallerAt limits s j [] x
  new_caller s x new =
      record {
        pass = new.pass;
        is_number = new.is_number;
        idle =
            subst (λ (H : List Element). Idle (run (setting_of limits s.given) H) (s.given.rings + j)) (sym new.none_seen) (start_idle (setting_of limits s.given) (s.given.rings + j));
        legal = subst (λ (H : List Element). Legal (setting_of limits s.given) H) (sym new.none_seen) tt;
        asks = let e : asks_by (s.given.rings + j) (seen x) ≡ 0 = ap (asks_by (s.given.rings + j)) new.none_seen in omega (arith, e);
        exact = subst (λ (H : List Element). EachOwn (OfThread (setting_of limits s.given) j) (s.given.rings + j) [] H) (sym new.none_seen) tt;
        next = let e : next_call (s.given.rings + j) (seen x) ≡ 0 = ap (next_call (s.given.rings + j)) new.none_seen in omega (arith, e);
      }

  each_new : (ss : List (Named R)) (places : List (Option (Pass Element))) → AtEach (λ s o. Holds (IsNew (s.given.rings + j) s) o) ss places
      → AtEach (λ s o. Holds (CallerAt limits s j []) o) ss places
  each_new [] [] h = tt
  each_new [] (o ∷ os) h = absurd h
  each_new (s ∷ ss) [] h = absurd h
  each_new (s ∷ ss) (None ∷ os) h = absurd h.0
  each_new (s ∷ ss) (Some x ∷ os) h = (new_caller s x h.0, each_new ss os h.1)

  nothing_made : (c k : ℕ) (ss : List (Named R)) (places : List (Option (Pass Element))) → AtEach (λ s o. Holds (IsNew (s.given.rings + j) s) o) ss places
      → made_in c j k places ≡ 0
  nothing_made c k [] [] h = refl
  nothing_made c k [] (o ∷ os) h = absurd h
  nothing_made c k (s ∷ ss) [] h = absurd h
  nothing_made c k (s ∷ ss) (None ∷ os) h = absurd h.0
  nothing_made c k (s ∷ ss) (Some x ∷ os) h =
      let e : times_made c j k (seen x) ≡ 0 = ap (times_made c j k) h.0.none_seen in
      let r = nothing_made c k ss os h.1 in
      omega (arith, e, r)

  pub new_callers : (ss : List (Named R)) (places : List (Option (Pass Element))) → AtEach (λ s o. Holds (IsNew (s.given.rings + j) s) o) ss places
      → CallersAt limits j [] ss places
  new_callers ss places h = record { each = each_new ss places h; made = λ c k. nothing_made c k ss places h }
