-- What a thread needs to close its passes.
use Rattle.std.proofs.Common.{ℕ, ◌+◌, ◌<◌, Option, Some, None, List, [], ◌∷◌, length, sym, subst, arith}
use Rattle.turn_gate.specs.History.{Each}
use Rattle.turn_gate.specs.Passes.{seen}
use Rattle.turn_gate.specs.declared.pass.Pass.{Pass}
use Rattle.perimeter_core.specs.declared.entries.Feed.{Feed}
use Rattle.perimeter_core.specs.Perimeter.{Idle}
use Rattle.perimeter_core.specs.History.{Element, Limits, run}
use Rattle.squeue_state.specs.Naming.{Named, setting_of}
use Rattle.squeue_serve.specs.Places.{AtEach, Holds, MayClose}
use Rattle.squeue_rings.specs.Rings.{MayBring, RingAt}
use Rattle.squeue_rings.specs.Bringing.{AreAt, MayBringAll}
use Rattle.squeue_rings.specs.Calling.{CallerAt, CallersAt}

pub both : {R A : Type 0} (P : Named R → Type 0) (Q T : Named R → A → Type 0) → ((s : Named R) (a : A) → P s → Q s a → T s a) → (ss : List (Named R)) (os : List A) → Each P ss → AtEach Q ss os → AtEach T ss os
both P Q T f [] [] e h = tt
both P Q T f [] (o ∷ os) e h = absurd h
both P Q T f (s ∷ ss) [] e h = absurd h
both P Q T f (s ∷ ss) (o ∷ os) e h = (f s o e.0 h.0, both P Q T f ss os e.1 h.1)

module _ {R : Type 0} (limits : R → Limits) where
  may_close : (s : Named R) (p : ℕ) (o : Option (Pass Element)) → p < length s.given.quotas → (P : Pass Element → Type 0) → ((x : Pass Element) → P x → MayClose limits s x) → Holds P o → Holds (MayClose limits s) o
  may_close s p None lt P f h = absurd h
  may_close s p (Some x) lt P f h = f x h

  pub ring_may_close : (squeues spread r : ℕ) (list entered reached : List Feed) (ss : List (Named R)) (places : List (Option (Pass Element))) → MayBringAll limits squeues spread r list ss
      → AreAt limits squeues spread r ss entered reached places → AtEach (λ s o. Holds (MayClose limits s) o) ss places
  ring_may_close squeues spread r list entered reached ss places may at =
      both (MayBring limits squeues spread r list) (λ s o. Holds (RingAt limits squeues spread r entered reached s) o) (λ s o. Holds (MayClose limits s) o)
      (λ s o m h. may_close s r o m.no_worker (RingAt limits squeues spread r entered reached s)
      (λ x a. record {
        pass = a.pass;
        other = let lt = m.no_worker in let e = a.is_number in omega (arith, lt, e);
        idle = subst (λ (n : ℕ). Idle (run (setting_of limits s.given) (seen x)) n) (sym a.is_number) a.idle;
      }) h)
      ss places may.may at.each

  -- each pass of an application thread is one that may be closed
  caller_each : (j : ℕ) (cs : List ℕ) (ss : List (Named R)) (places : List (Option (Pass Element))) → CallersAt limits j cs ss places → AtEach (λ s o. Holds (CallerAt limits s j cs) o) ss places
  caller_each j cs ss places at = at.each

  pub caller_may_close : (j : ℕ) (cs : List ℕ) (ss : List (Named R)) (places : List (Option (Pass Element))) → Each (λ s. s.given.rings + j < length s.given.quotas) ss
      → CallersAt limits j cs ss places → AtEach (λ s o. Holds (MayClose limits s) o) ss places
  caller_may_close j cs ss places no_worker at =
      both (λ s. s.given.rings + j < length s.given.quotas) (λ s o. Holds (CallerAt limits s j cs) o) (λ s o. Holds (MayClose limits s) o)
      (λ s o lt h. may_close s (s.given.rings + j) o lt (CallerAt limits s j cs)
      (λ x a. record {
        pass = a.pass;
        other = let e = a.is_number in omega (arith, lt, e);
        idle = subst (λ (n : ℕ). Idle (run (setting_of limits s.given) (seen x)) n) (sym a.is_number) a.idle;
      }) h)
      ss places no_worker (caller_each j cs ss places at)
