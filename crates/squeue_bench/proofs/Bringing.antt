-- What a ring may still enter, chain by chain.
use Rattle.std.proofs.Common.{◌≡◌, ℕ, Some, Option, List, ◌++◌, take, drop, sym, subst, ◌∙◌}
use Rattle.std.proofs.lemmas.List.{take-append-drop}
use Rattle.turn_gate.specs.Passes.{number}
use Rattle.turn_gate.specs.declared.pass.Pass.{Pass}
use Rattle.perimeter_core.specs.declared.entries.Feed.{Feed}
use Rattle.perimeter_core.specs.History.{Element, Limits}
use Rattle.squeue_state.specs.Naming.{Named}
use Rattle.squeue_state.specs.AllRoom.{HasAllRoom}
use Rattle.squeue_enter.specs.Entering.{MayEnter, MayGoOn}
use Rattle.squeue_enter.proofs.Bringing.{may_front}
use Rattle.squeue_bench.specs.Places.{MayBring}

module _ {R : Type 0} (limits : R → Limits) (bound : ℕ) (s : Named R) (k chain : ℕ) (rest : List Feed) (p : Pass Element) where
  split : MayEnter limits s p rest → MayEnter limits s p (take chain rest ++ drop chain rest)
  split may = subst (MayEnter limits s p) (sym (take-append-drop chain rest)) may

  pub chain_may : (o : Option (Pass Element)) → MayBring limits bound k rest s o → o ≡ Some p → MayEnter limits s p (take chain rest)
  chain_may o h is = may_front limits s p (take chain rest) (drop chain rest) (split (subst (MayBring limits bound k rest s) is h).0)

  pub has_room : (o : Option (Pass Element)) → MayBring limits bound k rest s o → o ≡ Some p → bound ≡ 0 → HasAllRoom s.given
  has_room o h is = (subst (MayBring limits bound k rest s) is h).2

  pub rest_may : (o n : Option (Pass Element)) (q : Pass Element) → MayBring limits bound k rest s o → o ≡ Some p → n ≡ Some q → number q ≡ number p → MayGoOn limits s (take chain rest) p q → MayBring limits bound k (drop chain rest) s n
  rest_may o n q h is now same on =
      let b = subst (MayBring limits bound k rest s) is h in
      subst (MayBring limits bound k (drop chain rest) s) (sym now) (on (drop chain rest) (split b.0), same ∙ b.1, b.2)
