-- The owners of one squeue are one.
use Rattle.std.proofs.Common.{◌≡◌, ℕ, List, ◌++◌, ap, sym, ◌∙◌, subst}
use Rattle.turn_gate.specs.Passes.{number, seen}
use Rattle.perimeter_core.specs.declared.resident.Resident.{Ghosts}
use Rattle.perimeter_core.specs.declared.entries.Act.{Act}
use Rattle.perimeter_core.specs.declared.marks.Own.TheVariants.{Out}
use Rattle.perimeter_core.specs.History.{Element, Setting, run}
use Rattle.perimeter_core.specs.Legal.{Legal}
use Rattle.perimeter_core.proofs.Since.{known_since}
use Rattle.squeue_state.specs.Naming.{Named, setting_of}
use Rattle.squeue_drain.specs.declared.owner.Owner.{Owner}
use Rattle.squeue_drain.specs.Owning.{NothingSince, Owns}

same_out : (a b : ℕ) → Out a ≡ Out b → a ≡ b
same_out a b e = cc

module _ {R P O : Type 0} (G : Ghosts R P O) (s : Named R) (H : List Element) where
  pub is_named : (note : List Act) (o : Owner R) → Legal (setting_of G.limits s.given) H → Owns G s note o → NothingSince H o → (run (setting_of G.limits s.given) H).own ≡ Out (number o.pass)
  is_named note o l is n =
      let S : Setting = setting_of G.limits s.given in
      let legal : Legal S (seen o.pass ++ n.0) = subst (λ (G : List Element). Legal S G) n.1 l in
      ap (λ (G : List Element). (run S G).own) n.1 ∙ ((known_since S (seen o.pass) n.0 (number o.pass) legal n.2).owner is.own).0

  pub are_one : (note another : List Act) (o q : Owner R) → Legal (setting_of G.limits s.given) H → Owns G s note o → NothingSince H o → Owns G s another q → NothingSince H q → number o.pass ≡ number q.pass
  are_one note another o q l is n too m = same_out (number o.pass) (number q.pass) (sym (is_named note o l is n) ∙ is_named another q l too m)
