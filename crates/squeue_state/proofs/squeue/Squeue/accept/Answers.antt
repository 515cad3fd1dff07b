use Rattle.std.proofs.Common.{◌≡◌, ◌++◌, ◌∷◌, [], ◌∙◌, List, ap, sym, subst, Some, ℕ, refl}
use Rattle.turn_gate.specs.Passes.{seen}
use Rattle.perimeter_core.specs.History.{Element, start, run}
use Rattle.perimeter_core.specs.Legal.{May}
use Rattle.perimeter_core.specs.Blocks.{Blocks, peri}
use Rattle.perimeter_core.proofs.OneMore.{run_push}
use Rattle.squeue_state.specs.Naming.{Turned, setting_of}
use Rattle.squeue_state.specs.Behind.{Behind, IsPeri}
use Rattle.squeue_state.specs.Clauses.{named_of}
use Rattle.histories.specs.Elements.{accepted_by}
use Rattle.squeue_state.proofs.squeue.Squeue.accept.Goals as goal
use Rattle.squeue_state.proofs.Turns.{lent, noted, ends, lies_granted, accepted_same, room_after}
use Rattle.squeue_state.specs.Lone.{is_lone}
use Rattle.squeue_state.proofs.Steps.{spare_granted}

pub end_turn-pass-requires-clause-value : goal.end_turn-pass-requires-clause-value
end_turn-pass-requires-clause-value g c =
    let b = lent g.R.Resident c.turn.inside.of.value c.turn.inside.held c.args.turn c.args.self.now c.turn.invariant c.turn.view_is c.requires.squeue c.value.result.now c.value.ensures.value in
    let S = setting_of g.R.Resident.limits c.args.self.now.given in
    let n = (c.number-p.ensures ∙ ap (λ (u : Turned g.row.R.Denot). u.number) c.turn.view_is) in
    ends g.R.Resident c.turn.inside.held c.args.turn c.turn.inside.of.value c.args.self.now (named_of c.self.inside.gate) c.turn.view_is c.self.view_is c.accept-resident.new.self accepted_by
    (subst (λ k. Behind g.R.Resident c.args.self.now.given c.accept-resident.new.self (c.args.turn.found ++ accepted_by k ∷ [])) n
    (c.accept-resident.ensures.behind c.args.self.now.given c.args.turn.found b (subst (λ k. May S c.args.turn.found (accepted_by k)) (sym n) c.requires.may)))

pub returns-clause-resident : goal.returns-clause-resident
returns-clause-resident g c =
    let b = lent g.R.Resident c.turn.inside.of.value c.turn.inside.held c.args.turn c.args.self.now c.turn.invariant c.turn.view_is c.requires.squeue c.value.result.now c.value.ensures.value in
    let S = setting_of g.R.Resident.limits c.args.self.now.given in
    let there : c.value.result.now.inner.resident ≡ Some c.in-Some.resident = sym c.accept-resident.ensures.same.0 ∙ c.in-Some.is in
    let seen_is = c.end_turn-pass.ensures.seen ∙ ap (λ (u : Turned g.row.R.Denot). u.found ++ accepted_by u.number ∷ []) c.turn.view_is in
    subst (λ (x : Blocks). IsPeri g.R.Resident c.args.self.now.given c.in-Some.resident x)
    (sym (ap (λ (H : List Element). peri S H) seen_is ∙ accepted_same S c.args.turn.found c.args.turn.number c.requires.may)) (lies_granted g.R.Resident c.args.self.now.given c.value.result.now.inner.own c.args.turn.number c.value.result.now.inner.resident c.in-Some.resident (peri S c.args.turn.found) b.resident (b.own ∙ c.requires.may.step) there)

pub returns-clause-hand : goal.returns-clause-hand
returns-clause-hand g c =
    let b = lent g.R.Resident c.turn.inside.of.value c.turn.inside.held c.args.turn c.args.self.now c.turn.invariant c.turn.view_is c.requires.squeue c.value.result.now c.value.ensures.value in
    let S = setting_of g.R.Resident.limits c.args.self.now.given in
    let seen_is = c.end_turn-pass.ensures.seen ∙ ap (λ (u : Turned g.row.R.Denot). u.found ++ accepted_by u.number ∷ []) c.turn.view_is in
    let sp = spare_granted c.args.self.now.given.room (is_lone c.value.result.now.inner.own c.args.turn.found) c.value.result.now.inner.in_hand c.value.result.now.inner.own c.args.turn.number c.value.result.now.inner.spare c.in-Some-spare.entries b.spare (b.own ∙ c.requires.may.step) (sym c.accept-resident.ensures.same.1 ∙ c.in-Some-spare.is) in
    record {
      is_whole = sp.0 ∙ sym (ap (λ (H : List Element). (run S H).hand) seen_is ∙ ap (λ s. s.hand) (run_push (start S) c.args.turn.found (accepted_by c.args.turn.number)));
      has_room = ap (λ (n : ℕ). Some n) (sym sp.1) ∙ room_after c.args.self.now.given.room S c.args.turn.found (seen c.end_turn-pass.result) (accepted_by c.args.turn.number) c.args.turn.number seen_is refl refl;
    }

pub end_turn-pass-requires-clause-noted : goal.end_turn-pass-requires-clause-noted
end_turn-pass-requires-clause-noted g c =
    noted g.R.Resident c.turn.inside.of.value c.turn.inside.held c.args.turn c.args.self.now (named_of c.self.inside.gate) c.turn.invariant c.turn.view_is c.requires.squeue c.self.view_is c.value.result.now c.value.ensures.value
