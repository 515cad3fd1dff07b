use Rattle.std.proofs.Common.{◌≡◌, ◌++◌, ◌∷◌, [], ◌∙◌, List, ap, sym, subst, Some, vec_capacity, length, arith, ℕ, refl}
use Rattle.turn_gate.specs.Passes.{seen}
use Rattle.perimeter_core.specs.History.{Element, start, run}
use Rattle.perimeter_core.specs.Legal.{May}
use Rattle.perimeter_core.specs.Blocks.{Blocks, peri}
use Rattle.perimeter_core.proofs.OneMore.{run_push}
use Rattle.squeue_state.specs.Naming.{Turned, setting_of}
use Rattle.squeue_state.specs.Behind.{Behind, IsPeri}
use Rattle.squeue_state.specs.Clauses.{named_of}
use Rattle.histories.specs.Elements.{worked_by}
use Rattle.squeue_state.proofs.squeue.Squeue.work.Goals as goal
use Rattle.squeue_state.proofs.Turns.{lent, noted, ends, lies_free, worked_same, hand_after, room_after}
use Rattle.squeue_state.proofs.Bounds.{few_hand}

pub end_turn-pass-requires-clause-value : goal.end_turn-pass-requires-clause-value
end_turn-pass-requires-clause-value g c =
    let b = lent g.R.Resident c.turn.inside.of.value c.turn.inside.held c.args.turn c.args.self.now c.turn.invariant c.turn.view_is c.requires.squeue c.value.result.now c.value.ensures.value in
    let S = setting_of g.R.Resident.limits c.args.self.now.given in
    let n = (c.number-p.ensures ∙ ap (λ (u : Turned g.row.R.Denot). u.number) c.turn.view_is) in
    ends g.R.Resident c.turn.inside.held c.args.turn c.turn.inside.of.value c.args.self.now (named_of c.self.inside.gate) c.turn.view_is c.self.view_is c.work-resident.new.self worked_by
    (subst (λ k. Behind g.R.Resident c.args.self.now.given c.work-resident.new.self (c.args.turn.found ++ worked_by k ∷ [])) n
    (c.work-resident.ensures.behind c.args.self.now.given c.args.turn.found b (subst (λ k. May S c.args.turn.found (worked_by k)) (sym n) c.requires.may)))

pub returns-clause-resident : goal.returns-clause-resident
returns-clause-resident g c =
    let b = lent g.R.Resident c.turn.inside.of.value c.turn.inside.held c.args.turn c.args.self.now c.turn.invariant c.turn.view_is c.requires.squeue c.value.result.now c.value.ensures.value in
    let S = setting_of g.R.Resident.limits c.args.self.now.given in
    let there : c.value.result.now.inner.resident ≡ Some c.in-Some.resident = sym c.work-resident.ensures.same.0 ∙ c.in-Some.is in
    let seen_is = c.end_turn-pass.ensures.seen ∙ ap (λ (u : Turned g.row.R.Denot). u.found ++ worked_by u.number ∷ []) c.turn.view_is in
    subst (λ (x : Blocks). IsPeri g.R.Resident c.args.self.now.given c.in-Some.resident x)
    (sym (ap (λ (H : List Element). peri S H) seen_is ∙ worked_same S c.args.turn.found c.args.turn.number c.requires.may)) (lies_free g.R.Resident c.args.self.now.given c.value.result.now.inner.own c.value.result.now.inner.resident c.in-Some.resident (peri S c.args.turn.found) b.resident (b.own ∙ c.requires.may.step.0) there)

pub returns-clause-hand : goal.returns-clause-hand
returns-clause-hand g c =
    let b = lent g.R.Resident c.turn.inside.of.value c.turn.inside.held c.args.turn c.args.self.now c.turn.invariant c.turn.view_is c.requires.squeue c.value.result.now c.value.ensures.value in
    let S = setting_of g.R.Resident.limits c.args.self.now.given in
    let seen_is = c.end_turn-pass.ensures.seen ∙ ap (λ (u : Turned g.row.R.Denot). u.found ++ worked_by u.number ∷ []) c.turn.view_is in
    let chain = c.work-resident.ensures.same.1 in
    record {
      is_whole = ap (λ v. v.items) chain ∙ (b.chain ∙ sym (ap (λ (H : List Element). (run S H).hand) seen_is ∙ ap (λ s. s.hand) (run_push (start S) c.args.turn.found (worked_by c.args.turn.number))));
      has_room = ap (λ (n : ℕ). Some n) (sym (subst (λ k. c.args.self.now.given.room ≡ k) (sym (ap (λ v. vec_capacity v) chain)) b.room)) ∙ room_after c.args.self.now.given.room S c.args.turn.found (seen c.end_turn-pass.result) (worked_by c.args.turn.number) c.args.turn.number seen_is refl refl;
    }

pub end_turn-pass-requires-clause-noted : goal.end_turn-pass-requires-clause-noted
end_turn-pass-requires-clause-noted g c =
    noted g.R.Resident c.turn.inside.of.value c.turn.inside.held c.args.turn c.args.self.now (named_of c.self.inside.gate) c.turn.invariant c.turn.view_is c.requires.squeue c.self.view_is c.value.result.now c.value.ensures.value

pub invariant_of-result : goal.invariant_of-result
invariant_of-result g c =
    let b = lent g.R.Resident c.turn.inside.of.value c.turn.inside.held c.args.turn c.args.self.now c.turn.invariant c.turn.view_is c.requires.squeue c.value.result.now c.value.ensures.value in
    let S = setting_of g.R.Resident.limits c.args.self.now.given in
    let n = (c.number-p.ensures ∙ ap (λ (u : Turned g.row.R.Denot). u.number) c.turn.view_is) in
    let after = (subst (λ k. Behind g.R.Resident c.args.self.now.given c.work-resident.new.self (c.args.turn.found ++ worked_by k ∷ [])) n (c.work-resident.ensures.behind c.args.self.now.given c.args.turn.found b (subst (λ k. May S c.args.turn.found (worked_by k)) (sym n) c.requires.may))) in
    let whole = hand_after S c.args.turn.found (worked_by c.args.turn.number) c.work-resident.result.1.items (ap (λ v. v.items) c.work-resident.ensures.same.1 ∙ b.chain) in
    (omega arith, omega (arith, c.work-resident.result.1.ok.0, ap length whole, few_hand g.R.Resident c.args.self.now.given c.work-resident.new.self (c.args.turn.found ++ worked_by c.args.turn.number ∷ []) after))
