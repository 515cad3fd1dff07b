use Rattle.std.proofs.Common.{◌≡◌, ◌++◌, ◌∷◌, [], ◌∙◌, List, ap, sym, subst, Some, length, arith, ℕ, refl, vec_capacity}
use Rattle.turn_gate.specs.Passes.{seen}
use Rattle.perimeter_core.specs.History.{Element, run}
use Rattle.perimeter_core.specs.Legal.{May}
use Rattle.perimeter_core.specs.Deeds.{entries}
use Rattle.perimeter_core.specs.Blocks.{Blocks, peri}
use Rattle.squeue_state.specs.Naming.{Turned, setting_of}
use Rattle.squeue_state.specs.Behind.{Behind, IsPeri}
use Rattle.squeue_state.specs.Clauses.{named_of}
use Rattle.histories.specs.Elements.{claimed_by}
use Rattle.squeue_state.proofs.Turns.{lent, noted, ends, lies_free, hand_after, claimed_same, room_after}
use Rattle.squeue_state.proofs.Bounds.{few_hand, fill_fits}
use Rattle.squeue_state.proofs.squeue.Squeue.claim.Goals as goal

pub claim-resident-requires-clause-room : goal.claim-resident-requires-clause-room
claim-resident-requires-clause-room g c =
    let b = lent g.R.Resident c.turn.inside.of.value c.turn.inside.held c.args.turn c.args.self.now c.turn.invariant c.turn.view_is c.requires.squeue c.value.result.now c.value.ensures.value in
    let S = setting_of g.R.Resident.limits c.args.self.now.given in
    let n = (c.number-p.ensures ∙ ap (λ (u : Turned g.row.R.Denot). u.number) c.turn.view_is) in
    omega (arith, fill_fits g.R.Resident c.args.self.now.given c.value.result.now.inner c.args.turn.found c.args.es.now b c.requires.room, ap length b.chain, b.room, c.value.result.now.inner.chain.ok.0)

pub end_turn-pass-requires-clause-value : goal.end_turn-pass-requires-clause-value
end_turn-pass-requires-clause-value g c =
    let b = lent g.R.Resident c.turn.inside.of.value c.turn.inside.held c.args.turn c.args.self.now c.turn.invariant c.turn.view_is c.requires.squeue c.value.result.now c.value.ensures.value in
    let S = setting_of g.R.Resident.limits c.args.self.now.given in
    let n = (c.number-p.ensures ∙ ap (λ (u : Turned g.row.R.Denot). u.number) c.turn.view_is) in
    ends g.R.Resident c.turn.inside.held c.args.turn c.turn.inside.of.value c.args.self.now (named_of c.self.inside.gate) c.turn.view_is c.self.view_is c.claim-resident.new.self (λ k. claimed_by k c.args.es.now) (subst (λ k. Behind g.R.Resident c.args.self.now.given c.claim-resident.new.self (c.args.turn.found ++ claimed_by k c.args.es.now ∷ [])) n (c.claim-resident.ensures.behind c.args.self.now.given c.args.turn.found b (subst (λ k. May S c.args.turn.found (claimed_by k c.args.es.now)) (sym n) c.requires.may) c.requires.room))

pub end_turn-pass-requires-clause-noted : goal.end_turn-pass-requires-clause-noted
end_turn-pass-requires-clause-noted g c =
    noted g.R.Resident c.turn.inside.of.value c.turn.inside.held c.args.turn c.args.self.now (named_of c.self.inside.gate) c.turn.invariant c.turn.view_is c.requires.squeue c.self.view_is c.value.result.now c.value.ensures.value

pub returns-clause-resident : goal.returns-clause-resident
returns-clause-resident g c =
    let b = lent g.R.Resident c.turn.inside.of.value c.turn.inside.held c.args.turn c.args.self.now c.turn.invariant c.turn.view_is c.requires.squeue c.value.result.now c.value.ensures.value in
    let S = setting_of g.R.Resident.limits c.args.self.now.given in
    let n = (c.number-p.ensures ∙ ap (λ (u : Turned g.row.R.Denot). u.number) c.turn.view_is) in
    let there : c.value.result.now.inner.resident ≡ Some c.in-Some.resident = sym c.claim-resident.ensures.same.0 ∙ c.in-Some.is in
    let seen_is = c.end_turn-pass.ensures.seen ∙ ap (λ (u : Turned g.row.R.Denot). u.found ++ claimed_by u.number c.args.es.now ∷ []) c.turn.view_is in
    subst (λ (x : Blocks). IsPeri g.R.Resident c.args.self.now.given c.in-Some.resident x)
    (sym (ap (λ (H : List Element). peri S H) seen_is ∙ claimed_same S c.args.turn.found c.args.turn.number c.args.es.now c.requires.may))
    (lies_free g.R.Resident c.args.self.now.given c.value.result.now.inner.own c.value.result.now.inner.resident c.in-Some.resident (peri S c.args.turn.found) b.resident (b.own ∙ c.requires.may.step.0) there)

pub returns-clause-hand : goal.returns-clause-hand
returns-clause-hand g c =
    let b = lent g.R.Resident c.turn.inside.of.value c.turn.inside.held c.args.turn c.args.self.now c.turn.invariant c.turn.view_is c.requires.squeue c.value.result.now c.value.ensures.value in
    let S = setting_of g.R.Resident.limits c.args.self.now.given in
    let n = (c.number-p.ensures ∙ ap (λ (u : Turned g.row.R.Denot). u.number) c.turn.view_is) in
    let seen_is = c.end_turn-pass.ensures.seen ∙ ap (λ (u : Turned g.row.R.Denot). u.found ++ claimed_by u.number c.args.es.now ∷ []) c.turn.view_is in
    record {
      is_whole = hand_after S c.args.turn.found (claimed_by c.args.turn.number c.args.es.now) c.claim-resident.result.1.items (c.claim-resident.ensures.same.1 ∙ ap (λ xs. xs ++ entries c.args.es.now) b.chain) ∙ sym (ap (λ (H : List Element). (run S H).hand) seen_is);
      has_room = ap (λ (n : ℕ). Some n) (let full : vec_capacity c.claim-resident.result.1 ≡ c.args.self.now.given.room = omega (arith, c.claim-resident.ensures.room, b.room) in full) ∙ room_after c.args.self.now.given.room S c.args.turn.found (seen c.end_turn-pass.result) (claimed_by c.args.turn.number c.args.es.now) c.args.turn.number seen_is refl refl;
    }

pub invariant_of-result : goal.invariant_of-result
invariant_of-result g c =
    let b = lent g.R.Resident c.turn.inside.of.value c.turn.inside.held c.args.turn c.args.self.now c.turn.invariant c.turn.view_is c.requires.squeue c.value.result.now c.value.ensures.value in
    let S = setting_of g.R.Resident.limits c.args.self.now.given in
    let n = (c.number-p.ensures ∙ ap (λ (u : Turned g.row.R.Denot). u.number) c.turn.view_is) in
    let after = (subst (λ k. Behind g.R.Resident c.args.self.now.given c.claim-resident.new.self (c.args.turn.found ++ claimed_by k c.args.es.now ∷ [])) n (c.claim-resident.ensures.behind c.args.self.now.given c.args.turn.found b (subst (λ k. May S c.args.turn.found (claimed_by k c.args.es.now)) (sym n) c.requires.may) c.requires.room)) in
    let whole = hand_after S c.args.turn.found (claimed_by c.args.turn.number c.args.es.now) c.claim-resident.result.1.items (c.claim-resident.ensures.same.1 ∙ ap (λ xs. xs ++ entries c.args.es.now) b.chain) in
    (omega arith, omega (arith, c.claim-resident.result.1.ok.0, ap length whole, few_hand g.R.Resident c.args.self.now.given c.claim-resident.new.self (c.args.turn.found ++ claimed_by c.args.turn.number c.args.es.now ∷ []) after))
