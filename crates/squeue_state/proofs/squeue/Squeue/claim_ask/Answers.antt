use Rattle.std.proofs.Common.{◌≡◌, ◌++◌, ◌∷◌, [], ◌∙◌, List, ap, sym, subst, Some, length, arith, ℕ, refl, vec_capacity}
use Rattle.turn_gate.specs.Passes.{seen}
use Rattle.perimeter_core.specs.declared.entries.Entry.TheVariants as Entry'
use Rattle.perimeter_core.specs.History.{Element, run}
use Rattle.perimeter_core.specs.Legal.{May}
use Rattle.perimeter_core.specs.Blocks.{Blocks, peri}
use Rattle.squeue_state.specs.Naming.{Turned, setting_of}
use Rattle.squeue_state.specs.Behind.{Behind, IsPeri}
use Rattle.squeue_state.specs.Clauses.{named_of}
use Rattle.histories.specs.Elements.{ask_claimed_by}
use Rattle.squeue_state.proofs.Turns.{lent, noted, ends, lies_free, hand_after, claimed_ask_same, room_after}
use Rattle.squeue_state.proofs.Bounds.{few_hand, claim_ask_fits}
use Rattle.squeue_state.proofs.squeue.Squeue.claim_ask.Goals as goal

pub claim_ask-resident-requires-clause-room : goal.claim_ask-resident-requires-clause-room
claim_ask-resident-requires-clause-room g c =
    let b = lent g.R.Resident c.turn.inside.of.value c.turn.inside.held c.args.turn c.args.self.now c.turn.invariant c.turn.view_is c.requires.squeue c.value.result.now c.value.ensures.value in
    let S = setting_of g.R.Resident.limits c.args.self.now.given in
    let n = (c.number-p.ensures ∙ ap (λ (u : Turned g.row.R.Denot). u.number) c.turn.view_is) in
    omega (arith, claim_ask_fits g.R.Resident c.args.self.now.given c.value.result.now.inner c.args.turn.found c.args.turn.number b c.requires.may, ap length b.chain, b.room, c.value.result.now.inner.chain.ok.0)

pub end_turn-pass-requires-clause-value : goal.end_turn-pass-requires-clause-value
end_turn-pass-requires-clause-value g c =
    let b = lent g.R.Resident c.turn.inside.of.value c.turn.inside.held c.args.turn c.args.self.now c.turn.invariant c.turn.view_is c.requires.squeue c.value.result.now c.value.ensures.value in
    let S = setting_of g.R.Resident.limits c.args.self.now.given in
    let n = (c.number-p.ensures ∙ ap (λ (u : Turned g.row.R.Denot). u.number) c.turn.view_is) in
    ends g.R.Resident c.turn.inside.held c.args.turn c.turn.inside.of.value c.args.self.now (named_of c.self.inside.gate) c.turn.view_is c.self.view_is c.claim_ask-resident.new.self (λ k. ask_claimed_by k) (subst (λ k. Behind g.R.Resident c.args.self.now.given c.claim_ask-resident.new.self (c.args.turn.found ++ ask_claimed_by k ∷ [])) n (c.claim_ask-resident.ensures.behind c.args.self.now.given c.args.turn.found b (subst (λ k. May S c.args.turn.found (ask_claimed_by k)) (sym n) c.requires.may)))

pub end_turn-pass-requires-clause-noted : goal.end_turn-pass-requires-clause-noted
end_turn-pass-requires-clause-noted g c =
    noted g.R.Resident c.turn.inside.of.value c.turn.inside.held c.args.turn c.args.self.now (named_of c.self.inside.gate) c.turn.invariant c.turn.view_is c.requires.squeue c.self.view_is c.value.result.now c.value.ensures.value

pub returns-clause-resident : goal.returns-clause-resident
returns-clause-resident g c =
    let b = lent g.R.Resident c.turn.inside.of.value c.turn.inside.held c.args.turn c.args.self.now c.turn.invariant c.turn.view_is c.requires.squeue c.value.result.now c.value.ensures.value in
    let S = setting_of g.R.Resident.limits c.args.self.now.given in
    let n = (c.number-p.ensures ∙ ap (λ (u : Turned g.row.R.Denot). u.number) c.turn.view_is) in
    let there : c.value.result.now.inner.resident ≡ Some c.in-Some.resident = sym c.claim_ask-resident.ensures.same.0 ∙ c.in-Some.is in
    let seen_is = c.end_turn-pass.ensures.seen ∙ ap (λ (u : Turned g.row.R.Denot). u.found ++ ask_claimed_by u.number ∷ []) c.turn.view_is in
    subst (λ (x : Blocks). IsPeri g.R.Resident c.args.self.now.given c.in-Some.resident x)
    (sym (ap (λ (H : List Element). peri S H) seen_is ∙ claimed_ask_same S c.args.turn.found c.args.turn.number c.requires.may))
    (lies_free g.R.Resident c.args.self.now.given c.value.result.now.inner.own c.value.result.now.inner.resident c.in-Some.resident (peri S c.args.turn.found) b.resident (b.own ∙ c.requires.may.step.0) there)

pub returns-clause-hand : goal.returns-clause-hand
returns-clause-hand g c =
    let b = lent g.R.Resident c.turn.inside.of.value c.turn.inside.held c.args.turn c.args.self.now c.turn.invariant c.turn.view_is c.requires.squeue c.value.result.now c.value.ensures.value in
    let S = setting_of g.R.Resident.limits c.args.self.now.given in
    let n = (c.number-p.ensures ∙ ap (λ (u : Turned g.row.R.Denot). u.number) c.turn.view_is) in
    let seen_is = c.end_turn-pass.ensures.seen ∙ ap (λ (u : Turned g.row.R.Denot). u.found ++ ask_claimed_by u.number ∷ []) c.turn.view_is in
    record {
      is_whole = hand_after S c.args.turn.found (ask_claimed_by c.args.turn.number) c.claim_ask-resident.result.1.items (c.claim_ask-resident.ensures.same.1 ∙ (ap (λ xs. xs ++ Entry'.Ask c.number-p.result ∷ []) b.chain ∙ ap (λ k. (run S c.args.turn.found).chain ++ Entry'.Ask k ∷ []) n)) ∙ sym (ap (λ (H : List Element). (run S H).hand) seen_is);
      has_room = ap (λ (n : ℕ). Some n) (let full : vec_capacity c.claim_ask-resident.result.1 ≡ c.args.self.now.given.room = omega (arith, c.claim_ask-resident.ensures.room, b.room) in full) ∙ room_after c.args.self.now.given.room S c.args.turn.found (seen c.end_turn-pass.result) (ask_claimed_by c.args.turn.number) c.args.turn.number seen_is refl refl;
    }

pub invariant_of-result : goal.invariant_of-result
invariant_of-result g c =
    let b = lent g.R.Resident c.turn.inside.of.value c.turn.inside.held c.args.turn c.args.self.now c.turn.invariant c.turn.view_is c.requires.squeue c.value.result.now c.value.ensures.value in
    let S = setting_of g.R.Resident.limits c.args.self.now.given in
    let n = (c.number-p.ensures ∙ ap (λ (u : Turned g.row.R.Denot). u.number) c.turn.view_is) in
    let after = (subst (λ k. Behind g.R.Resident c.args.self.now.given c.claim_ask-resident.new.self (c.args.turn.found ++ ask_claimed_by k ∷ [])) n (c.claim_ask-resident.ensures.behind c.args.self.now.given c.args.turn.found b (subst (λ k. May S c.args.turn.found (ask_claimed_by k)) (sym n) c.requires.may))) in
    let whole = hand_after S c.args.turn.found (ask_claimed_by c.args.turn.number) c.claim_ask-resident.result.1.items (c.claim_ask-resident.ensures.same.1 ∙ (ap (λ xs. xs ++ Entry'.Ask c.number-p.result ∷ []) b.chain ∙ ap (λ k. (run S c.args.turn.found).chain ++ Entry'.Ask k ∷ []) n)) in
    (omega arith, omega (arith, c.claim_ask-resident.result.1.ok.0, ap length whole, few_hand g.R.Resident c.args.self.now.given c.claim_ask-resident.new.self (c.args.turn.found ++ ask_claimed_by c.args.turn.number ∷ []) after))
