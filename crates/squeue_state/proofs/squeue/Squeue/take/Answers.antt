use Rattle.std.proofs.Common.{◌≡◌, ◌++◌, ◌∷◌, [], ◌∙◌, List, ap, sym, subst, length, vec_capacity, arith, ℕ, Some, refl}
use Rattle.turn_gate.specs.Passes.{seen}
use Rattle.perimeter_core.specs.History.{Element, run}
use Rattle.squeue_state.specs.Naming.{Turned, setting_of}
use Rattle.squeue_state.specs.Clauses.{named_of}
use Rattle.histories.specs.Elements.{taken_by}
use Rattle.squeue_state.proofs.Turns.{lent, noted, ends, hand_after, room_after}
use Rattle.squeue_state.proofs.Bounds.{few_hand, one_there}
use Rattle.squeue_state.proofs.squeue.Squeue.take.Goals as goal

pub take-entries-requires : goal.take-entries-requires
take-entries-requires g c =
    let b = lent g.R.Resident c.turn.inside.of.value c.turn.inside.held c.args.turn c.args.self.now c.turn.invariant c.turn.view_is c.requires.squeue c.value.result.now c.value.ensures.value in
    one_there g.R.Resident c.args.self.now.given c.value.result.now.inner c.args.turn.found c.args.hand b c.requires.hand.0

pub end_turn-pass-requires-clause-value : goal.end_turn-pass-requires-clause-value
end_turn-pass-requires-clause-value g c =
    let b = lent g.R.Resident c.turn.inside.of.value c.turn.inside.held c.args.turn c.args.self.now c.turn.invariant c.turn.view_is c.requires.squeue c.value.result.now c.value.ensures.value in
    ends g.R.Resident c.turn.inside.held c.args.turn c.turn.inside.of.value c.args.self.now (named_of c.self.inside.gate) c.turn.view_is c.self.view_is c.take-entries.new.self taken_by (c.take-entries.ensures.behind c.args.self.now.given c.args.turn.found c.args.turn.number b c.requires.hand.0.has_room c.requires.may)

pub end_turn-pass-requires-clause-noted : goal.end_turn-pass-requires-clause-noted
end_turn-pass-requires-clause-noted g c =
    noted g.R.Resident c.turn.inside.of.value c.turn.inside.held c.args.turn c.args.self.now (named_of c.self.inside.gate) c.turn.invariant c.turn.view_is c.requires.squeue c.self.view_is c.value.result.now c.value.ensures.value

pub returns-clause-hand : goal.returns-clause-hand
returns-clause-hand g c =
    let b = lent g.R.Resident c.turn.inside.of.value c.turn.inside.held c.args.turn c.args.self.now c.turn.invariant c.turn.view_is c.requires.squeue c.value.result.now c.value.ensures.value in
    let S = setting_of g.R.Resident.limits c.args.self.now.given in
    let seen_is = c.end_turn-pass.ensures.seen ∙ ap (λ (u : Turned g.row.R.Denot). u.found ++ taken_by u.number ∷ []) c.turn.view_is in
    record {
      is_whole = hand_after S c.args.turn.found (taken_by c.args.turn.number) c.take-entries.result.items (ap (λ v. v.items) c.take-entries.ensures.same ∙ b.chain) ∙ sym (ap (λ (H : List Element). (run S H).hand) seen_is);
      has_room = ap (λ (n : ℕ). Some n) (sym (subst (λ k. c.args.self.now.given.room ≡ k) (sym (ap (λ v. vec_capacity v) c.take-entries.ensures.same)) b.room)) ∙ room_after c.args.self.now.given.room S c.args.turn.found (seen c.end_turn-pass.result) (taken_by c.args.turn.number) c.args.turn.number seen_is refl c.requires.may.step.0;
    }

pub invariant_of-result : goal.invariant_of-result
invariant_of-result g c =
    let b = lent g.R.Resident c.turn.inside.of.value c.turn.inside.held c.args.turn c.args.self.now c.turn.invariant c.turn.view_is c.requires.squeue c.value.result.now c.value.ensures.value in
    let S = setting_of g.R.Resident.limits c.args.self.now.given in
    let whole = hand_after S c.args.turn.found (taken_by c.args.turn.number) c.take-entries.result.items (ap (λ v. v.items) c.take-entries.ensures.same ∙ b.chain) in
    (omega arith, omega (arith, c.take-entries.result.ok.0, ap length whole, few_hand g.R.Resident c.args.self.now.given c.take-entries.new.self (c.args.turn.found ++ taken_by c.args.turn.number ∷ []) (c.take-entries.ensures.behind c.args.self.now.given c.args.turn.found c.args.turn.number b c.requires.hand.0.has_room c.requires.may)))
