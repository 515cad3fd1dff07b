use Rattle.std.proofs.Common.{◌≡◌, ◌++◌, ◌∷◌, [], ◌∙◌, List, ap, sym, subst, refl, Some}
use Rattle.turn_gate.specs.Passes.{seen}
use Rattle.perimeter_core.specs.declared.entries.Entry.TheVariants as Entry'
use Rattle.perimeter_core.specs.History.{Element, run}
use Rattle.perimeter_core.specs.Legal.{May}
use Rattle.perimeter_core.specs.Blocks.{Blocks, peri}
use Rattle.squeue_state.specs.Naming.{Turned, setting_of}
use Rattle.squeue_state.specs.Behind.{Behind, IsPeri}
use Rattle.squeue_state.specs.Clauses.{named_of}
use Rattle.histories.specs.Elements.{fast_by}
use Rattle.squeue_state.proofs.Turns.{lent, noted, ends, lies_free, hand_after, fasted_same, room_after}
use Rattle.squeue_state.proofs.squeue.Squeue.fast.Goals as goal

pub end_turn-pass-requires-clause-value : goal.end_turn-pass-requires-clause-value
end_turn-pass-requires-clause-value g c =
    let b = lent g.R.Resident c.turn.inside.of.value c.turn.inside.held c.args.turn c.args.self.now c.turn.invariant c.turn.view_is c.requires.squeue c.value.result.now c.value.ensures.value in
    let S = setting_of g.R.Resident.limits c.args.self.now.given in
    let n = (c.number-p.ensures ∙ ap (λ (u : Turned g.row.R.Denot). u.number) c.turn.view_is) in
    ends g.R.Resident c.turn.inside.held c.args.turn c.turn.inside.of.value c.args.self.now (named_of c.self.inside.gate) c.turn.view_is c.self.view_is c.fast-resident.new.self (λ k. fast_by k c.args.e) (subst (λ k. Behind g.R.Resident c.args.self.now.given c.fast-resident.new.self (c.args.turn.found ++ fast_by k c.args.e ∷ [])) n (c.fast-resident.ensures.behind c.args.self.now.given c.args.turn.found c.args.e b (subst (λ k. May S c.args.turn.found (fast_by k c.args.e)) (sym n) c.requires.may) c.requires.room))

pub end_turn-pass-requires-clause-noted : goal.end_turn-pass-requires-clause-noted
end_turn-pass-requires-clause-noted g c =
    noted g.R.Resident c.turn.inside.of.value c.turn.inside.held c.args.turn c.args.self.now (named_of c.self.inside.gate) c.turn.invariant c.turn.view_is c.requires.squeue c.self.view_is c.value.result.now c.value.ensures.value

pub returns-clause-resident : goal.returns-clause-resident
returns-clause-resident g c =
    let b = lent g.R.Resident c.turn.inside.of.value c.turn.inside.held c.args.turn c.args.self.now c.turn.invariant c.turn.view_is c.requires.squeue c.value.result.now c.value.ensures.value in
    let S = setting_of g.R.Resident.limits c.args.self.now.given in
    let n = (c.number-p.ensures ∙ ap (λ (u : Turned g.row.R.Denot). u.number) c.turn.view_is) in
    let there : c.value.result.now.inner.resident ≡ Some c.in-Some.resident = sym c.fast-resident.ensures.same ∙ c.in-Some.is in
    let seen_is = c.end_turn-pass.ensures.seen ∙ ap (λ (u : Turned g.row.R.Denot). u.found ++ fast_by u.number c.args.e ∷ []) c.turn.view_is in
    subst (λ (x : Blocks). IsPeri g.R.Resident c.args.self.now.given c.in-Some.resident x)
    (sym (ap (λ (H : List Element). peri S H) seen_is ∙ fasted_same S c.args.turn.found c.args.turn.number c.args.e c.requires.may))
    (lies_free g.R.Resident c.args.self.now.given c.value.result.now.inner.own c.value.result.now.inner.resident c.in-Some.resident (peri S c.args.turn.found) b.resident (b.own ∙ c.requires.may.step.0) there)

pub returns-clause-hand : goal.returns-clause-hand
returns-clause-hand g c =
    let b = lent g.R.Resident c.turn.inside.of.value c.turn.inside.held c.args.turn c.args.self.now c.turn.invariant c.turn.view_is c.requires.squeue c.value.result.now c.value.ensures.value in
    let S = setting_of g.R.Resident.limits c.args.self.now.given in
    let n = (c.number-p.ensures ∙ ap (λ (u : Turned g.row.R.Denot). u.number) c.turn.view_is) in
    let seen_is = c.end_turn-pass.ensures.seen ∙ ap (λ (u : Turned g.row.R.Denot). u.found ++ fast_by u.number c.args.e ∷ []) c.turn.view_is in
    record {
      is_whole = hand_after S c.args.turn.found (fast_by c.args.turn.number c.args.e) (Entry'.Feed c.args.e.c c.args.e.n ∷ []) refl ∙ sym (ap (λ (H : List Element). (run S H).hand) seen_is);
      has_room = room_after c.args.self.now.given.room S c.args.turn.found (seen c.end_turn-pass.result) (fast_by c.args.turn.number c.args.e) c.args.turn.number seen_is refl refl;
    }
