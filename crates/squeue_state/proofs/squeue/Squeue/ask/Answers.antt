use Rattle.std.proofs.Common.{◌++◌, ◌∷◌, [], ◌∙◌, ap, sym, subst, length, arith}
use Rattle.perimeter_core.specs.Legal.{May}
use Rattle.squeue_state.specs.Naming.{Turned, setting_of}
use Rattle.squeue_state.specs.Behind.{Behind}
use Rattle.squeue_state.specs.Clauses.{named_of}
use Rattle.histories.specs.Elements.{asked_by}
use Rattle.squeue_state.proofs.Turns.{lent, noted, ends}
use Rattle.squeue_state.proofs.Bounds.{ask_fits}
use Rattle.squeue_state.proofs.squeue.Squeue.ask.Goals as goal

pub ask-requires : goal.ask-requires
ask-requires g c =
    let b = lent g.R.Resident c.turn.inside.of.value c.turn.inside.held c.args.turn c.args.self.now c.turn.invariant c.turn.view_is c.requires.squeue c.value.result.now c.value.ensures.value in
    let S = setting_of g.R.Resident.limits c.args.self.now.given in
    let n = (c.number-p.ensures ∙ ap (λ (u : Turned g.row.R.Denot). u.number) c.turn.view_is) in
    omega (arith, ask_fits g.R.Resident c.args.self.now.given c.value.result.now.inner c.args.turn.found c.args.turn.number b c.requires.may, ap length b.chain, b.room, c.value.result.now.inner.chain.ok.0)

pub end_turn-requires-clause-value : goal.end_turn-requires-clause-value
end_turn-requires-clause-value g c =
    let b = lent g.R.Resident c.turn.inside.of.value c.turn.inside.held c.args.turn c.args.self.now c.turn.invariant c.turn.view_is c.requires.squeue c.value.result.now c.value.ensures.value in
    let S = setting_of g.R.Resident.limits c.args.self.now.given in
    let n = (c.number-p.ensures ∙ ap (λ (u : Turned g.row.R.Denot). u.number) c.turn.view_is) in
    ends g.R.Resident c.turn.inside.held c.args.turn c.turn.inside.of.value c.args.self.now (named_of c.self.inside.gate) c.turn.view_is c.self.view_is c.ask.new.self (λ k. asked_by k) (subst (λ k. Behind g.R.Resident c.args.self.now.given c.ask.new.self (c.args.turn.found ++ asked_by k ∷ [])) n (c.ask.ensures.behind c.args.self.now.given c.args.turn.found b (subst (λ k. May S c.args.turn.found (asked_by k)) (sym n) c.requires.may)))

pub end_turn-requires-clause-noted : goal.end_turn-requires-clause-noted
end_turn-requires-clause-noted g c =
    noted g.R.Resident c.turn.inside.of.value c.turn.inside.held c.args.turn c.args.self.now (named_of c.self.inside.gate) c.turn.invariant c.turn.view_is c.requires.squeue c.self.view_is c.value.result.now c.value.ensures.value
