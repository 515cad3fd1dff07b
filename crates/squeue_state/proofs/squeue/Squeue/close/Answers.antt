use Rattle.std.proofs.Common.{◌++◌, ◌∷◌, [], ◌∙◌, ap, sym, subst, arith, length}
use Rattle.perimeter_core.specs.Legal.{May}
use Rattle.squeue_state.specs.Naming.{Turned, setting_of}
use Rattle.squeue_state.specs.Behind.{Behind}
use Rattle.squeue_state.specs.Clauses.{named_of}
use Rattle.histories.specs.Elements.{closed_by}
use Rattle.squeue_state.proofs.squeue.Squeue.close.Goals as goal
use Rattle.perimeter_core.proofs.HistoryLength.{closed_flags}
use Rattle.squeue_state.proofs.Turns.{lent, noted, ends}

pub close-requires : goal.close-requires
close-requires g c =
    let b = lent g.R.Resident c.turn.inside.of.value c.turn.inside.held c.args.turn c.args.self.now c.turn.invariant c.turn.view_is c.requires.squeue c.value.result.now c.value.ensures.value in
    let S = setting_of g.R.Resident.limits c.args.self.now.given in
    omega (arith, (c.number-p.ensures ∙ ap (λ (u : Turned g.row.R.Denot). u.number) c.turn.view_is), c.requires.may.range.0, ap length b.closed, closed_flags S c.args.turn.found b.legal, c.value.result.now.inner.closed.ok.0)

pub end_turn-pass-requires-clause-value : goal.end_turn-pass-requires-clause-value
end_turn-pass-requires-clause-value g c =
    let b = lent g.R.Resident c.turn.inside.of.value c.turn.inside.held c.args.turn c.args.self.now c.turn.invariant c.turn.view_is c.requires.squeue c.value.result.now c.value.ensures.value in
    let S = setting_of g.R.Resident.limits c.args.self.now.given in
    let n = (c.number-p.ensures ∙ ap (λ (u : Turned g.row.R.Denot). u.number) c.turn.view_is) in
    ends g.R.Resident c.turn.inside.held c.args.turn c.turn.inside.of.value c.args.self.now (named_of c.self.inside.gate) c.turn.view_is c.self.view_is c.close.new.self closed_by
    (subst (λ k. Behind g.R.Resident c.args.self.now.given c.close.new.self (c.args.turn.found ++ closed_by k ∷ [])) n
    (c.close.ensures.behind c.args.self.now.given c.args.turn.found b (subst (λ k. May S c.args.turn.found (closed_by k)) (sym n) c.requires.may)))

pub end_turn-pass-requires-clause-noted : goal.end_turn-pass-requires-clause-noted
end_turn-pass-requires-clause-noted g c =
    noted g.R.Resident c.turn.inside.of.value c.turn.inside.held c.args.turn c.args.self.now (named_of c.self.inside.gate) c.turn.invariant c.turn.view_is c.requires.squeue c.self.view_is c.value.result.now c.value.ensures.value
