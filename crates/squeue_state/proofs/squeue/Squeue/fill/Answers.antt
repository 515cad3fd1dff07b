use Rattle.std.proofs.Common.{ap, arith, length}
use Rattle.squeue_state.specs.Clauses.{named_of}
use Rattle.histories.specs.Elements.{filled_by}
use Rattle.squeue_state.proofs.Bounds.{fill_fits}
use Rattle.squeue_state.proofs.Turns.{lent, noted, ends}
use Rattle.squeue_state.proofs.squeue.Squeue.fill.Goals as goal

pub fill-requires : goal.fill-requires
fill-requires g c =
    let b = lent g.R.Resident c.turn.inside.of.value c.turn.inside.held c.args.turn c.args.self.now c.turn.invariant c.turn.view_is c.requires.squeue c.value.result.now c.value.ensures.value in
    let fits = fill_fits g.R.Resident c.args.self.now.given c.value.result.now.inner c.args.turn.found c.args.es.now b c.requires.room in
    record { room = omega (arith, fits, ap length b.chain, b.room, c.value.result.now.inner.chain.ok.0) }

pub end_turn-pass-requires-clause-value : goal.end_turn-pass-requires-clause-value
end_turn-pass-requires-clause-value g c =
    let b = lent g.R.Resident c.turn.inside.of.value c.turn.inside.held c.args.turn c.args.self.now c.turn.invariant c.turn.view_is c.requires.squeue c.value.result.now c.value.ensures.value in
    ends g.R.Resident c.turn.inside.held c.args.turn c.turn.inside.of.value c.args.self.now (named_of c.self.inside.gate) c.turn.view_is c.self.view_is c.fill.new.self (λ k. filled_by k c.args.es.now)
    (c.fill.ensures.behind c.args.self.now.given c.args.turn.found c.args.turn.number b c.requires.may c.requires.room)

pub end_turn-pass-requires-clause-noted : goal.end_turn-pass-requires-clause-noted
end_turn-pass-requires-clause-noted g c =
    noted g.R.Resident c.turn.inside.of.value c.turn.inside.held c.args.turn c.args.self.now (named_of c.self.inside.gate) c.turn.invariant c.turn.view_is c.requires.squeue c.self.view_is c.value.result.now c.value.ensures.value
