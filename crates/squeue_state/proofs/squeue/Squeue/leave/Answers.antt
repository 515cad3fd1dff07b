use Rattle.std.proofs.Common.{◌-◌, ◌++◌, ◌∷◌, [], ap, sym, subst, arith, length, vec_len}
use Rattle.perimeter_core.specs.History.{start}
use Rattle.squeue_state.specs.Naming.{setting_of}
use Rattle.squeue_state.specs.Behind.{Behind}
use Rattle.squeue_state.specs.Clauses.{named_of}
use Rattle.histories.specs.Elements.{left_by_pass}
use Rattle.squeue_state.proofs.squeue.Squeue.leave.Goals as goal
use Rattle.perimeter_core.proofs.BlocksFollow.{flags}
use Rattle.squeue_state.proofs.Turns.{lent, noted, ends}
use Rattle.squeue_state.proofs.Bounds.{leaves_back}
use Rattle.squeue_state.proofs.Steps.{act_below}

pub leave-requires-clause-room : goal.leave-requires-clause-room
leave-requires-clause-room g c =
    let b = lent g.R.Resident c.turn.inside.of.value c.turn.inside.held c.args.turn c.args.self.now c.turn.invariant c.turn.view_is c.requires.squeue c.value.result.now c.value.ensures.value in
    leaves_back g.R.Resident c.args.self.now.given c.value.result.now.inner c.args.turn.found c.args.hand b c.requires.hand c.args.turn.number c.args.act g.N.Notes.note c.requires.may

pub leave-requires-clause-range : goal.leave-requires-clause-range
leave-requires-clause-range g c =
    let b = lent g.R.Resident c.turn.inside.of.value c.turn.inside.held c.args.turn c.args.self.now c.turn.invariant c.turn.view_is c.requires.squeue c.value.result.now c.value.ensures.value in
    let S = setting_of g.R.Resident.limits c.args.self.now.given in
    act_below (vec_len c.value.result.now.inner.here) S c.args.turn.number (length c.args.hand.left) c.args.act (omega (arith, ap length b.here, flags (start S) c.args.turn.found, c.value.result.now.inner.here.ok.0)) c.requires.may.range

pub end_turn-pass-requires-clause-value : goal.end_turn-pass-requires-clause-value
end_turn-pass-requires-clause-value g c =
    let b = lent g.R.Resident c.turn.inside.of.value c.turn.inside.held c.args.turn c.args.self.now c.turn.invariant c.turn.view_is c.requires.squeue c.value.result.now c.value.ensures.value in
    ends g.R.Resident c.turn.inside.held c.args.turn c.turn.inside.of.value c.args.self.now (named_of c.self.inside.gate) c.turn.view_is c.self.view_is c.leave.new.self (λ k. left_by_pass k c.len-rest.result c.args.act g.N.Notes.note)
    (subst (λ k. Behind g.R.Resident c.args.self.now.given c.leave.new.self (c.args.turn.found ++ left_by_pass c.args.turn.number k c.args.act g.N.Notes.note ∷ [])) (sym c.len-rest.ensures)
    (c.leave.ensures.behind c.args.self.now.given c.args.turn.found g.N.Notes.note c.args.turn.number b c.requires.hand c.requires.resident c.requires.may))

pub end_turn-pass-requires-clause-noted : goal.end_turn-pass-requires-clause-noted
end_turn-pass-requires-clause-noted g c =
    noted g.R.Resident c.turn.inside.of.value c.turn.inside.held c.args.turn c.args.self.now (named_of c.self.inside.gate) c.turn.invariant c.turn.view_is c.requires.squeue c.self.view_is c.value.result.now c.value.ensures.value
