use Rattle.std.proofs.Common.{rules, ap, sym, subst, ◌∙◌, ◌∷◌, Some}
use Rattle.turn_gate.specs.Passes.{row_of, own, waited}
use Rattle.turn_gate.specs.Rule.{view}
use Rattle.turn_gate.proofs.Keeps.{draws}
use Rattle.turn_gate.proofs.Passing.{waited_more}
use Rattle.turn_gate.proofs.Histories.{one_item}
use Rattle.turn_gate.proofs.gate.Gate.hold_as.Goals as goal

pub fetch_add-drawn-requires : goal.fetch_add-drawn-requires
fetch_add-drawn-requires g c = let v = one_item c.args.pass.badge.views _ _ c.into_seat-seat.ensures.2 c.requires.pass.1 in (
  search rules,
  search rules,
  draws (g.T.Storied.stands c.args.self.now.table.shared.key.first.value) g.T.Storied.number _ _ _ _ (row_of c.args.pass) (ap (λ x. x.rows) v) (ap (λ x. x.ticket) v) (ap (λ x. x.has) v),
)

pub taken-requires : goal.taken-requires
taken-requires g c = let i = c.loop.invariant in let t = c.look-shown.ensures.served c.if-shown-ticket.true (row_of c.args.pass) i.1 in
    (search rules, (t.1, (row_of c.args.pass).mine, _, t.0, (λ i'. (view (t.2 i') (t.3 i') (t.4 i') c.look-shown.new.seat.me.0.steps, (t.5 ∙ ap (λ l. (0, Some t.0) ∷ l) i.4) i')), t.8, t.9, t.7))

pub returns-then-shown-ticket-clause-takes : goal.returns-then-shown-ticket-clause-takes
returns-then-shown-ticket-clause-takes g c = let i = c.loop.invariant in let t = c.look-shown.ensures.served c.if-shown-ticket.true (row_of c.args.pass) i.1 in
    let e = c.taken.ensures.same.1 ∙ ap own t.2 in (c.taken.ensures.held.0, c.taken.ensures.same.0, (t.6.0, ap (λ z. z.seen) e ∙ t.6.1), ap (λ z. z.mine) e, c.taken.ensures.held.1)

pub returns-then-shown-ticket-clause-steps : goal.returns-then-shown-ticket-clause-steps
returns-then-shown-ticket-clause-steps g c = waited_more _ _ _ c.loop.invariant.5 (subst (waited c.loop.seat.me.0.steps) (sym c.taken.ensures.same.2) c.look-shown.ensures.steps)

pub loop-preserved : goal.loop-preserved
loop-preserved g c = (search rules, search rules, search rules, search rules, search rules, waited_more _ _ _ c.loop.invariant.5 c.look-shown.ensures.steps)
