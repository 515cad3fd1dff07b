use Rattle.std.proofs.Common.{rules, ◌∙◌}
use Rattle.turn_gate.proofs.Keeps.{watches}
use Rattle.turn_gate.proofs.Passing.{load_waits, took_still}
use Rattle.turn_gate.proofs.gate.Gate.look.Goals as goal

pub load-found-requires : goal.load-found-requires
load-found-requires g c = let i = c.loop.invariant in let w = c.requires.waits in (
  search rules,
  search rules,
  watches (g.T.Storied.stands c.args.self.now.table.shared.key.first.value) g.T.Storied.number _ g.G.Tells.tells c.requires.told _ _ _ w.0 _ (i.1.0 ∙ w.1) (i.1.1 ∙ w.2) (i.1.2 ∙ w.3),
)

pub load-requires : goal.load-requires
load-requires g c = let i = c.loop.invariant in let w = c.requires.waits in (
  search rules,
  search rules,
  watches (g.T.Storied.stands c.args.self.now.table.shared.key.first.value) g.T.Storied.number _ g.G.Tells.tells c.requires.told _ _ _ w.0 _ (i.1.0 ∙ w.1) (i.1.1 ∙ w.2) (i.1.2 ∙ w.3),
)

pub returns-then-found-ticket-clause-served : goal.returns-then-found-ticket-clause-served
returns-then-found-ticket-clause-served g c = let i = c.loop.invariant in λ is. took_still g.G.Tells.tells g.T.Storied.number c.args.ticket c.args.seat.now.me c.loop.seat.me c.load-found.new.seat.me i.1 (c.load-found.ensures.2.2 c.args.ticket (i.1.1 ∙ c.requires.waits.2) is)

pub returns-clause-served : goal.returns-clause-served
returns-clause-served g c = let i = c.loop.invariant in λ is. took_still g.G.Tells.tells g.T.Storied.number c.args.ticket c.args.seat.now.me c.loop.seat.me c.load.new.seat.me i.1 (c.load.ensures.2.2 c.args.ticket (i.1.1 ∙ c.requires.waits.2) is)

pub returns-then-found-ticket-clause-steps : goal.returns-then-found-ticket-clause-steps
returns-then-found-ticket-clause-steps g c = load_waits _ _ _ _ c.loop.invariant.2 c.load-found.ensures.2.1

pub returns-clause-steps : goal.returns-clause-steps
returns-clause-steps g c = load_waits _ _ _ _ c.loop.invariant.2 c.load.ensures.2.1

pub loop-preserved : goal.loop-preserved
loop-preserved g c = let i = c.loop.invariant in let same = c.load-found.ensures.2.3 c.args.ticket (i.1.1 ∙ c.requires.waits.2) c.if-found-ticket.false in
    (search rules, (same.0 ∙ i.1.0, same.1 ∙ i.1.1, same.2 ∙ i.1.2, same.3 ∙ i.1.3), load_waits _ _ _ _ i.2 c.load-found.ensures.2.1)
