use Rattle.std.proofs.Common.{rules, ap, ◌∙◌}
use Rattle.turn_gate.specs.Helds.{held_seen, held_mine, held_ticket}
use Rattle.turn_gate.specs.Rule.{view}
use Rattle.turn_gate.proofs.gate.Gate.release_plain.Goals as goal

pub serve_next-requires : goal.serve_next-requires
serve_next-requires g c = let h = c.requires.gate in let p = c.put_back-seat.ensures.me in let v = ap (λ x. x.0) p ∙ ap (λ x. x.0) h.1 in (
  search rules,
  (
    held_seen c.args.held,
    held_mine c.args.held,
    held_ticket c.args.held,
    record { value = c.args.held.value; count = c.args.held.count },
    (λ i. (view (ap (λ x. x.rows) v i) (ap (λ x. x.ticket) v i) (ap (λ x. x.has) v i) c.put_back-seat.result.me.0.steps, ap (λ x. x.1) p i)),
    c.requires.value,
    h.2,
    h.3,
  ),
)
