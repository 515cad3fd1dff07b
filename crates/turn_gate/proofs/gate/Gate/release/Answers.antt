use Rattle.std.proofs.Common.{rules, ap, sym, ◌∙◌, ◌+◌, ◌++◌, ◌∷◌, [], length, length-append, subst, List}
use mathlib.Core.Option.{none}
use Rattle.atomic_table.specs.Table.{Allows, step}
use Rattle.turn_gate.specs.Helds.{held_row, held_seen, held_mine, held_number, held_ticket}
use Rattle.turn_gate.specs.Rule.{Holds, added, row, view}
use Rattle.turn_gate.specs.declared.kept.Kept.{Kept}
use Rattle.turn_gate.proofs.Histories.{only_more}
use Rattle.turn_gate.proofs.Keeps.{adds}
use Rattle.turn_gate.proofs.gate.Gate.release.Goals as goal

pub store-requires : goal.store-requires
store-requires g c = let h = c.requires.gate in let one = c.requires.element in let v = ap (λ x. x.0) c.put_back-seat.ensures.me ∙ ap (λ x. x.0) h.1 in
    let s = c.put_back-seat.result in let n = c.args.self.now.table.shared.key.passes in let slots = c.args.self.now.table.shared.table_id.slots in let k = c.args.held.count + 1 in (
      search rules,
      search rules,
      subst (λ (es : List g.row.T-Element.Denot). Allows (Holds (g.T.Storied.stands c.args.self.now.table.shared.key.first.value) g.T.Storied.number n) slots s.id s.me 1 (λ _. k) (λ _. added es (step slots 1 k 0 none) s.me k)) (sym one.1)
          (adds (g.T.Storied.stands c.args.self.now.table.shared.key.first.value) g.T.Storied.number n slots s.id s.me (held_row c.args.held) one.0 k (ap (λ x. x.rows) v) (ap (λ x. x.has) v) one.2 (ap (λ z. z + 1) h.2)),
    )

pub serve_next-requires : goal.serve_next-requires
serve_next-requires g c = let h = c.requires.gate in let es = g.N.Names.elements in let p = c.put_back-seat.ensures.me in let v = ap (λ x. x.0) p ∙ ap (λ x. x.0) h.1 in
    let a = c.store.ensures.2.1 (held_row c.args.held) (ap (λ x. x.rows) v) in let kept : Kept g.row.T.Denot = record { value = c.args.held.value; count = c.args.held.count + 1 } in (
      search rules,
      (
        held_seen c.args.held ++ es,
        held_mine c.args.held ++ es,
        held_ticket c.args.held,
        kept,
        a ∙ (λ i. (view (row (held_number c.args.held) (held_seen c.args.held ++ es) (held_mine c.args.held ++ es) ∷ []) (ap (λ x. x.ticket) v i) (ap (λ x. x.has) v i) (sym (ap (λ x. x.0.steps) a) i), ap (λ x. x.1) p i)),
        c.requires.value,
        ap (λ z. z + 1) h.2 ∙ sym (length-append (held_seen c.args.held) es ∙ ap (λ (l : List g.row.T-Element.Denot). length (held_seen c.args.held) + length l) c.requires.element.1),
        only_more _ g.T.Storied.number (held_number c.args.held) (held_seen c.args.held) (held_mine c.args.held) es c.requires.element h.3,
      ),
    )
