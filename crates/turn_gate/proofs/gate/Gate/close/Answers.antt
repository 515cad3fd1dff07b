use Rattle.std.proofs.Common.{◌≡◌, ap, sym, ◌∙◌, subst, Some, None}
use mathlib.Core.Option as mo
use Rattle.std.specs.Slots.{slots_items}
use Rattle.turn_gate.specs.History.{Begins, only, Each, Has}
use Rattle.turn_gate.specs.Passes.{row_of}
use Rattle.turn_gate.specs.declared.views.Row.{Row}
use Rattle.turn_gate.proofs.Histories.{has_in_map, each_of_map}
use Rattle.turn_gate.proofs.Keeps.{finishes}
use Rattle.turn_gate.proofs.gate.Gate.close.Goals as goal

pub unreachable-requires : goal.unreachable-requires
unreachable-requires g c = let s = c.gather-seat.result in
    let f = finishes (g.T.Storied.stands c.args.self.table.shared.key.first.value) g.T.Storied.number c.args.self.table.shared.key.passes s.id s.me.0 (slots_items c.close_with-closed.result.words) (slots_items c.close_with-closed.result.slots) c.gather-seat.ensures.2
    (λ q l. subst (Has (λ r. r.number ≡ q)) (sym c.gather-seat.ensures.3) (has_in_map _ _ row_of (λ r. r.number ≡ q) c.args.passes.items (c.requires.1 q l))) c.close_with-closed.ensures.values.2 in
    let wrong : None ≡ Some f.0 = sym c.in_default.is ∙ mo.some-injective c.take-slot.result (Some f.0) (sym c.take-slot.ensures.value ∙ f.2) in cc

pub returns : goal.returns
returns g c = let s = c.gather-seat.result in
    let f = finishes (g.T.Storied.stands c.args.self.table.shared.key.first.value) g.T.Storied.number c.args.self.table.shared.key.passes s.id s.me.0 (slots_items c.close_with-closed.result.words) (slots_items c.close_with-closed.result.slots) c.gather-seat.ensures.2
    (λ q l. subst (Has (λ r. r.number ≡ q)) (sym c.gather-seat.ensures.3) (has_in_map _ _ row_of (λ r. r.number ≡ q) c.args.passes.items (c.requires.1 q l))) c.close_with-closed.ensures.values.2 in
    let right : Some f.0 ≡ Some c.in-Some.field-0 = sym (mo.some-injective c.take-slot.result (Some f.0) (sym c.take-slot.ensures.value ∙ f.2)) ∙ c.in-Some.is in
    let same : f.0 ≡ c.in-Some.field-0 = cc in
    let Told = λ (r : Row g.row.T-Element.Denot). Begins r.seen f.1 × (only g.T.Storied.number r.number f.1 ≡ r.mine) in (
      f.1,
      subst (λ v. (g.T.Storied.stands c.args.self.table.shared.key.first.value) v f.1) (ap (λ x. x.value.value) same ∙ sym c.into_inner.ensures) f.3,
      each_of_map _ _ row_of Told c.args.passes.items (subst (Each Told) c.gather-seat.ensures.3 f.4),
      f.5,
    )
