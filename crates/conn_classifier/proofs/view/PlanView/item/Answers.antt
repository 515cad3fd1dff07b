use Rattle.std.proofs.Common.{◌≤◌, map, slice_get, Some, IfSome, ap, sym, subst, ◌∙◌}
use Rattle.std.proofs.lemmas.Option.{slice_get-get_or}
use Rattle.capture_reader.specs.Limits.{latest_time}
use Rattle.conn_classifier.specs.Plan.{PlanOf, IsPlan, items_in, time_of}
use Rattle.conn_classifier.specs.Slots.{item_of}
use Rattle.conn_classifier.specs.declared.kinds.Item.{Item}
use Rattle.conn_classifier.proofs.Kept.{item_here}
use Rattle.conn_classifier.proofs.PlanFacts.{items_at, read_items, time_most, time_rises}
use Rattle.conn_classifier.proofs.view.PlanView.item.Goals as goal

pub returns-clause-value : goal.returns-clause-value
returns-clause-value c =
    let p = c.args.self.now in
    let ps = c.self.inside.table.now.packets.items in
    let slots = c.index.result.now.items in
    let items = items_in p c.args.c in
    let is = subst IsPlan c.self.view_is c.self.invariant in
    let same = read_items (λ v. map (item_of ps) v.items) p c.self.inside.table.now.items.items c.args.c c.index.result.now (ap (λ (p : PlanOf). p.items) c.self.view_is) is c.requires.conn c.index.ensures in
    let item_is = c.item_of.ensures ∙ ap (λ l. item_of l c.index-slot.result.now) c.as_slice.ensures.value in
    let here = item_here ps slots c.args.n c.index-slot.result.now items c.item_of.result same c.requires.item c.index-slot.ensures item_is in
    slice_get-get_or items c.args.n c.item_of.result c.requires.item ∙ ap Some (sym here)

pub returns-clause-most : goal.returns-clause-most
returns-clause-most c =
    let p = c.args.self.now in
    let ps = c.self.inside.table.now.packets.items in
    let slots = c.index.result.now.items in
    let items = items_in p c.args.c in
    let is = subst IsPlan c.self.view_is c.self.invariant in
    let same = read_items (λ v. map (item_of ps) v.items) p c.self.inside.table.now.items.items c.args.c c.index.result.now (ap (λ (p : PlanOf). p.items) c.self.view_is) is c.requires.conn c.index.ensures in
    let item_is = c.item_of.ensures ∙ ap (λ l. item_of l c.index-slot.result.now) c.as_slice.ensures.value in
    let here = item_here ps slots c.args.n c.index-slot.result.now items c.item_of.result same c.requires.item c.index-slot.ensures item_is in
    subst (λ (y : Item). time_of y ≤ latest_time) (sym here) (time_most 0 latest_time items c.args.n c.item_of.result (items_at p c.args.c is c.requires.conn).rising c.requires.item)

pub returns-clause-rises : goal.returns-clause-rises
returns-clause-rises c m le =
    let p = c.args.self.now in
    let ps = c.self.inside.table.now.packets.items in
    let slots = c.index.result.now.items in
    let items = items_in p c.args.c in
    let is = subst IsPlan c.self.view_is c.self.invariant in
    let same = read_items (λ v. map (item_of ps) v.items) p c.self.inside.table.now.items.items c.args.c c.index.result.now (ap (λ (p : PlanOf). p.items) c.self.view_is) is c.requires.conn c.index.ensures in
    let item_is = c.item_of.ensures ∙ ap (λ l. item_of l c.index-slot.result.now) c.as_slice.ensures.value in
    let here = item_here ps slots c.args.n c.index-slot.result.now items c.item_of.result same c.requires.item c.index-slot.ensures item_is in
    subst (λ (y : Item). IfSome (slice_get items m) (λ before. time_of before ≤ time_of y)) (sym here)
    (time_rises 0 latest_time items c.args.n c.item_of.result (items_at p c.args.c is c.requires.conn).rising c.requires.item m le)
