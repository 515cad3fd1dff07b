use Rattle.std.proofs.Common.{length, map, ap, subst, arith}
use Rattle.std.proofs.lemmas.List.{length-map}
use Rattle.conn_classifier.specs.Plan.{PlanOf, IsPlan}
use Rattle.conn_classifier.specs.Slots.{item_of}
use Rattle.conn_classifier.proofs.PlanFacts.{items_at, read_items}
use Rattle.conn_classifier.proofs.view.PlanView.items.Goals as goal

pub overflow_cast-result : goal.overflow_cast-result
overflow_cast-result c =
    let ps = c.self.inside.table.now.packets.items in
    let is = subst IsPlan c.self.view_is c.self.invariant in
    let same = read_items (λ v. map (item_of ps) v.items) c.args.self.now c.self.inside.table.now.items.items c.args.c c.index.result.now (ap (λ (p : PlanOf). p.items) c.self.view_is) is c.requires c.index.ensures in
    omega (arith, ap length same, length-map c.index.result.now.items (item_of ps), (items_at c.args.self.now c.args.c is c.requires).many, c.len.ensures, c.index.result.now.ok)

pub returns-clause-value : goal.returns-clause-value
returns-clause-value c =
    let ps = c.self.inside.table.now.packets.items in
    let is = subst IsPlan c.self.view_is c.self.invariant in
    let same = read_items (λ v. map (item_of ps) v.items) c.args.self.now c.self.inside.table.now.items.items c.args.c c.index.result.now (ap (λ (p : PlanOf). p.items) c.self.view_is) is c.requires c.index.ensures in
    omega (arith, ap length same, length-map c.index.result.now.items (item_of ps), c.len.ensures, c.index.result.now.ok)

pub returns-clause-some : goal.returns-clause-some
returns-clause-some c =
    let ps = c.self.inside.table.now.packets.items in
    let is = subst IsPlan c.self.view_is c.self.invariant in
    let same = read_items (λ v. map (item_of ps) v.items) c.args.self.now c.self.inside.table.now.items.items c.args.c c.index.result.now (ap (λ (p : PlanOf). p.items) c.self.view_is) is c.requires c.index.ensures in
    omega (arith, ap length same, length-map c.index.result.now.items (item_of ps), (items_at c.args.self.now c.args.c is c.requires).some, c.len.ensures, c.index.result.now.ok)

pub returns-clause-most : goal.returns-clause-most
returns-clause-most c =
    let ps = c.self.inside.table.now.packets.items in
    let is = subst IsPlan c.self.view_is c.self.invariant in
    let same = read_items (λ v. map (item_of ps) v.items) c.args.self.now c.self.inside.table.now.items.items c.args.c c.index.result.now (ap (λ (p : PlanOf). p.items) c.self.view_is) is c.requires c.index.ensures in
    omega (arith, ap length same, length-map c.index.result.now.items (item_of ps), (items_at c.args.self.now c.args.c is c.requires).many, c.len.ensures, c.index.result.now.ok)
