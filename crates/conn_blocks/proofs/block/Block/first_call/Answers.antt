use Rattle.std.proofs.Common.{length, set, ap, sym, ◌∙◌, arith}
use Rattle.std.proofs.lemmas.List.{length-set}
use Rattle.conn_blocks.specs.declared.stages.Stage.TheVariants as stage
use Rattle.conn_blocks.specs.ServeOrder.{BlockOf}
use Rattle.conn_blocks.proofs.Held.{first_settled, first_left, first_early, first_now}
use Rattle.conn_blocks.proofs.block.Block.first_call.Goals as goal

pub index_mut-requires : goal.index_mut-requires
index_mut-requires c =
    let inside = c.requires.stands.1.settled.table c.args.j c.args.k c.requires.exists.0 c.requires.exists.1 in
    omega (arith, inside, c.place.ensures, ap (λ (b : BlockOf). length b.stages) c.self.view_is, c.self.inside.stages.ok)

pub is_next-requires-clause-table : goal.is_next-requires-clause-table
is_next-requires-clause-table c i lt =
    let inside = c.requires.stands.1.settled.table c.args.j i c.requires.exists.0 lt in
    omega (arith, inside, ap (λ (b : BlockOf). length b.stages) c.self.view_is, length-set c.self.inside.stages.items c.place.result stage.Held)

pub let_go-requires-clause-settled : goal.let_go-requires-clause-settled
let_go-requires-clause-settled c =
    first_settled c.args.plan.now c.args.calls.now c.args.c c.requires.stands.0 c.args.self.now c.requires.stands.1 c.args.j c.args.k c.requires.exists c.requires.unasked _
    (λ i. record (c.self.view_is i) { stages = set ((c.self.view_is i).stages) (c.place.ensures i) stage.Held })

pub let_go-requires-clause-next : goal.let_go-requires-clause-next
let_go-requires-clause-next c =
    first_left c.args.plan.now c.args.calls.now c.args.c c.requires.stands.0 c.args.self.now c.requires.stands.1 c.args.j c.args.k c.requires.exists c.requires.unasked _
    (λ i. record (c.self.view_is i) { stages = set ((c.self.view_is i).stages) (c.place.ensures i) stage.Held })
    (sym c.is_next.ensures ∙ c.if-is_next.true)

pub returns-then-is_next : goal.returns-then-is_next
returns-then-is_next c =
    let e = c.let_go.ensures in
    λ came is. first_now c.args.plan.now c.args.calls.now c.args.c came c.args.self.now is c.args.j c.args.k c.requires.exists c.requires.unasked _
    (λ i. record (c.self.view_is i) { stages = set ((c.self.view_is i).stages) (c.place.ensures i) stage.Held })
    (sym c.is_next.ensures ∙ c.if-is_next.true) c.let_go.new.self e.settled e.order e.fits

pub returns-else-is_next : goal.returns-else-is_next
returns-else-is_next c =
    λ came is. first_early c.args.plan.now c.args.calls.now c.args.c came c.args.self.now is c.args.j c.args.k c.requires.exists c.requires.unasked _
    (λ i. record (c.self.view_is i) { stages = set ((c.self.view_is i).stages) (c.place.ensures i) stage.Held })
    (sym c.is_next.ensures ∙ c.if-is_next.false)
