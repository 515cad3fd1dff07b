use Rattle.std.proofs.Common.{◌≡◌, length, ap, sym, subst, ◌∙◌, arith}
use Rattle.std.specs.Vec.{with_item}
use Rattle.std.proofs.lemmas.List.{length-set}
use Rattle.conn_blocks.specs.declared.stages.Stage.TheVariants as stage
use Rattle.conn_blocks.specs.ServeOrder.{BlockOf}
use Rattle.conn_blocks.specs.Holding.{IsSettled}
use Rattle.conn_blocks.proofs.Settled.{settled_stages}
use Rattle.conn_blocks.proofs.block.Block.make_call.Goals as goal

pub index_mut-requires : goal.index_mut-requires
index_mut-requires c =
    let inside = c.requires.settled.table c.args.j c.args.k c.requires.exists.0 c.requires.exists.1 in
    omega (arith, inside, c.place.ensures, ap (λ (b : BlockOf). length b.stages) c.self.view_is, c.self.inside.stages.ok)

pub keep_next-requires-clause-settled : goal.keep_next-requires-clause-settled
keep_next-requires-clause-settled c =
    let s = (with_item c.self.inside.stages c.place.result stage.Made).items in
    let p = c.args.plan.now in
    let calls = c.args.calls.now in
    let wide : length s ≡ length c.args.self.now.stages = length-set c.self.inside.stages.items c.place.result stage.Made ∙ ap (λ (b : BlockOf). length b.stages) c.self.view_is in
    subst (λ (b : BlockOf). IsSettled p calls c.args.c (record b { stages = s })) (sym c.self.view_is) (settled_stages p calls c.args.c c.args.self.now c.requires.settled s wide)
