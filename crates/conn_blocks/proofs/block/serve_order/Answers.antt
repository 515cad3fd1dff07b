use Rattle.std.proofs.Common.{ap, sym, subst}
use Rattle.std.proofs.lemmas.List.{drop_more, take_more}
use Rattle.byte_queues.specs.ReceiveQueue.{next_of}
use Rattle.tcb_machine.specs.BlockState.{Block as Tcp, new_block, offered}
use Rattle.conn_blocks.specs.ServeOrder.{BlockOf, serve, serves}
use Rattle.conn_blocks.specs.Services.{service_in}
use Rattle.conn_blocks.proofs.SoFar.{SoFar, starts, more}
use Rattle.conn_blocks.proofs.block.serve_order.Goals as goal

pub loop-act-init : goal.loop-act-init
unfolding serve new_block offered next_of
loop-act-init c =
    let e = c.in_ok-block.ensures in
    let p = c.args.plan.now in
    let calls = c.args.calls.now in
    starts p calls c.args.c c.args.order.now e.few_items c.in_ok-block.block.value e.order e.short e.service
    (λ i. serves p calls c.args.c (service_in p c.args.c) c.args.order.now (record { block = e.tcb i; answers = e.answers i }))
    c.requires.acts c.requires.rising (ap (λ (b : Tcp). b.clock) e.tcb) (ap (λ (b : Tcp). next_of b.recv) e.tcb) (ap (λ (b : Tcp). offered b) e.tcb)

pub loop-act-preserved : goal.loop-act-preserved
loop-act-preserved c =
    let p = c.args.plan.now in
    let calls = c.args.calls.now in
    let order = c.args.order.now in
    let i = c.loop-act.act-index in
    let e = c.in_ok-serve.ensures in
    let so_far = subst (λ (b : BlockOf). SoFar p calls c.args.c order i b) (sym c.deref_mut.ensures.value) c.loop-act.invariant in
    more p calls c.args.c order c.in_ok-block.ensures.few_items i c.deref_mut.result.now so_far _ (drop_more order i _ c.loop-act-test.true) c.serve.new.self
    (take_more order i _ c.loop-act-test.true) e.order e.same.0 e.same.1 e.step e.clock e.received e.offered
