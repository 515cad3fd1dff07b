use Rattle.std.proofs.Common.{length, ap, sym, ◌∙◌, arith}
use Rattle.std.proofs.lemmas.List.{length-map}
use Rattle.std.proofs.lemmas.Result.{IfOk-weaker}
use Rattle.squeue_pool.specs.Works.{WorkOf, work_of}
use Rattle.datagram_services.specs.declared.blocks.StreamBlocks.{StreamBlocks}
use Rattle.stream_plan.specs.Streams.{item_count}
use Rattle.datagram_services.proofs.Ran.{filled, has_served}
use Rattle.datagram_services.proofs.Suits.{by_pool, suits}
use Rattle.datagram_services.proofs.serving.serve_more.Goals as goal

pub run_for_parts-requires-clause-pool : goal.run_for_parts-requires-clause-pool
run_for_parts-requires-clause-pool g c κs within =
    let work = c.in_ok-work.work in
    let none = ap (λ (w : WorkOf StreamBlocks). length w.calls) c.in_ok-work.ensures.by_key in
    let n = length-map work.calls.items (λ v. v.items) in
    (omega (arith, c.of-pool.ensures.rings, c.requires.setup.rings.0), omega (arith, c.of-pool.ensures.rings, c.requires.setup.rings.1, none, n))

pub run_for_parts-requires-clause-work : goal.run_for_parts-requires-clause-work
run_for_parts-requires-clause-work g c κs within =
    let p = c.args.plan.now in
    let pool = c.of-pool.result in
    let w = work_of c.in_ok-work.work in
    suits p c.is_sound.ensures pool w (by_pool p pool c.args.setup.now.squeues c.args.setup.now.rings w c.of-pool.ensures.squeues c.of-pool.ensures.rings c.in_ok-work.ensures) c.of-pool.ensures.spread
    (omega (arith, c.of-pool.ensures.rings, c.requires.setup.rings.0))

pub left-requires-clause-count : goal.left-requires-clause-count
left-requires-clause-count g c =
    c.in_ok-finished.ensures.count
    ∙ (ap (λ (w : WorkOf StreamBlocks). w.conns) c.in_ok-work.ensures.by_key ∙ (length-map c.args.plan.now.streams item_count ∙ sym c.streams.ensures.value))

pub left-requires-clause-there : goal.left-requires-clause-there
left-requires-clause-there g c =
    let p = c.args.plan.now in
    let pool = c.of-pool.result in
    let w = work_of c.in_ok-work.work in
    filled p pool w (by_pool p pool c.args.setup.now.squeues c.args.setup.now.rings w c.of-pool.ensures.squeues c.of-pool.ensures.rings c.in_ok-work.ensures) c.of-pool.ensures.spread
    (omega (arith, c.of-pool.ensures.rings, c.requires.setup.rings.0)) c.in_ok-finished.finished c.in_ok-finished.ensures

pub returns : goal.returns
returns g c =
    let p = c.args.plan.now in
    let pool = c.of-pool.result in
    let w = work_of c.in_ok-work.work in
    IfOk-weaker c.left.result _ _
    (λ v held. has_served p pool w (by_pool p pool c.args.setup.now.squeues c.args.setup.now.rings w c.of-pool.ensures.squeues c.of-pool.ensures.rings c.in_ok-work.ensures) c.of-pool.ensures.spread
    (omega (arith, c.of-pool.ensures.rings, c.requires.setup.rings.0)) c.in_ok-finished.finished c.in_ok-finished.ensures
    c.args.setup.now c.of-pool.ensures.squeues c.of-pool.ensures.rings c.of-pool.ensures.mode c.of-pool.ensures.budget v held) c.left.ensures
