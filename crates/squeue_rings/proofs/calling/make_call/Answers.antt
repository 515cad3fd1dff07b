use Rattle.std.proofs.Common.{◌<◌, length, arith}
use Rattle.squeue_serve.specs.Places.{Holds}
use Rattle.squeue_rings.specs.Calling.{TriesAt}
use Rattle.squeue_rings.proofs.CallersMake.{all_begin, not_yet, now_made, one_may_try}
use Rattle.squeue_rings.proofs.Slots.{at_length}
use Rattle.squeue_rings.proofs.calling.make_call.Goals as goal

pub loop-init : goal.loop-init
loop-init g c cs next may at = all_begin g.R.Resident.limits c.args.j c.args.k cs c.args.c c.args.access.now.squeues.now c.args.places.now.items at

pub index_mut-requires : goal.index_mut-requires
index_mut-requires g c =
    let ready = c.requires.ready in
    let tries = c.loop.invariant ready.0 ready.1 ready.2 ready.3 in
    let n = at_length (λ s o. Holds (TriesAt g.R.Resident.limits s c.args.j ready.0 c.args.c) o) c.args.access.now.squeues.now c.loop.places.items tries.each in
    omega (arith, n, c.get-q.ensures, c.requires.hints.1, c.loop.places.ok)

pub try_call-requires : goal.try_call-requires
try_call-requires g c =
    let ready = c.requires.ready in
    let lq : c.get-q.result < length c.args.access.now.squeues.now = omega (arith, c.get-q.ensures, c.requires.hints.1) in
    one_may_try g.R.Resident.limits c.args.j c.args.k ready.0 c.args.c c.args.access.now.squeues.now ready.2 c.loop.places.items (c.loop.invariant ready.0 ready.1 ready.2 ready.3) c.get-q.result c.index-squeues-q.result c.index_mut.result.now lq c.index-squeues-q.is c.index_mut.ensures.value

pub returns-then-try_call : goal.returns-then-try_call
returns-then-try_call g c cs next may at =
    let lq : c.get-q.result < length c.args.access.now.squeues.now = omega (arith, c.get-q.ensures, c.requires.hints.1) in
    now_made g.R.Resident.limits c.args.j c.args.k cs c.args.c c.args.access.now.squeues.now may c.loop.places.items (c.loop.invariant cs next may at) c.get-q.result c.index-squeues-q.result c.index_mut.result.now lq c.index-squeues-q.is c.index_mut.ensures.value c.try_call.result c.try_call.new.place
    next c.if-try_call.true c.try_call.ensures

pub loop-preserved : goal.loop-preserved
loop-preserved g c cs next may at =
    let lq : c.get-q.result < length c.args.access.now.squeues.now = omega (arith, c.get-q.ensures, c.requires.hints.1) in
    not_yet g.R.Resident.limits c.args.j c.args.k cs c.args.c c.args.access.now.squeues.now may c.loop.places.items (c.loop.invariant cs next may at) c.get-q.result c.index-squeues-q.result c.index_mut.result.now lq c.index-squeues-q.is c.index_mut.ensures.value c.try_call.result c.try_call.new.place
    next c.if-try_call.false c.try_call.ensures
