use Rattle.std.proofs.Common.{arith, ◌≡◌, false, true, refl}
use Rattle.trace_lines.proofs.CallsRead.{calls_all, calls_more, calls_none, other_line, out_of_order, too_many}
use Rattle.trace_lines.proofs.heads.calls.Goals as goal
use Rattle.trace_lines.proofs.heads.calls.Goals.{then-j-last-via-then-j-last, then-j-last-via-else-j-last+then-j-ge-CALLERS, then-j-last-via-else-j-last+else-j-ge-CALLERS+then-c-conns}

pub loop-init : goal.loop-init
loop-init c = rw c.make-calls.ensures (calls_none c.args.text.now c.args.conns)

pub returns-then-not-begins_with_call : goal.returns-then-not-begins_with_call
returns-then-not-begins_with_call c =
    calls_all c.args.text.now c.args.conns c.loop.calls c.loop.rest.now c.loop.last c.loop.counter c.loop.invariant (omega arith)
    (λ h. let never : false ≡ true = c.if-not-begins_with_call.ensures.1 h in cc)

pub returns-in_default : goal.returns-in_default
returns-in_default c =
    other_line c.args.text.now c.args.conns c.loop.calls c.loop.rest.now c.loop.last c.loop.counter c.loop.invariant c.ranges.conns.fits (c.if-not-begins_with_call.ensures.0 refl) c.in_default.ensures

pub returns-then-j-last : goal.returns-then-j-last
returns-then-j-last c =
    out_of_order c.args.text.now c.args.conns c.loop.calls c.loop.rest.now c.in-Some.others.now c.loop.last c.loop.counter c.in-Some.j c.in-Some.c c.in-Some.call c.loop.invariant c.ranges.conns.fits
    (c.if-not-begins_with_call.ensures.0 refl) c.in-Some.ensures
    (λ in_order thread conn. elim c.then-j-last.branch [
      | then-j-last-via-then-j-last w ↦ omega (arith, in_order, w.if-j-last.true)
      | then-j-last-via-else-j-last+then-j-ge-CALLERS w ↦ omega (arith, thread, w.if-j-ge-CALLERS.true)
      | then-j-last-via-else-j-last+else-j-ge-CALLERS+then-c-conns w ↦ omega (arith, conn, w.if-c-conns.true)
    ])

pub loop-preserved : goal.loop-preserved
loop-preserved c =
    rw c.in_ok-push.ensures.ok
    (calls_more c.args.text.now c.args.conns c.loop.calls c.loop.rest.now c.in-Some.others.now c.loop.last c.loop.counter c.in-Some.j c.in-Some.c c.in-Some.call c.loop.invariant c.ranges.conns.fits c.in-Some.ensures
    (omega arith) (omega arith) (omega arith))

pub returns-then-begins_with_call : goal.returns-then-begins_with_call
returns-then-begins_with_call c =
    too_many c.args.text.now c.args.conns c.loop.calls c.loop.rest.now c.loop.last c.loop.counter c.loop.invariant (omega arith) (c.if-begins_with_call.ensures.0 refl)

pub returns : goal.returns
returns c =
    calls_all c.args.text.now c.args.conns c.loop.calls c.loop.rest.now c.loop.last c.loop.counter c.loop.invariant (omega arith)
    (λ h. let never : false ≡ true = c.if-begins_with_call.ensures.1 h in cc)
