use Rattle.std.proofs.Common.{◌≡◌, ◌+◌, ◌-◌, ◌<◌, length, arith}
use Rattle.squeue_report.proofs.Marked.{entries_end, entry_more, there}
use Rattle.squeue_report.proofs.tracing.push_entries.Goals as goal

pub loop-i-preserved : goal.loop-i-preserved
loop-i-preserved g c =
    let es = c.args.trace.now.entries in
    let i = c.loop-i.i in
    let end = c.args.first + c.args.len in
    let within : i < length es = omega (arith, c.loop-i-test.true, c.requires.places) in
    let count : end - i ≡ end - (i + 1) + 1 = omega (arith, c.loop-i-test.true) in
    entry_more es _ _ _ i (end - i) (end - (i + 1)) c.entry.result c.loop-i.invariant (there es i c.entry.result within c.entry.ensures) count c.in_ok-push_entry.ensures

pub returns : goal.returns
returns g c =
    let none : c.args.first + c.args.len - c.loop-i.i ≡ 0 = omega (arith, c.loop-i-test.false) in
    entries_end c.args.trace.now.entries (c.args.first + c.args.len - c.loop-i.i) c.loop-i.i _ _ _ none c.loop-i.invariant c.in_ok-put.ensures.told
