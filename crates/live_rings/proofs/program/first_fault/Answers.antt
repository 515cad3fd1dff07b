use Rattle.std.proofs.Common.{◌∙◌, ◌+◌, ap, drop, map, sym}
use Rattle.live_rings.specs.Program.{first_fault}
use Rattle.live_rings.proofs.Faults.{dropped, found, skipped}
use Rattle.live_rings.proofs.program.first_fault.Goals as goal

pub loop-stream-preserved : goal.loop-stream-preserved
loop-stream-preserved g c =
    let ended = c.args.ended.now in
    let at = c.loop-stream.stream-index in
    let here = c.stream-item.result in
    c.loop-stream.invariant
    ∙ (ap (λ ds. first_fault (map (λ d. d.fault) ds)) (dropped ended at here c.loop-stream-test.true c.stream-item.is) ∙ skipped here.fault (map (λ d. d.fault) (drop (at + 1) ended)) (sym c.is_some.ensures ∙ c.if-is_some.false))

pub returns-then-is_some : goal.returns-then-is_some
returns-then-is_some g c =
    let ended = c.args.ended.now in
    let at = c.loop-stream.stream-index in
    let here = c.stream-item.result in
    sym (c.loop-stream.invariant
    ∙ (ap (λ ds. first_fault (map (λ d. d.fault) ds)) (dropped ended at here c.loop-stream-test.true c.stream-item.is) ∙ found here.fault (map (λ d. d.fault) (drop (at + 1) ended)) (sym c.is_some.ensures ∙ c.if-is_some.true)))
