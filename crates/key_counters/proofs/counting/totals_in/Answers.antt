use Rattle.std.proofs.Common.{◌<◌, ◌≤◌, ap, length, map, sum, ◌∙◌, arith}
use Rattle.std.proofs.lemmas.List.{length-map, take_all}
use Rattle.squeue.specs.ServedParts.{counts_of, shared_of}
use Rattle.key_counters.specs.Counting.{rows_of}
use Rattle.key_counters.proofs.Totals.{one_total, totals_more}
use Rattle.key_counters.proofs.counting.totals_in.Goals as goal

pub loop-c-preserved : goal.loop-c-preserved
loop-c-preserved c =
    let served = c.args.served.now in
    let rows = rows_of (shared_of served) in
    let lt : c.loop-c.c < length rows = omega (arith, c.loop-c-test.true, c.count-c-end.ensures, ap length c.requires.counts, length-map rows length) in
    totals_more rows c.loop-c.c c.part.result.now.total c.loop-c.totals.items c.push.new.self.items lt c.loop-c.invariant
    (one_total rows (counts_of served) c.loop-c.c c.part.result.now c.requires.counts c.part.ensures.own c.part.ensures.fed) c.in_ok-push.ensures.items

pub returns : goal.returns
returns c =
    let rows = rows_of (shared_of c.args.served.now) in
    let all : length rows ≤ c.loop-c.c = omega (arith, c.loop-c-test.false, c.count-c-end.ensures, ap length c.requires.counts, length-map rows length) in
    c.loop-c.invariant ∙ ap (map sum) (take_all c.loop-c.c rows all)
