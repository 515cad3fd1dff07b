use Rattle.std.proofs.Common.{length, take, sym, ap, ◌∙◌, arith}
use Rattle.std.proofs.lemmas.List.{length_push}
use Rattle.std.proofs.lemmas.Option.{slice_get-get_or}
use Rattle.conn_blocks.specs.Orders.{numbers_from}
use Rattle.conn_blocks.proofs.Numbers.{taken_one, taken_none}
use Rattle.conn_blocks.proofs.calls.count_of.Goals.{then-call-c, else-call-c}
use Rattle.conn_blocks.proofs.calls.count_of.Goals as goal

pub loop-call-preserved : goal.loop-call-preserved
loop-call-preserved c =
    let xs = c.args.thread.now in
    let i = c.loop-call.call-index in
    let lt = c.loop-call-test.true in
    let here = slice_get-get_or xs i _ lt in
    let so_far = c.loop-call.invariant in
    elim c.if-call-c.branch [
      | then-call-c w ↦ record {
        value = omega (arith, w.count-is, so_far.value, ap length (taken_one c.args.c i xs _ lt here w.if-call-c.true), length_push (numbers_from 0 c.args.c (take i xs)) i);
        most = omega (arith, w.count-is, so_far.most);
      }
      | else-call-c w ↦ record {
        value = w.count-is ∙ so_far.value ∙ ap length (sym (taken_none c.args.c i xs _ lt here w.if-call-c.false));
        most = omega (arith, w.count-is, so_far.most);
      }
    ]
