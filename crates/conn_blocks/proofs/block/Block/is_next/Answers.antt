use Rattle.std.proofs.Common.{rules, ◌≡◌, ◌<◌, true, false, length, take, sym, ap, ◌∙◌, arith}
use Rattle.conn_blocks.specs.CallLists.{calls_of}
use Rattle.conn_blocks.specs.Orders.{numbers_from}
use Rattle.conn_blocks.specs.Holding.{all_made, is_made, stage_at}
use Rattle.conn_blocks.proofs.Numbers.{taken_one, taken_none}
use Rattle.conn_blocks.proofs.LettingGo.{all_push, not_all}
use Rattle.conn_blocks.proofs.block.Block.is_next.Goals.{else-get-c-via-then-get-c+else-not-is_made, else-get-c-via-else-get-c}
use Rattle.conn_blocks.proofs.block.Block.is_next.Goals as goal

pub returns-then-not-is_made : goal.returns-then-not-is_made
returns-then-not-is_made c =
    let xs = calls_of c.args.calls.now c.args.j in
    let made : c.is_made.result ≡ false = search rules in
    sym (not_all c.args.self.now.stages c.args.c c.args.j c.loop-i.i c.args.k xs c.get.result c.loop-i-test.true c.requires.call c.get.ensures c.if-get-c.true (sym c.is_made.ensures ∙ made))

pub loop-i-preserved : goal.loop-i-preserved
loop-i-preserved c =
    let xs = calls_of c.args.calls.now c.args.j in
    let i = c.loop-i.i in
    let lt : i < length xs = omega (arith, c.loop-i-test.true, c.requires.call) in
    let so_far = c.loop-i.invariant in
    elim c.else-get-c.branch [
      | else-get-c-via-then-get-c+else-not-is_made w ↦
          let made : w.is_made.result ≡ true = search rules in
          ap (all_made c.args.self.now.stages c.args.j) (taken_one c.args.c i xs c.get.result lt c.get.ensures w.if-get-c.true)
          ∙ all_push (λ m. is_made (stage_at c.args.self.now.stages c.args.j m)) (numbers_from 0 c.args.c (take i xs)) i so_far (sym w.is_made.ensures ∙ made)
      | else-get-c-via-else-get-c w ↦
          ap (all_made c.args.self.now.stages c.args.j) (taken_none c.args.c i xs c.get.result lt c.get.ensures w.if-get-c.false) ∙ so_far
    ]
