use Rattle.std.proofs.Common.{length, take, ap, arith}
use Rattle.live_chats.proofs.ToldLemmas.{learnt_length, learnt_next}
use Rattle.live_chats.proofs.reaching.learn_all.Goals as goal

pub learn_one-requires : goal.learn_one-requires
learn_one-requires c =
    omega (arith, ap length c.loop-i.invariant.learnt, learnt_length (take c.loop-i.i c.args.heard.now) c.args.seats.now.entries, c.requires, c.loop-i-test.true)

pub loop-i-preserved : goal.loop-i-preserved
loop-i-preserved c = record {
  learnt =
      learnt_next c.args.heard.now c.args.seats.now.entries c.loop-i.i c.heard_at-one.result c.loop-i.seats.entries c.learn_one.new.seats.entries c.heard_at-one.ensures (omega (arith, c.requires, c.loop-i-test.true)) c.loop-i.invariant.learnt
      c.learn_one.ensures.some c.learn_one.ensures.none;
  all = c.loop-i.invariant.all;
}
