use Rattle.std.proofs.Common.{arith, refl}
use Rattle.squeue_streams.proofs.Items.{stream_same}
use Rattle.placed_parts.specs.Placing.{limits_of, origin_of}
use Rattle.stream_stays.proofs.Knowing.{life_moved, may_come, stays_opened}
use Rattle.stream_stays.proofs.passing.open.Goals as goal

pub put_into-pass-requires-clause-may : goal.put_into-pass-requires-clause-may
put_into-pass-requires-clause-may g c = may_come limits_of c.args.sq.now c.args.pass c.args.life.now c.args.vacant.stream c.args.vacant.leaves c.requires.asks c.requires.life c.requires.away

pub put_into-pass-requires-clause-new : goal.put_into-pass-requires-clause-new
put_into-pass-requires-clause-new g c = (refl, c.renewed.ensures.stands)

pub put_into-pass-requires-clause-part : goal.put_into-pass-requires-clause-part
put_into-pass-requires-clause-part g c =
    stream_same g.X.Steps.begins g.X.Steps.step (origin_of c.args.sq.now.given.first) c.args.vacant.stream c.args.vacant.part c.renewed.result c.renewed.ensures.input c.renewed.ensures.state c.renewed.ensures.count c.requires.part

pub returns-clause-life : goal.returns-clause-life
returns-clause-life g c = life_moved limits_of c.args.sq.now c.args.pass c.put_into-pass.result _ _ _ _ c.args.life.now _ c.put_into-pass.ensures.moved c.put_into-pass.ensures.learns c.requires.life refl (omega (arith, c.requires.asks))

pub returns-clause-stays : goal.returns-clause-stays
returns-clause-stays g c = stays_opened limits_of c.args.sq.now c.args.pass c.put_into-pass.result _ _ c.put_into-pass.ensures.moved c.put_into-pass.ensures.learns c.put_into-pass.ensures.next refl c.requires.away

pub returns-clause-others : goal.returns-clause-others
returns-clause-others g c = c.put_into-pass.ensures.learns.others
