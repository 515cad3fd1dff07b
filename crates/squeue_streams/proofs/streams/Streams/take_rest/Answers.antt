use Rattle.std.proofs.Common.{◌∙◌, refl, arith}
use Rattle.rtrb.specs.Ring.{known_items}
use Rattle.squeue_streams.specs.Taking.{input_of, items_of}
use Rattle.squeue_streams.proofs.Items.{all_left, has_looked, has_more_on}
use Rattle.squeue_streams.proofs.streams.Streams.take_rest.Goals as goal

pub loop-k-init : goal.loop-k-init
loop-k-init g c =
    let looked = c.slots_beside-left.ensures in
    let was = c.args.stream.now in
    record {
      left = omega (arith, looked.value);
      all = looked.fifo ∙ looked.producer.1;
      taken =
          has_looked g.X.Steps.begins g.X.Steps.step (g.X.Steps.origin c.args.self.now.steps) was
          (record { input = c.slots_beside-left.new.self; state = was.state; had = was.had; count = was.count }) looked.looked.0 looked.looked.1 refl refl refl;
    }

pub take_known-requires : goal.take_known-requires
take_known-requires g c =
    let left = c.loop-k.invariant.left in
    let more = c.loop-k-test.true in
    omega (arith, left, more)

pub loop-k-preserved : goal.loop-k-preserved
loop-k-preserved g c =
    let i = c.loop-k.invariant in
    let one = c.take_known.ensures in
    let left = i.left in
    let fewer = one.left in
    record {
      left = omega (arith, left, fewer);
      all = one.same ∙ i.all;
      taken =
          has_more_on g.X.Steps.begins g.X.Steps.step (g.X.Steps.origin c.args.self.now.steps) c.args.stream.now c.loop-k.stream c.take_known.new.stream i.taken one.taken;
    }

pub returns-clause-items : goal.returns-clause-items
returns-clause-items g c =
    let i = c.loop-k.invariant in
    let left = i.left in
    let over = c.loop-k-test.false in
    all_left (items_of c.loop-k.stream) (known_items (input_of c.loop-k.stream)) _ (omega (arith, left, over)) i.all
