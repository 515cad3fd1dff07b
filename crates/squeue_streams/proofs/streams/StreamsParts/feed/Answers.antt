use Rattle.squeue_streams.proofs.Items.{stream_more, taken_more}
use Rattle.std.proofs.Common.{◌+◌, ◌%◌, ◌^◌, refl}
use Rattle.squeue_streams.proofs.streams.StreamsParts.feed.Goals as goal

pub returns-clause-owner : goal.returns-clause-owner
returns-clause-owner g c =
    stream_more g.X.Steps.begins g.X.Steps.step (g.X.Steps.origin c.args.self.now.steps) c.args._c c.args.stream.now
    (record { input = c.next-item.new.input; state = c.take.new.state; had = c.args.stream.now.had + 1; count = (c.args.stream.now.count + 1) % 2 ^ 64 }) c.next-item.result c.requires.owner c.next-item.ensures.ring
    c.next-item.ensures.popped c.take.ensures refl

pub returns-clause-stands : goal.returns-clause-stands
returns-clause-stands g c = λ had was.
    taken_more c.args._n c.args.stream.now (record { input = c.next-item.new.input; state = c.take.new.state; had = c.args.stream.now.had + 1; count = (c.args.stream.now.count + 1) % 2 ^ 64 }) c.next-item.result had c.next-item.ensures.popped refl was

pub returns-clause-one : goal.returns-clause-one
returns-clause-one g c = record { item = c.next-item.result; ring = c.next-item.ensures.ring; popped = c.next-item.ensures.popped; taken = c.take.ensures }
