use Rattle.std.proofs.Common.{◌+◌, ◌%◌, ◌^◌, refl}
use Rattle.squeue_streams.proofs.Items.{has_one_more}
use Rattle.squeue_streams.proofs.streams.Streams.take_known.Goals as goal

pub returns-clause-taken : goal.returns-clause-taken
returns-clause-taken g c =
    has_one_more g.X.Steps.begins g.X.Steps.step (g.X.Steps.origin c.args.self.now.steps) c.args.stream.now
    (record { input = c.pop_known-item.new.self; state = c.take.new.state; had = c.args.stream.now.had; count = (c.args.stream.now.count + 1) % 2 ^ 64 }) c.pop_known-item.result c.pop_known-item.ensures.ring
    c.pop_known-item.ensures.received.0 refl c.take.ensures refl
