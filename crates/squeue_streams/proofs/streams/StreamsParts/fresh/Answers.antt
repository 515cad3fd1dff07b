use Rattle.std.proofs.Common.{ap, sym, subst, ◌∙◌}
use Rattle.rtrb.specs.Ring.{received}
use Rattle.squeue_streams.specs.Taking.{input_of}
use Rattle.squeue_streams.proofs.Items.{stream_new}
use Rattle.squeue_streams.proofs.streams.StreamsParts.fresh.Goals as goal

pub returns-clause-owner : goal.returns-clause-owner
returns-clause-owner g c =
    let o = g.X.Steps.origin c.args.self.now.steps in
    let of = c.of.ensures in
    let begun = subst (λ s. g.X.Steps.begins o c.args.c (input_of c.of.result) s) (sym of.state) (c.in_ok-state.ensures (input_of c.of.result)) in
    stream_new g.X.Steps.begins g.X.Steps.step o c.args.c c.of.result (ap received of.input ∙ c.in_ok-_producer.ensures.consumer.0) of.count begun
