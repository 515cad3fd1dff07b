use Rattle.std.proofs.Common.{◌∙◌, ap, rules, vec_capacity, arith}
use Rattle.perimeter_core.specs.Perimeter.{polls}
use Rattle.squeue_state.proofs.Steps.{fill_behind}
use Rattle.squeue_state.proofs.inner.Inner.fill.Goals as goal

pub returns : goal.returns
returns g c =
    record {
      behind = λ G H p b m fit.
          let cap = ap (λ w. vec_capacity w.chain) c.poll.ensures in
          let grown = c.queue_feeds.ensures.room in
          let room = b.room in
          fill_behind g.R.Resident G c.args.self.now _ H p c.args.es.now b m (search rules) (ap (λ w. w.chain.items) c.poll.ensures ∙ c.queue_feeds.ensures.items) (search rules) (ap (λ w. w.polling) c.poll.ensures ∙ ap (λ xs. polls xs c.args.self.now.polling) c.queue_feeds.ensures.items) (search rules) (search rules) (search rules) (search rules)
          (omega (arith, cap, grown, room)) (search rules) fit;
    }
