use Rattle.std.proofs.Common.{◌∙◌, ap, rules, vec_capacity, arith}
use Rattle.perimeter_core.specs.Perimeter.{polls}
use Rattle.squeue_state.proofs.Steps.{ask_behind}
use Rattle.squeue_state.proofs.inner.Inner.ask.Goals as goal

pub returns : goal.returns
returns g c =
    record {
      behind = λ G H b m.
          let cap = ap (λ w. vec_capacity w.chain) c.poll.ensures in
          let grown = c.append.ensures.room in
          let room = b.room in
          ask_behind g.R.Resident G c.args.self.now _ H c.args.p b m (search rules) (ap (λ w. w.chain.items) c.poll.ensures ∙ c.append.ensures.items) (search rules) (ap (λ w. w.polling) c.poll.ensures ∙ ap (λ xs. polls xs c.args.self.now.polling) c.append.ensures.items) (search rules) (search rules) (search rules) (search rules)
          (omega (arith, cap, grown, room)) (search rules);
    }
