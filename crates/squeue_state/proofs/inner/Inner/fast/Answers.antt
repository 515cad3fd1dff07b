use Rattle.std.proofs.Common.{◌≡◌, ap, sym, subst, rules, vec_capacity}
use Rattle.squeue_state.proofs.Steps.{fast_behind}
use Rattle.squeue_state.proofs.inner.Inner.fast.Goals as goal

pub returns-clause-behind : goal.returns-clause-behind
returns-clause-behind g c = λ G H e b m fit.
    fast_behind g.R.Resident G c.args.self.now _ H c.args.p e b m (search rules) (search rules) (search rules) (search rules) (search rules) (search rules) (search rules) (search rules)
    (subst (λ n. G.room ≡ n) (sym (ap (λ w. vec_capacity w.chain) c.poll.ensures)) b.room) (search rules) fit
