use Rattle.std.proofs.Common.{◌≡◌, ◌<◌, ◌+◌, ◌↔◌, ℕ, Bool, true, false, List, arith, ap, length, get_or, subst}
use Rattle.squeue_state.proofs.Reading.{reads, pass_flags, others}
use Rattle.squeue_state.proofs.turn.Turn.others_closed.Goals as goal

pub all_but_last-requires : goal.all_but_last-requires
all_but_last-requires g c =
    let b = reads g.R.Resident c.self.inside.of.value c.self.inside.held c.args.self.now c.get.result.now c.self.invariant c.self.view_is c.get.ensures in
    omega (arith, ap length c.deref.ensures.value, pass_flags g.R.Resident c.args.self.now.squeue.given c.get.result.now.inner c.args.self.now.found b)

pub returns : goal.returns
returns g c =
    let b = reads g.R.Resident c.self.inside.of.value c.self.inside.held c.args.self.now c.get.result.now c.self.invariant c.self.view_is c.get.ensures in
    others g.R.Resident c.args.self.now.squeue.given c.get.result.now.inner c.args.self.now.found c.all_but_last.result b
    (subst (λ (xs : List Bool). (c.all_but_last.result ≡ true) ↔ ((p : ℕ) → p + 1 < length xs → get_or xs p false ≡ true)) c.deref.ensures.value c.all_but_last.ensures)
