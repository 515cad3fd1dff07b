use Rattle.std.proofs.Common.{ap, ◌∙◌, length, arith}
use Rattle.squeue_state.specs.Lone.{is_lone}
use Rattle.squeue_state.proofs.Steps.{claim_ask_behind, empty_free}
use Rattle.squeue_state.proofs.inner.Inner.claim_ask.Goals as goal

pub returns-clause-behind : goal.returns-clause-behind
returns-clause-behind g c = λ G H b m.
    let taken = c.take_all.ensures.taken in
    let empty = c.take_all.ensures.empty G.room (empty_free G.room (is_lone c.args.self.now.own H) c.args.self.now.in_hand c.args.self.now.own c.args.self.now.spare b.spare (b.own ∙ m.step.0)) in
    claim_ask_behind g.R.Resident G c.args.self.now c.take_all.new.self H c.args.p b m (ap (λ w. w.own) taken) empty.0 (ap (λ w. w.wake) taken) (ap (λ w. w.polling) taken) (ap (λ w. w.here.items) taken) (ap (λ w. w.closed.items) taken) (ap (λ w. w.resident) taken) (ap (λ w. w.spare) taken) empty.1 (omega (arith, ap (λ w. w.in_hand) taken, ap length c.append.ensures.items, c.append.new.chain.ok.0))
