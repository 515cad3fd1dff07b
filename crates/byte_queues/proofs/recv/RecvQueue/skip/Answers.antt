use Rattle.std.proofs.Common.{◌≤◌, subst, sym, ap, ◌∙◌, arith}
use Rattle.byte_queues.specs.ReceiveQueue.{Recv, ready_of, next_of, without}
use Rattle.byte_queues.proofs.PlaceLemmas.{skip-sound, skip-view}
use Rattle.byte_queues.proofs.QueueLemmas.{ahead-small, ready-within}
use Rattle.byte_queues.proofs.recv.RecvQueue.skip.Goals as goal

pub drop_front-requires-clause-within : goal.drop_front-requires-clause-within
drop_front-requires-clause-within c = ready-within c.self.inside c.args.n c.self.invariant (subst (λ (q : Recv). c.args.n ≤ ready_of q) (sym c.self.view_is) c.requires)

pub drop_front-requires-clause-small : goal.drop_front-requires-clause-small
drop_front-requires-clause-small c =
    let w = ready-within c.self.inside c.args.n c.self.invariant (subst (λ (q : Recv). c.args.n ≤ ready_of q) (sym c.self.view_is) c.requires) in
    omega (arith, w, ahead-small c.self.inside c.self.invariant)

pub overflow_add-self : goal.overflow_add-self
overflow_add-self c =
    let w = ready-within c.self.inside c.args.n c.self.invariant (subst (λ (q : Recv). c.args.n ≤ ready_of q) (sym c.self.view_is) c.requires) in
    omega (arith, w, ahead-small c.self.inside c.self.invariant)

pub overflow_add-self-inside : goal.overflow_add-self-inside
overflow_add-self-inside c =
    let w = ready-within c.self.inside c.args.n c.self.invariant (subst (λ (q : Recv). c.args.n ≤ ready_of q) (sym c.self.view_is) c.requires) in
    omega (arith, w, ahead-small c.self.inside c.self.invariant)

pub invariant_of-self : goal.invariant_of-self
unfolding next_of
invariant_of-self c =
    let a = c.self.inside in
    let w = subst (λ (q : Recv). c.args.n ≤ ready_of q) (sym c.self.view_is) c.requires in
    let s = skip-sound a c.args.n c.from.result c.max-self-inside.result c.drop_front.new.runs.items c.self.invariant (omega arith) w (omega arith) (omega arith) c.drop_front.ensures in
    record { spaced = s.spaced; few = s.few; edge = s.edge; read = s.read }

pub returns : goal.returns
returns c =
    let a = c.self.inside in
    let w = subst (λ (q : Recv). c.args.n ≤ ready_of q) (sym c.self.view_is) c.requires in
    skip-view a c.args.n c.from.result c.max-self-inside.result c.drop_front.new.runs.items c.self.invariant w (omega arith) (omega arith) c.drop_front.ensures
    ∙ ap (without c.args.n) c.self.view_is
