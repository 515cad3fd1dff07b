use Rattle.std.proofs.Common.{◌≡◌, ℕ, Option, ◌+◌, length, Some, subst, sym, ap, ◌∙◌, arith}
use Rattle.byte_queues.specs.ReceiveQueue.{Recv, up_to, next_of}
use Rattle.byte_queues.specs.Runs.{front_of}
use Rattle.byte_queues.proofs.QueueLemmas.{ahead, ahead-small, next-is}
use Rattle.byte_queues.proofs.recv.RecvQueue.next.Goals as goal

pub overflow_add-held : goal.overflow_add-held
overflow_add-held c =
    let f : length c.front.result.now ≡ ahead c.self.inside = ap length (c.front.ensures ∙ ap (front_of c.self.inside.taken) c.as_slice.ensures.value) in
    omega (arith, f, ahead-small c.self.inside c.self.invariant)

pub returns-in-None-clause-next : goal.returns-in-None-clause-next
returns-in-None-clause-next c =
    let a = c.self.inside in
    let f : length c.front.result.now ≡ ahead a = ap length (c.front.ensures ∙ ap (front_of a.taken) c.as_slice.ensures.value) in
    subst (λ (q : Recv). a.taken + length c.front.result.now ≡ next_of q) c.self.view_is
    (ap (λ (k : ℕ). a.taken + k) f ∙ (ap (λ (o : Option ℕ). up_to o (a.taken + ahead a)) (sym c.in-None.is) ∙ sym (next-is a c.self.invariant)))

pub returns-in-None-clause-small : goal.returns-in-None-clause-small
returns-in-None-clause-small c =
    let f : length c.front.result.now ≡ ahead c.self.inside = ap length (c.front.ensures ∙ ap (front_of c.self.inside.taken) c.as_slice.ensures.value) in
    omega (arith, f, ahead-small c.self.inside c.self.invariant)

pub returns-in-Some-clause-next : goal.returns-in-Some-clause-next
returns-in-Some-clause-next c =
    let a = c.self.inside in
    let f : length c.front.result.now ≡ ahead a = ap length (c.front.ensures ∙ ap (front_of a.taken) c.as_slice.ensures.value) in
    subst (λ (q : Recv). c.min.result ≡ next_of q) c.self.view_is
    (c.min.ensures ∙ (ap (λ (k : ℕ). up_to (Some c.in-Some.end) (a.taken + k)) f ∙ (ap (λ (o : Option ℕ). up_to o (a.taken + ahead a)) (sym c.in-Some.is) ∙ sym (next-is a c.self.invariant))))

pub returns-in-Some-clause-small : goal.returns-in-Some-clause-small
returns-in-Some-clause-small c =
    let f : length c.front.result.now ≡ ahead c.self.inside = ap length (c.front.ensures ∙ ap (front_of c.self.inside.taken) c.as_slice.ensures.value) in
    omega (arith, f, ahead-small c.self.inside c.self.invariant)
