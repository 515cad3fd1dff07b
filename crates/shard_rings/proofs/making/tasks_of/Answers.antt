use Rattle.std.proofs.Common.{◌≡◌, ℕ, ◌+◌, length, sym, subst, arith}
use Rattle.shard_rings.specs.Making.{AreTasks, IsLaid}
use Rattle.shard_rings.proofs.Laying.{one_work}
use Rattle.shard_rings.proofs.making.tasks_of.Goals as goal

pub loop-q-preserved : goal.loop-q-preserved
loop-q-preserved g c =
    let rings = c.args.rings.items in
    let ends = c.in_ok-ends.ends.items in
    subst (AreTasks (length rings) (c.loop-q.q + 1) (IsLaid rings ends)) (sym c.in_ok-push.ensures.items) (one_work (length rings) c.loop-q.q (IsLaid rings ends) c.loop-q.tasks.items c.loop-q.invariant)

pub returns-clause-tasks : goal.returns-clause-tasks
returns-clause-tasks g c =
    let rings = c.args.rings.items in
    let all : c.loop-q.q ≡ c.args.squeues = omega (arith, c.loop-q-test.false, c.loop-q.auto.q-end) in
    subst (λ (k : ℕ). AreTasks (length rings) k (IsLaid rings c.in_ok-ends.ends.items) c.loop-q.tasks.items) all c.loop-q.invariant
