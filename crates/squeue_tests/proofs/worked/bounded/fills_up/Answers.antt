use Rattle.std.proofs.Common.{◌≡◌, ℕ, ◌+◌, ◌-◌, ◌∙◌, subst, arith}
use Rattle.perimeter_trial.specs.Logging.{limits_of}
use Rattle.squeue_enter.specs.Entering.{MayEnter}
use Rattle.squeue_tests.specs.Rows.{in_order}
use Rattle.squeue_tests.proofs.worked.bounded.fills_up.Goals as goal

pub loop-n-preserved : goal.loop-n-preserved
loop-n-preserved g c =
    let n = c.loop-n.n in
    let left : 19 - n ≡ 20 - (n + 1) = omega arith in
    record {
      number = c.queues-pass.ensures.number ∙ c.loop-n.invariant.number;
      may = subst (λ (k : ℕ). MayEnter limits_of c.args.squeue.now c.queues-pass.result (in_order 0 (n + 1) k)) left c.queues-pass.ensures.more;
    }
