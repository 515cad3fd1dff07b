use Rattle.std.proofs.Common.{◌+◌, Option, List, inr, sym, ◌∙◌, subst, arith}
use Rattle.turn_gate.specs.declared.pass.Pass.{Pass}
use Rattle.perimeter_core.specs.History.{Element}
use Rattle.squeue_serve.specs.Places.{AtEach, Holds, IsNew}
use Rattle.squeue_serve.specs.Lending.{lent_to}
use Rattle.squeue_serve.proofs.Unused.{all_may_close, one_closed}
use Rattle.squeue_serve.proofs.ending.close_unused.Goals as goal

pub close_at-requires-clause-may : goal.close_at-requires-clause-may
close_at-requires-clause-may g c =
    let p = c.loop-p.p in
    let same = c.loop-p.invariant.closed.rest (c.args.front + p) (inr (omega arith)) in
    all_may_close g.R.Resident.limits c.args.count p c.args.squeues.now (lent_to c.loop-p.jobs.items (c.args.front + p)) c.loop-p-test.true c.requires.1.counts
    (subst (λ (os : List (Option (Pass Element))). AtEach (λ s o. Holds (IsNew p s) o) c.args.squeues.now os) (sym same) (c.requires.1.others p c.loop-p-test.true))

pub loop-p-preserved : goal.loop-p-preserved
loop-p-preserved g c =
    record {
      closed = one_closed g.R.Resident.limits c.args.front c.args.count c.args.squeues.now (lent_to c.args.jobs.now.items) (lent_to c.loop-p.jobs.items) c.loop-p.p (lent_to c.close_at.new.jobs.items) c.loop-p-test.true c.requires.1.counts
          (c.requires.1.others c.loop-p.p c.loop-p-test.true) c.loop-p.invariant.closed c.close_at.ensures.closed c.close_at.ensures.others;
      tasks = c.close_at.ensures.tasks ∙ c.loop-p.invariant.tasks;
    }
