use Rattle.std.proofs.Common.{rules}
use Rattle.std.specs.Fork.{ChangesAt}
use Rattle.squeue_serve.proofs.JobByJob.{alone, both, done_after, done_there}
use Rattle.squeue_serve.proofs.beside.+others.Goals as goal

pub run_all-returns-then-is_empty : goal.run_all-returns-then-is_empty
run_all-returns-then-is_empty g t c =
    alone (ChangesAt g.F.Fn c.args.f.now) c.args.jobs.now c.in-Some.others.now c.in-Some.last.now c.do_first.new.job c.in-Some.ensures.cases (search rules) c.do_first.ensures

pub run_all-returns-else-is_empty : goal.run_all-returns-else-is_empty
run_all-returns-else-is_empty g t c =
    both (ChangesAt g.F.Fn c.args.f.now) c.args.jobs.now c.in-Some.others.now c.in-Some.last.now c.run_both.new.last c.run_both.new.others c.in-Some.ensures.cases
    c.run_both.ensures.last c.run_both.ensures.others

pub run_both-returns-then-not-done-clause-last : goal.run_both-returns-then-not-done-clause-last
run_both-returns-then-not-done-clause-last g t c =
    done_after (ChangesAt g.F.Fn c.args.f.now c.args.at) c.join_mut-done.result.0 c.args.last.now _ c.do_one.new.job c.do_one.ensures (search rules) (search rules)

pub run_both-returns-else-not-done-clause-last : goal.run_both-returns-else-not-done-clause-last
run_both-returns-else-not-done-clause-last g t c =
    done_there (ChangesAt g.F.Fn c.args.f.now c.args.at) c.join_mut-done.result.0 c.args.last.now _ (search rules) (search rules)
