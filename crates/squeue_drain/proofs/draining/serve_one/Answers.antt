use Rattle.std.proofs.Common.{List, drop, ap, ◌∙◌}
use Rattle.perimeter_core.specs.declared.entries.Entry.{Entry}
use Rattle.squeue_drain.proofs.Drains.{served_one, still_has, none_of_some}
use Rattle.squeue_drain.proofs.draining.serve_one.Goals as goal

pub decide-requires-clause-has : goal.decide-requires-clause-has
decide-requires-clause-has g c = still_has g.R.Resident c.args.sq.now c.args.owner c.process_first.new.owner c.process_first.ensures.pass c.requires.has

pub decide-requires-clause-some : goal.decide-requires-clause-some
decide-requires-clause-some g c =
    λ e. none_of_some g.R.Resident c.args.sq.now c.process_first.new.owner (c.process_first.ensures.left ∙ ap (λ (xs : List Entry). drop 1 xs) c.requires.one)
    (still_has g.R.Resident c.args.sq.now c.args.owner c.process_first.new.owner c.process_first.ensures.pass c.requires.has)

pub returns-clause-served : goal.returns-clause-served
returns-clause-served g c =
    served_one g.R.Resident c.args.sq.now c.args.owner c.process_first.new.owner c.in-Ended.pass c.process_first.ensures.pass
    (c.process_first.ensures.left ∙ ap (λ (xs : List Entry). drop 1 xs) c.requires.one) c.in-Ended.ensures.0
