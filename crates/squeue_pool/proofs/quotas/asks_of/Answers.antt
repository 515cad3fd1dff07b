use Rattle.std.proofs.Common.{ap, ◌∙◌, arith}
use Rattle.std.proofs.lemmas.List.{take_all}
use Rattle.squeue_pool.specs.Quotas.{asks_of}
use Rattle.squeue_pool.proofs.quotas.asks_of.Goals as goal

pub returns : goal.returns
returns c = c.loop-c.invariant.0 ∙ ap (asks_of c.args.counts.now) (take_all c.loop-c.c-index c.args.called.now (omega (arith, c.loop-c-test.false)))
