use Rattle.std.proofs.Common.{ap, map, ◌∙◌, arith}
use Rattle.std.proofs.lemmas.List.{take_all}
use Rattle.histories.specs.Runs.{count, is_at}
use Rattle.squeue_pool.proofs.KeyLists.{quotas_map}
use Rattle.squeue_pool.proofs.keys.quotas_at.Goals as goal

pub returns : goal.returns
returns c =
    c.loop-list.invariant
    ∙ (ap (map (λ list. (count (is_at c.args.squeues 0 c.args.q) list.items, 0))) (take_all c.loop-list.list-index c.args.lists.now (omega (arith, c.loop-list-test.false))) ∙ quotas_map c.args.squeues c.args.q c.args.lists.now)
