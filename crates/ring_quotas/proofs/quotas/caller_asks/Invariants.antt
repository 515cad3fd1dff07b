use Rattle.std.proofs.Common.{◌≡◌, ◌+◌, ◌*◌, ◌≤◌, length, sum_by, take}
use Rattle.conn_classifier.specs.Plan.{items_in}
use Rattle.conn_blocks.specs.CallLists.{calls_of}
use Rattle.histories.specs.Homes.{times_leaving}
use Rattle.ring_quotas.proofs.quotas.caller_asks.Given as goal

abbrev pub invariant-loop-k : goal.invariant-loop-k
invariant-loop-k l =
    record {
      value : l.asks ≡ sum_by (λ call. 1 + times_leaving l.setup.squeues l.setup.spread l.q call.0 (length (items_in l.plan call.0))) (take l.k (calls_of l.calls l.thread));
      most : l.asks ≤ l.k * 2097154;
    }
