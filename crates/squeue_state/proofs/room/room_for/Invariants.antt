use Rattle.std.proofs.Common.{◌≡◌, take}
use Rattle.perimeter_core.specs.History.{feed_quotas}
use Rattle.histories.specs.Quotas.{pairs, ask_quotas}
use Rattle.squeue_state.proofs.room.room_for.Given as goal

abbrev pub invariant-loop-quota : goal.invariant-loop-quota
invariant-loop-quota l =
    record {
      feeds : l.feeds ≡ feed_quotas (pairs (take l.quota-index l.quotas));
      asks : l.asks ≡ ask_quotas (pairs (take l.quota-index l.quotas));
    }
