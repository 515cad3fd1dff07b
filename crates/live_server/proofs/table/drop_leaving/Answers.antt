use Rattle.std.proofs.Common.{rules}
use Rattle.indexmap.proofs.CallerLemmas.{filter-RetainsPairs}
use Rattle.live_server.proofs.table.drop_leaving.Goals as goal

pub returns-clause-table : goal.returns-clause-table
unfolding Rattle.live_server.specs.Leaving.without_leaving
returns-clause-table c = filter-RetainsPairs _ _ _ (λ k v b w g call. search rules) _ _ c.retain.ensures.filtered
