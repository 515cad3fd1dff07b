use Rattle.std.proofs.Common.{rules}
use Rattle.indexmap.proofs.CallerLemmas.{filter-RetainsPairs}
use Rattle.live_server.proofs.table.drop_over.Goals as goal

pub returns : goal.returns
unfolding Rattle.live_server.specs.Table.without_over
returns c = filter-RetainsPairs _ _ _ (λ k v b w g call. search rules) _ _ c.retain.ensures.filtered
