use Rattle.std.proofs.Common.{◌∷◌, ◌++◌, ◌^◌, [], ap, ◌∙◌}
use Rattle.std.proofs.lemmas.List.{map-append, replicate_more}
use Rattle.squeue_state.specs.Behind.{ever}
use Rattle.squeue_state.specs.declared.guarded.Life.{Life}
use Rattle.shard_rings.specs.Making.{life}
use Rattle.shard_rings.proofs.making.lives_of.Goals as goal

pub loop-p-preserved : goal.loop-p-preserved
loop-p-preserved c =
    ap ever c.in_ok-push.ensures.items ∙ (map-append (λ (l : Life). (l.feeds, l.asks)) c.loop-p.lives.items (record { feeds = 2 ^ 50; asks = 2 ^ 52 } ∷ []) ∙ (ap (λ l. l ++ life ∷ []) c.loop-p.invariant ∙ replicate_more c.loop-p._p life))
