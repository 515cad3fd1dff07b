use Rattle.std.proofs.Common.{◌∙◌, ◌++◌, ap, false, [], ◌∷◌, rules}
use Rattle.squeue_state.proofs.Bounds.{one_flag}
use Rattle.squeue_state.proofs.room.flags.Goals as goal

pub loop-k-preserved : goal.loop-k-preserved
loop-k-preserved c =
    record {
      items = c.push_reserved.ensures.items ∙ (ap (λ xs. xs ++ false ∷ []) c.loop-k.invariant.items ∙ one_flag c.loop-k._k);
      room = search rules;
    }
