use Rattle.std.proofs.Common.{refl}
use Rattle.squeue_answers.proofs.Ways.{handed_both, nothing_handed, same_inputs}
use Rattle.squeue_answers.proofs.rings.AnswerRings.hand_on_all.Goals as goal

pub loop-n-init : goal.loop-n-init
loop-n-init g c = nothing_handed _ c.args.self.now _ refl (same_inputs c.args.self.now _ (λ k. refl)) refl

pub loop-n-preserved : goal.loop-n-preserved
loop-n-preserved g c = handed_both _ _ _ c.args.self.now _ _ c.loop-n.invariant c.hand_on.ensures

pub returns-then-not-hand_on : goal.returns-then-not-hand_on
returns-then-not-hand_on g c = handed_both _ _ _ c.args.self.now _ _ c.loop-n.invariant c.hand_on.ensures
