use Rattle.std.proofs.Common.{refl}
use Rattle.squeue_answers.proofs.Ways.{handed_both, nothing_handed, same_inputs}
use Rattle.squeue_answers.proofs.rings.AnswerRings.hand_on_rest.Goals as goal

pub rest-init : goal.rest-init
rest-init g c = (tt, tt, nothing_handed _ c.args.self.now _ refl (same_inputs c.args.self.now _ (λ k. refl)) refl)

pub rest-preserved : goal.rest-preserved
rest-preserved g c = (tt, tt, handed_both _ _ _ c.args.self.now _ _ c.rest.invariant.2 c.hand_on_all.ensures)
