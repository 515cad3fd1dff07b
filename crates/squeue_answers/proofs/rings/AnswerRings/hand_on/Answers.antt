use Rattle.std.proofs.Common.{refl, ◌∷◌, []}
use Rattle.squeue_answers.proofs.Ways.{front_is, handed_on, none_popped, nothing_handed, one_popped, same_inputs}
use Rattle.squeue_answers.proofs.rings.AnswerRings.hand_on.Goals as goal

pub returns-in_default : goal.returns-in_default
returns-in_default g c = nothing_handed _ c.args.self.now _ refl (same_inputs c.args.self.now _ (λ k. refl)) refl

pub returns-in_default-pop_at : goal.returns-in_default-pop_at
returns-in_default-pop_at g c = nothing_handed _ c.args.self.now _ refl (none_popped c.args.self.now _ c.in-Some.key.now c.pop_at.ensures.others c.in_default-pop_at.ensures.popped) refl

pub returns : goal.returns
returns g c =
    let key = c.in-Some.key.now in
    let x = c.in-Some-pop_at.answer in
    let came = one_popped c.args.self.now _ key c.pop_at.ensures.others x c.in-Some-pop_at.ensures.popped in
    let some = c.pop_front.ensures.variant.1 (c.in-Some.ensures.variant.0 refl) in
    let waits = front_is c.args.self.now.waiting.items c.pop_front.new.self.items c.pop_front.result key some c.in-Some.ensures.lookup c.pop_front.ensures.items in
    handed_on ((key, x) ∷ []) _ _ c.args.self.now _ refl came waits c.take.ensures
