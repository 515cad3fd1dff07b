use Rattle.std.proofs.Common.{◌≡◌, ◌∙◌, [], ap, sym, vec_capacity, arith, length}
use Rattle.perimeter_core.specs.declared.marks.Own.{Own}
use Rattle.perimeter_core.specs.Perimeter.{polls}
use Rattle.squeue_state.specs.Lone.{buffer_of, is_lone}
use Rattle.squeue_state.proofs.Steps.{take_behind, out_buffers}
use Rattle.squeue_state.proofs.inner.Inner.take.Goals as goal

pub returns-clause-same : goal.returns-clause-same
returns-clause-same g c = c.replace-hand.ensures.value ∙ ap (λ w. w.chain) c.buffer_for-buffer.ensures.same

pub returns-clause-behind : goal.returns-clause-behind
returns-clause-behind g c = λ G H p b its m.
    let now = c.args.self.now in
    let same_room : c.args.hand.room ≡ buffer_of G.room (is_lone now.own H) = its ∙ ap (λ (o : Own). buffer_of G.room (is_lone o H)) (sym b.own) in
    let two = out_buffers G.room (is_lone now.own H) now.in_hand now.own now.spare (vec_capacity now.chain) c.args.hand.room b.spare b.room same_room in
    let fits = c.buffer_for-buffer.ensures.room G.room two in
    let before = c.buffer_for-buffer.ensures.same in
    let all = c.poll.ensures in
    let after = ap (λ w. w.chain) all ∙ c.replace-hand.ensures.after in
    let empty : c.poll.new.self.chain.items ≡ [] = ap (λ v. v.items) after ∙ c.clear.ensures.items in
    take_behind g.R.Resident G c.args.self.now c.poll.new.self H p b m
    (ap (λ w. w.own) all ∙ ap (λ w. w.own) before)
    empty
    (ap (λ w. w.wake) all ∙ ap (λ w. w.wake) before)
    (ap (λ w. w.polling) all ∙ (ap (λ xs. polls xs c.buffer_for-buffer.new.self.polling) (ap (λ v. v.items) c.replace-hand.ensures.after ∙ c.clear.ensures.items) ∙ ap (λ w. polls [] w.polling) before))
    (ap (λ w. w.here.items) all ∙ ap (λ w. w.here.items) before) (ap (λ w. w.closed.items) all ∙ ap (λ w. w.closed.items) before) (ap (λ w. w.resident) all ∙ ap (λ w. w.resident) before)
    (ap (λ w. w.spare) all ∙ ap (λ w. w.spare) before)
    (omega (arith, ap (λ v. vec_capacity v) after, c.clear.ensures.capacity, fits))
    (omega (arith, ap (λ w. w.in_hand) all, c.len-self.ensures, ap (λ v. length v.items) c.replace-hand.ensures.value, ap (λ w. length w.chain.items) before, c.replace-hand.result.ok.0))
