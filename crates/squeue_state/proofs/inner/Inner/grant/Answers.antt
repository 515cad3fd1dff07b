use Rattle.std.proofs.Common.{◌≡◌, ◌∙◌, ap, sym, refl, vec_capacity, arith, length}
use Rattle.perimeter_core.specs.declared.marks.Own.{Own}
use Rattle.perimeter_core.specs.Perimeter.{polls}
use Rattle.squeue_state.specs.Lone.{buffer_of, is_lone}
use Rattle.squeue_state.proofs.Steps.{grant_behind, out_buffers, empty_more}
use Rattle.squeue_state.proofs.inner.Inner.grant.Goals as goal

pub returns : goal.returns
returns g c =
    record {
      behind = λ G H p b lies is_peri m.
          let now = c.args.self.now in
          let back = c.give_back.ensures in
          let all = c.poll.ensures in
          let its : c.args.hand.room ≡ buffer_of G.room (is_lone now.own H) = lies.has_room ∙ ap (λ (o : Own). buffer_of G.room (is_lone o H)) (sym b.own) in
          let two = back.buffers G.room (out_buffers G.room (is_lone now.own H) now.in_hand now.own now.spare (vec_capacity now.chain) c.args.hand.room b.spare b.room its) in
          grant_behind g.R.Resident G c.args.self.now c.poll.new.self H p c.args.j (length c.args.hand.left) c.args.hand.left c.args.resident b lies.is_left is_peri m
          (ap (λ w. w.own) all)
          (ap (λ w. w.chain.items) all ∙ back.queue)
          (ap (λ w. w.wake) all ∙ ap (λ w. w.wake) back.same)
          (ap (λ w. w.polling) all ∙ (ap (λ w. polls c.give_back.new.self.chain.items w.polling) back.same ∙ ap (λ xs. polls xs c.args.self.now.polling) back.queue))
          (ap (λ w. w.here.items) all ∙ ap (λ w. w.here.items) back.same) (ap (λ w. w.closed.items) all ∙ ap (λ w. w.closed.items) back.same) (ap (λ w. w.resident) all ∙ ap (λ w. w.resident) back.same)
          (empty_more G.room G.room c.give_back.new.self.spare c.poll.new.self.spare (ap (λ w. w.spare) all) refl two.1)
          (omega (arith, ap (λ w. vec_capacity w.chain) all, two.0))
          (ap (λ w. w.in_hand) all ∙ ap (λ w. w.in_hand) back.same);
    }
