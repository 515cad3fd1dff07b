use Rattle.std.proofs.Common.{◌≡◌, ◌∙◌, ap, sym, refl, vec_capacity, arith, length}
use Rattle.std.proofs.lemmas.List.{with_items_is}
use Rattle.perimeter_core.specs.declared.marks.Own.{Own}
use Rattle.perimeter_core.specs.Perimeter.{polls, here_after}
use Rattle.squeue_state.specs.Lone.{buffer_of, is_lone}
use Rattle.squeue_state.proofs.Steps.{leave_behind, same_flags, empty_more, out_buffers}
use Rattle.squeue_state.proofs.inner.Inner.leave.Goals as goal

pub returns : goal.returns
returns g c =
    record {
      behind = λ G H note p b lies is_peri m.
          let now = c.args.self.now in
          let back = c.give_back.ensures in
          let all = c.poll.ensures in
          let its : c.args.hand.room ≡ buffer_of G.room (is_lone now.own H) = lies.has_room ∙ ap (λ (o : Own). buffer_of G.room (is_lone o H)) (sym b.own) in
          let two = back.buffers G.room (out_buffers G.room (is_lone now.own H) now.in_hand now.own now.spare (vec_capacity now.chain) c.args.hand.room b.spare b.room its) in
          let same_here : c.give_back.new.self.here.items ≡ c.args.self.now.here.items = ap (λ w. w.here.items) back.same in
          let here : c.set_here.new.here ≡ here_after c.args.act c.args.self.now.here.items = c.set_here.ensures ∙ ap (λ xs. here_after c.args.act xs) (c.deref_mut.ensures.value ∙ same_here) in
          let flags : length c.set_here.new.here ≡ c.give_back.new.self.here.len = omega (arith, ap length here, same_flags c.args.act c.args.self.now.here.items, ap length same_here, c.give_back.new.self.here.ok.0) in
          let queued = c.deref.ensures.value ∙ back.queue in
          leave_behind g.R.Resident G c.args.self.now c.poll.new.self H p (length c.args.hand.left) c.args.act note c.args.hand.left c.args.resident b lies.is_left is_peri m
          (ap (λ w. w.own) all)
          (ap (λ w. w.chain.items) all ∙ back.queue)
          (ap (λ w. w.wake) all ∙ (rw queued at c.holds_some-self.ensures))
          (ap (λ w. w.polling) all ∙ (ap (λ w. polls c.give_back.new.self.chain.items w.polling) back.same ∙ ap (λ xs. polls xs c.args.self.now.polling) back.queue))
          (ap (λ w. w.here.items) all ∙ (with_items_is c.give_back.new.self.here c.set_here.new.here flags ∙ here)) (ap (λ w. w.closed.items) all ∙ ap (λ w. w.closed.items) back.same) (ap (λ w. w.resident) all ∙ ap (λ w. w.resident) back.same)
          (empty_more G.room G.room c.give_back.new.self.spare c.poll.new.self.spare (ap (λ w. w.spare) all) refl two.1)
          (omega (arith, ap (λ w. vec_capacity w.chain) all, two.0))
          (ap (λ w. w.in_hand) all ∙ ap (λ w. w.in_hand) back.same);
    }
