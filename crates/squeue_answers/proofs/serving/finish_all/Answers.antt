use Rattle.std.proofs.Common.{◌≡◌, ◌∙◌, ◌++◌, ◌∷◌, ◌≤◌, [], Some, sym, ap, arith, length, length-append, vec_capacity}
use Rattle.std.specs.Prelude.{reverse}
use Rattle.std.proofs.lemmas.List.{reverse-reverse, length-reverse}
use Rattle.std.proofs.lemmas.List.Elements.{All-pop}
use Rattle.ring_groups.proofs.Grouped.{taken_more}
use Rattle.squeue_answers.specs.Serving.{IsFinished, IsLeft}
use Rattle.squeue_answers.proofs.Became.{all_middle, became_more, became_none}
use Rattle.squeue_answers.proofs.serving.finish_all.Goals as goal

pub served-init : goal.served-init
served-init g c =
    record {
      gone = [];
      all = sym (ap reverse c.reverse.ensures.items ∙ reverse-reverse c.args.served.items);
      finished =
          became_none
          (IsFinished (λ w. w.steps) g.X.KeyAnswers.begins g.X.KeyAnswers.step g.A.Arrivals.origin g.A.Arrivals.given g.A.Arrivals.is_over g.K.Sink.got c.args.answering.now c.args.pool.now.places)
          c.args.room.items c.requires.room.0;
      rooms = c.requires.rooms.0 ∙ sym (ap length c.reverse.ensures.items ∙ length-reverse c.args.served.items);
      empty = c.requires.rooms.1;
      room = omega (arith, ap length c.requires.room.0, ap length c.reverse.ensures.items, length-reverse c.args.served.items, c.requires.room.1);
    }

pub finish-requires-clause-left : goal.finish-requires-clause-left
finish-requires-clause-left g c =
    let i = c.served.invariant in
    let all = taken_more c.args.served.items i.gone c.served.served.items c.pop.new.self.items c.in-Some.left i.all c.in-Some.ensures.items in
    all_middle
    (IsLeft (λ w. w.steps) g.X.KeyAnswers.begins g.X.KeyAnswers.step g.A.Arrivals.origin g.A.Arrivals.given g.A.Arrivals.is_over g.K.Sink.got c.args.answering.now c.args.pool.now.places) c.args.served.items
    i.gone (reverse c.pop.new.self.items) c.in-Some.left c.requires.served all

pub finish-requires-clause-room : goal.finish-requires-clause-room
finish-requires-clause-room g c =
    (All-pop (λ r. (r.items ≡ []) × (c.args.pool.now.places ≤ vec_capacity r)) c.served.rooms.items c.pop-in-Some.new.self.items (Some c.in-Some-pop.room) c.in-Some-pop.ensures.items c.served.invariant.empty).1

pub served-preserved : goal.served-preserved
served-preserved g c =
    let i = c.served.invariant in
    record {
      gone = i.gone ++ c.in-Some.left ∷ [];
      all = taken_more c.args.served.items i.gone c.served.served.items c.pop.new.self.items c.in-Some.left i.all c.in-Some.ensures.items;
      finished =
          became_more
          (IsFinished (λ w. w.steps) g.X.KeyAnswers.begins g.X.KeyAnswers.step g.A.Arrivals.origin g.A.Arrivals.given g.A.Arrivals.is_over g.K.Sink.got c.args.answering.now c.args.pool.now.places) i.gone
          c.served.answered.items c.push_reserved.new.self.items c.in-Some.left c.finish.result i.finished c.push_reserved.ensures.items c.finish.ensures;
      rooms = omega (arith, i.rooms, ap length c.in-Some.ensures.items, length-append c.pop.new.self.items (c.in-Some.left ∷ []), ap length c.in-Some-pop.ensures.items, length-append c.pop-in-Some.new.self.items (c.in-Some-pop.room ∷ []));
      empty =
          (All-pop (λ r. (r.items ≡ []) × (c.args.pool.now.places ≤ vec_capacity r)) c.served.rooms.items c.pop-in-Some.new.self.items (Some c.in-Some-pop.room) c.in-Some-pop.ensures.items c.served.invariant.empty).0;
      room = omega (arith, i.room, ap length c.in-Some.ensures.items, length-append c.pop.new.self.items (c.in-Some.left ∷ []), ap length c.push_reserved.ensures.items, length-append c.served.answered.items (c.finish.result ∷ []), c.push_reserved.ensures.capacity);
    }
