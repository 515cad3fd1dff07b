use Rattle.std.proofs.Common.{◌+◌, ◌∙◌, ℕ, length, ap, arith, length-append}
use Rattle.std.specs.Prelude.{reverse}
use Rattle.std.proofs.lemmas.List.{reverse-reverse}
use Rattle.squeue_arrivals.proofs.Seated.{new_more, none_new, popped_next}
use Rattle.squeue_arrivals.proofs.seating.new_places.Goals as goal

pub loop-stream-init : goal.loop-stream-init
loop-stream-init g c =
    record {
      push_left = ap reverse c.reverse.ensures.items ∙ reverse-reverse c.args.producers.items;
      pop_left = ap reverse c.reverse-2.ensures.items ∙ reverse-reverse c.args.parts.items;
      made = ap length c.in_ok-places.ensures.items;
      each = none_new c.args.parts.items c.in_ok-places.places.items c.in_ok-places.ensures.items;
      room = omega (arith, c.in_ok-places.ensures.exact);
    }

pub loop-stream-preserved : goal.loop-stream-preserved
loop-stream-preserved g c =
    let i = c.loop-stream.invariant in
    let p = popped_next c.args.producers.items c.loop-stream.stream c.loop-stream.producers.items c.pop.new.self.items c.in-Some.producer i.push_left c.in-Some.ensures.items in
    let s = popped_next c.args.parts.items c.loop-stream.stream c.loop-stream.parts.items c.pop-in-loop-stream.new.self.items c.in-Some-pop.part i.pop_left c.in-Some-pop.ensures.items in
    record {
      push_left = p.1;
      pop_left = s.1;
      made = ap length c.push_reserved.ensures.items ∙ (length-append c.loop-stream.places.items _ ∙ ap (λ (n : ℕ). n + 1) i.made);
      each = rw c.push_reserved.ensures.items (new_more c.args.parts.items c.loop-stream.stream c.loop-stream.places.items _ _ i.made i.each s.0 (c.requires.each c.loop-stream.stream c.in-Some.producer c.in-Some-pop.part p.0 s.0));
      room = omega (arith, i.room, c.push_reserved.ensures.capacity);
    }
