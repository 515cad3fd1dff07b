use Rattle.std.proofs.Common.{◌≤◌, ◌∷◌, [], sym, subst, arith, rules}
use Rattle.std.specs.Prelude.{All}
use Rattle.std.proofs.lemmas.List.Elements.{All-append, All-cons, All-nil}
use Rattle.rtrb.specs.Ring.{known_free}
use Rattle.squeue_streams.specs.declared.streams.Stream.{Stream}
use Rattle.squeue_streams.specs.Taking.{state_of}
use Rattle.squeue_arrivals.proofs.Seated.{new_pair, no_pairs, pairs_more}
use Rattle.squeue_arrivals.proofs.seating.new_pairs.Goals as goal

pub loop-c-init : goal.loop-c-init
loop-c-init g c =
    record {
      pairs = no_pairs c.in_ok-producers.producers.items c.in_ok-parts.parts.items c.in_ok-producers.ensures.items c.in_ok-parts.ensures.items;
      begun = subst (All (λ s. g.X.KeySteps.begins c.args.steps.now (state_of s))) (sym c.in_ok-parts.ensures.items) (All-nil (λ s. g.X.KeySteps.begins c.args.steps.now (state_of s)));
      push_room = search rules;
      pop_room = search rules;
    }

pub loop-c-preserved : goal.loop-c-preserved
loop-c-preserved g c =
    let i = c.loop-c.invariant in
    let room : 1 ≤ known_free c.in_ok-producer.producer = omega (arith, c.in_ok-producer.ensures.producer.1) in
    record {
      pairs = rw (c.push_reserved.ensures.items, c.push_reserved-in-loop-c.ensures.items)
          (pairs_more c.loop-c._c c.loop-c.producers.items c.loop-c.parts.items _ _ i.pairs
          (new_pair _ _ _ c.in_ok-producer.ensures.pair c.in_ok-producer.ensures.producer.0 room c.in_ok-producer.ensures.consumer.0 c.of.ensures.input c.of.ensures.count));
      begun =
          (let Begun : Stream g.row.X-Item.Denot g.row.X-State.Denot → Type 0 = λ s. g.X.KeySteps.begins c.args.steps.now (state_of s) in
          subst (All Begun) (sym c.push_reserved-in-loop-c.ensures.items)
          (All-append Begun c.loop-c.parts.items (c.of.result ∷ []) i.begun
          (All-cons Begun c.of.result [] (subst (g.X.KeySteps.begins c.args.steps.now) (sym c.of.ensures.state) c.in_ok-state.ensures) (All-nil Begun))));
      push_room = omega (arith, i.push_room, c.push_reserved.ensures.capacity);
      pop_room = omega (arith, i.pop_room, c.push_reserved-in-loop-c.ensures.capacity);
    }
