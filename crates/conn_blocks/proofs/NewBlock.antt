-- A new block stands for no acts.
use Rattle.std.proofs.Common.{◌≡◌, ℕ, ◌+◌, ◌*◌, ◌<◌, ◌++◌, false, [], length, sym, ap, ◌∙◌, inl, arith}
use Rattle.std.specs.List.{range_with_len}
use Rattle.std.proofs.lemmas.List.{length-replicate, get_or-replicate}
use Rattle.byte_queues.specs.ReceiveQueue.{next_of}
use Rattle.tcb_machine.specs.BlockState.{Block as Tcp, new_block, offered}
use Rattle.conn_classifier.specs.Plan.{PlanOf}
use Rattle.conn_blocks.specs.declared.stages.Stage.TheVariants as stage
use Rattle.conn_blocks.specs.CallLists.{CallLists}
use Rattle.conn_blocks.specs.ServeOrder.{BlockOf, serve}
use Rattle.perimeter_core.specs.Deeds.{feed_numbers}
use Rattle.conn_blocks.specs.Orders.{numbers_on, call_numbers, has_call, settle}
use Rattle.conn_blocks.specs.Holding.{stage_at, stage_of, IsSettled, IsSound, StandsFor, IsNew}

module _ (p : PlanOf) (calls : CallLists) (c : ℕ) (b : BlockOf) (new : IsNew p calls c b) where
  new_sound : IsSound p calls c b
  unfolding serve new_block offered next_of
  new_sound =
      let received : next_of b.tcb.recv ≡ 0 = ap (λ (t : Tcp). next_of t.recv) new.tcb in
      let gone : offered b.tcb ≡ 0 = ap offered new.tcb in
      record {
        served = (λ i. record { block = new.tcb i; answers = new.answers i }) ∙ ap (serve p calls c) (sym new.order);
        clock = inl (ap (λ (t : Tcp). t.clock) new.tcb);
        received_most = omega (arith, received);
        offered_most = omega (arith, gone);
      }

  new_settled : IsSettled p calls c b
  new_settled =
      let none : length (feed_numbers b.order) ≡ 0 = ap (λ l. length (feed_numbers l)) new.order in
      record {
        of = new.of;
        threads = new.threads;
        service = new.service;
        feeds = ap feed_numbers new.order ∙ ap (range_with_len 0) (sym none);
        few_feeds = omega (arith, none);
        asked = λ j. record { rest = numbers_on calls c j; joined = ap (λ l. call_numbers j l ++ numbers_on calls c j) (sym new.order) };
        few_items = new.few_items;
        few_calls = new.few_calls;
        room = new.room;
        answers_room = new.answers_room;
        table = λ j k lj lk.
            (let most = new.stages.2 j lj in
            let wide : length b.stages ≡ 4 * new.stages.0 = ap length new.stages.1 ∙ length-replicate (4 * new.stages.0) stage.Unasked in
            omega (arith, lj, lk, most, wide));
        sound = λ e. new_sound;
      }

  pub new_stands : StandsFor p calls c [] b
  unfolding settle
  new_stands = record {
    acts = tt;
    settled = new_settled;
    order = new.order;
    stages = λ j k lj lk.
        (let most = new.stages.2 j lj in
        let inside : 4 * k + j < 4 * new.stages.0 = omega (arith, lj, lk, most) in
        ap (λ l. stage_at l j k) new.stages.1 ∙ get_or-replicate (4 * new.stages.0) (4 * k + j) stage.Unasked stage.Unasked inside
        ∙ ap (λ l. stage_of (has_call j k l) false) (sym new.order));
  }
