-- A block one act further.
use Rattle.std.proofs.Common.{◌≡◌, ℕ, ◌+◌, ◌*◌, ◌==◌, ◌<◌, ◌≤◌, ◌^◌, Bool, true, false, List, [], ◌∷◌, ◌++◌, length, map, refl, sym, ap, subst, ◌∙◌, inr, arith}
use Rattle.std.specs.List.{range_with_len}
use Rattle.std.proofs.lemmas.Bool.{eqb-true}
use Rattle.std.proofs.lemmas.List.{append-nil, length_push}
use Rattle.std.proofs.lemmas.List.FromFn.{map-range_with_len_more}
use Rattle.byte_queues.specs.ReceiveQueue.{next_of}
use Rattle.tcb_machine.specs.BlockState.{offered}
use Rattle.perimeter_core.specs.declared.entries.Act.{Act}
use Rattle.perimeter_core.specs.declared.entries.Act.TheVariants as act
use Rattle.conn_classifier.specs.Plan.{PlanOf, items_in}
use Rattle.conn_blocks.specs.declared.stages.Stage.{Stage}
use Rattle.conn_blocks.specs.CallLists.{CallLists, calls_of}
use Rattle.conn_blocks.specs.ServeOrder.{BlockOf, Serving, ClockIsPast, IsDone, IsTimely, SetsClock, serve, serves, serves_act}
use Rattle.conn_blocks.specs.Services.{service_in}
use Rattle.perimeter_core.specs.Deeds.{feed_numbers}
use Rattle.conn_blocks.specs.Orders.{numbers_on, call_numbers}
use Rattle.conn_blocks.specs.Holding.{fed, Begins, IsSettled, IsSound, ComesNext}
use Rattle.conn_blocks.proofs.Counting.{few_acts}
use Rattle.perimeter_core.proofs.ActLists.{feed_numbers-append}
use Rattle.conn_blocks.proofs.Settling.{calls_append, calls_of_thread, calls_of_other}

serves_more : (p : PlanOf) (calls : CallLists) (c : ℕ) (order : List Act) (a : Act) (s : Serving)
    → serves p calls c (service_in p c) (order ++ a ∷ []) s ≡ serves_act p calls c (service_in p c) a (serves p calls c (service_in p c) order s)
serves_more p calls c [] a s = refl
serves_more p calls c (x ∷ order) a s = serves_more p calls c order a (serves_act p calls c (service_in p c) x s)

pub serve_more : (p : PlanOf) (calls : CallLists) (c : ℕ) (order : List Act) (a : Act)
    → serve p calls c (order ++ a ∷ []) ≡ serves_act p calls c (service_in p c) a (serve p calls c order)
unfolding serve
serve_more p calls c order a = serves_more p calls c order a _

range_more : (n : ℕ) → range_with_len 0 (n + 1) ≡ range_with_len 0 n ++ n ∷ []
range_more n = sym (same (range_with_len 0 (n + 1))) ∙ map-range_with_len_more (λ i. i) 0 n n (omega arith) ∙ ap (λ l. l ++ n ∷ []) (same (range_with_len 0 n))
  where
    same : (xs : List ℕ) → map (λ i. i) xs ≡ xs
    same [] = refl
    same (x ∷ xs) = ap (λ l. x ∷ l) (same xs)

module _ (p : PlanOf) (calls : CallLists) (c : ℕ) (old : BlockOf) (is : IsSettled p calls c old) where
  -- the clock isn't after an act that comes next
  pub act_is_timely : (a : Act) → ComesNext p calls c old.order a → old.short ≡ false → IsTimely p c a old.tcb.clock
  act_is_timely (act.Feed n) h e = subst (λ m. ClockIsPast p c m old.tcb.clock) (sym h.0) (is.sound e).clock
  act_is_timely (act.Call j k) h e = tt

  pub received_few : old.short ≡ false → next_of old.tcb.recv < 2 ^ 60
  received_few e = let most = (is.sound e).received_most in omega (arith, most, few_acts p calls c old is)

  pub offered_few : old.short ≡ false → offered old.tcb < 2 ^ 60
  offered_few e = let most = (is.sound e).offered_most in omega (arith, most, few_acts p calls c old is)

  module _ (a : Act) (next : ComesNext p calls c old.order a) (new : BlockOf) (longer : new.order ≡ old.order ++ a ∷ []) where
    feeds_now : feed_numbers new.order ≡ feed_numbers old.order ++ feed_numbers (a ∷ [])
    feeds_now = ap feed_numbers longer ∙ feed_numbers-append old.order (a ∷ [])

    counted : (a : Act) → ComesNext p calls c old.order a → feed_numbers new.order ≡ feed_numbers old.order ++ feed_numbers (a ∷ [])
        → (feed_numbers new.order ≡ range_with_len 0 (fed new)) × (fed new ≤ length (items_in p c))
    counted (act.Feed n) h e =
        let more : fed new ≡ fed old + 1 = ap length e ∙ length_push (feed_numbers old.order) n in
        let this = h.0 in let less = h.1 in (
          e ∙ (λ i. is.feeds i ++ h.0 i ∷ []) ∙ sym (range_more (fed old)) ∙ ap (range_with_len 0) (sym more),
          omega (arith, more, this, less),
        )
    counted (act.Call j k) h e =
        let same : feed_numbers new.order ≡ feed_numbers old.order = e ∙ append-nil (feed_numbers old.order) in
        let few = is.few_feeds in (same ∙ is.feeds ∙ ap (λ l. range_with_len 0 (length l)) (sym same), omega (arith, few, ap length same))

    asked_now : (a : Act) → ComesNext p calls c old.order a → new.order ≡ old.order ++ a ∷ [] → (i : ℕ) → Begins (call_numbers i new.order) (numbers_on calls c i)
    asked_now (act.Feed n) h e i =
        subst (λ l. Begins l (numbers_on calls c i)) (sym (ap (call_numbers i) e ∙ calls_append i old.order (act.Feed n ∷ []) ∙ append-nil (call_numbers i old.order))) (is.asked i)
    asked_now (act.Call j k) h e i = by (j == i) refl
      where
        by : (b : Bool) → (j == i) ≡ b → Begins (call_numbers i new.order) (numbers_on calls c i)
        by true q =
            let same = eqb-true j i q in
            let own : call_numbers j new.order ≡ call_numbers j old.order ++ k ∷ [] =
            ap (call_numbers j) e ∙ calls_append j old.order (act.Call j k ∷ []) ∙ ap (λ l. call_numbers j old.order ++ l) (calls_of_thread j (k ∷ [])) in
            subst (λ m. Begins (call_numbers m new.order) (numbers_on calls c m)) same (subst (λ l. Begins l (numbers_on calls c j)) (sym own) h.1)
        by false q =
            let other : call_numbers i new.order ≡ call_numbers i old.order =
            ap (call_numbers i) e ∙ calls_append i old.order (act.Call j k ∷ []) ∙ ap (λ l. call_numbers i old.order ++ l) (calls_of_other i j q (k ∷ []))
            ∙ append-nil (call_numbers i old.order) in
            subst (λ l. Begins l (numbers_on calls c i)) (sym other) (is.asked i)

    clock_now : (a : Act) → ComesNext p calls c old.order a → feed_numbers new.order ≡ feed_numbers old.order ++ feed_numbers (a ∷ [])
        → ClockIsPast p c (fed old) old.tcb.clock → SetsClock p c a old.tcb.clock new.tcb.clock → ClockIsPast p c (fed new) new.tcb.clock
    clock_now (act.Feed n) h e past set =
        let more : fed new ≡ fed old + 1 = ap length e ∙ length_push (feed_numbers old.order) n in
        let this = h.0 in inr (n, omega (arith, more, this), set)
    clock_now (act.Call j k) h e past set =
        let same : fed new ≡ fed old = ap length (e ∙ append-nil (feed_numbers old.order)) in
        subst (λ m. ClockIsPast p c m new.tcb.clock) (sym same) (subst (ClockIsPast p c (fed old)) (sym set) past)

    pub settled_more : new.of ≡ old.of → new.service ≡ old.service → new.order_room ≡ old.order_room → old.answers_room ≤ new.answers_room
        → ((j k : ℕ) → j < 4 → k < length (calls_of calls j) → 4 * k + j < length new.stages)
        → (new.short ≡ false → IsDone p calls c a old new) → IsSettled p calls c new
    settled_more of service room answers table done = record {
      of = of ∙ is.of;
      threads = is.threads;
      service = service ∙ is.service;
      feeds = (counted a next feeds_now).0;
      few_feeds = (counted a next feeds_now).1;
      asked = asked_now a next longer;
      few_items = is.few_items;
      few_calls = is.few_calls;
      room = let r = is.room in omega (arith, r, room);
      answers_room = let r = is.answers_room in omega (arith, r, answers);
      table = table;
      sound = λ e. sound_now (done e);
    }
      where
        sound_now : IsDone p calls c a old new → IsSound p calls c new
        sound_now d =
            let before = is.sound d.before in
            let more : length new.order ≡ length old.order + 1 = ap length longer ∙ length_push old.order a in
            let t = d.received in let o = d.offered_more in let tm = before.received_most in let om = before.offered_most in
            record {
              served = d.step ∙ (λ i. serves_act p calls c (is.service i) a (before.served i)) ∙ sym (serve_more p calls c old.order a) ∙ ap (serve p calls c) (sym longer);
              clock = clock_now a next feeds_now before.clock d.clock;
              received_most = omega (arith, t, tm, more);
              offered_most = omega (arith, o, om, more);
            }

-- another table
pub settled_stages : (p : PlanOf) (calls : CallLists) (c : ℕ) (b : BlockOf) → IsSettled p calls c b → (s : List Stage) → length s ≡ length b.stages
    → IsSettled p calls c (record b { stages = s })
settled_stages p calls c b is s e = record {
  of = is.of;
  threads = is.threads;
  service = is.service;
  feeds = is.feeds;
  few_feeds = is.few_feeds;
  asked = is.asked;
  few_items = is.few_items;
  few_calls = is.few_calls;
  room = is.room;
  answers_room = is.answers_room;
  table = λ j k lj lk. (let lt = is.table j k lj lk in omega (arith, lt, e));
  sound = λ h. (let was = is.sound h in record {
    served = was.served;
    clock = was.clock;
    received_most = was.received_most;
    offered_most = was.offered_most;
  });
}
