-- An order served as far as act i.
use Rattle.std.proofs.Common.{◌≡◌, ℕ, ◌+◌, ◌*◌, ◌<◌, ◌≤◌, ◌^◌, inl, inr, false, List, [], ◌∷◌, ◌++◌, length, take, drop, sym, ap, subst, ◌∙◌, arith}
use Rattle.std.specs.List.{AllByRecursion}
use Rattle.byte_queues.specs.ReceiveQueue.{next_of}
use Rattle.tcb_machine.specs.BlockState.{offered}
use Rattle.conn_classifier.specs.Plan.{PlanOf, items_in}
use Rattle.perimeter_core.specs.declared.entries.Act.{Act}
use Rattle.perimeter_core.specs.declared.entries.Act.TheVariants as act
use Rattle.conn_blocks.specs.CallLists.{CallLists}
use Rattle.conn_blocks.specs.ServeOrder.{BlockOf, serving_of, serves, serves_act, serve, IsActOf, FeedsRise, ClockIsPast, IsTimely, SetsClock}
use Rattle.conn_blocks.specs.Services.{service_in}

-- what was served so far, and what is still to come
pub record SoFar (p : PlanOf) (calls : CallLists) (c : ℕ) (order : List Act) (i : ℕ) (b : BlockOf) : Type 0 where
  pub served : b.order ≡ take i order
  pub whole : b.short ≡ false
  pub service : b.service ≡ service_in p c
  pub left : serves p calls c (service_in p c) (drop i order) (serving_of b) ≡ serve p calls c order
  pub acts : AllByRecursion (IsActOf p calls c) (drop i order)
  -- the feeds that were served are below this number
  pub feeds : ℕ
  pub within : feeds ≤ 2097153
  pub rising : FeedsRise feeds (drop i order)
  pub clock : ClockIsPast p c feeds b.tcb.clock
  pub received_most : next_of b.tcb.recv ≤ i * 2 ^ 20
  pub offered_most : offered b.tcb ≤ i * 2 ^ 16

module _ (p : PlanOf) (calls : CallLists) (c : ℕ) (order : List Act) (items : length (items_in p c) ≤ 2097153) where
  pub starts : (b : BlockOf) → b.order ≡ [] → b.short ≡ false → b.service ≡ service_in p c → serves p calls c (service_in p c) order (serving_of b) ≡ serve p calls c order
      → AllByRecursion (IsActOf p calls c) order → FeedsRise 0 order → b.tcb.clock ≡ 0 → next_of b.tcb.recv ≡ 0 → offered b.tcb ≡ 0 → SoFar p calls c order 0 b
  starts b e s v l a r k n o = record {
    served = e;
    whole = s;
    service = v;
    left = l;
    acts = a;
    feeds = 0;
    within = omega arith;
    rising = r;
    clock = inl k;
    received_most = omega (arith, n);
    offered_most = omega (arith, o);
  }

  module _ (i : ℕ) (b : BlockOf) (so_far : SoFar p calls c order i b) (a : Act) (here : drop i order ≡ a ∷ drop (i + 1) order) where
    acts_here : AllByRecursion (IsActOf p calls c) (a ∷ drop (i + 1) order)
    acts_here = subst (AllByRecursion (IsActOf p calls c)) here so_far.acts

    rising_here : FeedsRise so_far.feeds (a ∷ drop (i + 1) order)
    rising_here = subst (FeedsRise so_far.feeds) here so_far.rising

    pub act_is : IsActOf p calls c a
    act_is = acts_here.0

    pub is_timely : IsTimely p c a b.tcb.clock
    is_timely = by a rising_here
      where
        by : (a : Act) → FeedsRise so_far.feeds (a ∷ drop (i + 1) order) → IsTimely p c a b.tcb.clock
        by (act.Call j k) r = tt
        by (act.Feed n) r = later so_far.clock
          where
            later : ClockIsPast p c so_far.feeds b.tcb.clock → ClockIsPast p c n b.tcb.clock
            later (inl e) = inl e
            later (inr (m, lt, e)) = inr (m, omega (arith, lt, r.0), e)

    pub more : (new : BlockOf) → take (i + 1) order ≡ take i order ++ a ∷ [] → new.order ≡ b.order ++ a ∷ [] → new.service ≡ b.service → new.short ≡ b.short
        → serving_of new ≡ serves_act p calls c b.service a (serving_of b) → SetsClock p c a b.tcb.clock new.tcb.clock
        → next_of new.tcb.recv ≤ next_of b.tcb.recv + 2 ^ 20 → offered new.tcb ≤ offered b.tcb + 2 ^ 16
        → SoFar p calls c order (i + 1) new
    more new t o v s step k g f = by a acts_here rising_here step k g f (ap (λ l. l ++ a ∷ []) so_far.served) here t o
      where
        by : (a : Act) → AllByRecursion (IsActOf p calls c) (a ∷ drop (i + 1) order) → FeedsRise so_far.feeds (a ∷ drop (i + 1) order)
            → serving_of new ≡ serves_act p calls c b.service a (serving_of b) → SetsClock p c a b.tcb.clock new.tcb.clock
            → next_of new.tcb.recv ≤ next_of b.tcb.recv + 2 ^ 20 → offered new.tcb ≤ offered b.tcb + 2 ^ 16
            → b.order ++ a ∷ [] ≡ take i order ++ a ∷ [] → drop i order ≡ a ∷ drop (i + 1) order → take (i + 1) order ≡ take i order ++ a ∷ [] → new.order ≡ b.order ++ a ∷ []
            → SoFar p calls c order (i + 1) new
        by (act.Feed n) acts rise step k g f front here t o = record {
          served = o ∙ front ∙ sym t;
          whole = s ∙ so_far.whole;
          service = v ∙ so_far.service;
          left = ap (serves p calls c (service_in p c) (drop (i + 1) order)) (step ∙ ap (λ w. serves_act p calls c w (act.Feed n) (serving_of b)) so_far.service)
              ∙ sym (ap (λ l. serves p calls c (service_in p c) l (serving_of b)) here) ∙ so_far.left;
          acts = acts.1;
          feeds = n + 1;
          within = let lt : n < length (items_in p c) = acts.0 in omega (arith, lt, items);
          rising = rise.1;
          clock = inr (n, omega arith, k);
          received_most = omega (arith, g, so_far.received_most);
          offered_most = omega (arith, f, so_far.offered_most);
        }
        by (act.Call j m) acts rise step k g f front here t o = record {
          served = o ∙ front ∙ sym t;
          whole = s ∙ so_far.whole;
          service = v ∙ so_far.service;
          left = ap (serves p calls c (service_in p c) (drop (i + 1) order)) (step ∙ ap (λ w. serves_act p calls c w (act.Call j m) (serving_of b)) so_far.service)
              ∙ sym (ap (λ l. serves p calls c (service_in p c) l (serving_of b)) here) ∙ so_far.left;
          acts = acts.1;
          feeds = so_far.feeds;
          within = so_far.within;
          rising = rise;
          clock = subst (ClockIsPast p c so_far.feeds) (sym k) so_far.clock;
          received_most = omega (arith, g, so_far.received_most);
          offered_most = omega (arith, f, so_far.offered_most);
        }
