-- What a ring's pass may do at a squeue, and what it knows afterwards.
use Rattle.std.proofs.Common.{◌≡◌, ℕ, ◌+◌, ◌*◌, ◌%◌, ◌^◌, ◌<◌, ◌≤◌, true, false, List, [], ◌∷◌, ◌++◌, length, length-append, refl, ap, sym, ◌∙◌, subst, arith}
use Rattle.std.proofs.lemmas.Bool.{eq-eqb}
use Rattle.turn_gate.specs.Passes.{IsPassOf, number, seen}
use Rattle.turn_gate.specs.declared.pass.Pass.{Pass}
use Rattle.perimeter_core.specs.declared.entries.Feed.{Feed as FeedOf}
use Rattle.perimeter_core.specs.declared.marks.SynchAct.TheVariants as Done
use Rattle.perimeter_core.specs.Perimeter.{Idle, is_here}
use Rattle.perimeter_core.specs.History.{Element, Limits, ask_quota, feed_quota, run}
use Rattle.perimeter_core.specs.Deeds.{due, entries, feeds_of, times_left}
use Rattle.perimeter_core.specs.Legal.{asks_by, feeds_by}
use Rattle.histories.specs.Elements.{number_of}
use Rattle.squeue_state.specs.Naming.{Named, setting_of}
use Rattle.squeue_enter.specs.Entering.{Brought, MayEnter, MayGoOn}
use Rattle.synch_enter.specs.Synch.{MayAsk}
use Rattle.conn_migrate.specs.Moving.{MayCome, MayLeave, Moved, RingLearns}
use Rattle.shard_rings.specs.Knowing.{IsAt, Serves}

-- the ring's feed of a number
abbrev pub feed_at : ℕ → ℕ → FeedOf
feed_at ring n = record { c = ring; n = n }

one_of : (ring n : ℕ) → length (feeds_of ring (entries (feed_at ring n ∷ []))) ≡ 1
one_of ring n = rw (eq-eqb ring ring refl) refl

module _ {R : Type 0} (limits : R → Limits) (s : Named R) (ring : ℕ) where
  -- one more was sent, and a feed entered for it
  pub one_sent : {T : Type 0} (xs ys : List T) (x : T) (n : ℕ) (p : Pass Element) → ys ≡ xs ++ x ∷ [] → IsAt limits s ring n (length xs + 1) p → IsAt limits s ring n (length ys) p
  one_sent xs ys x n p more at = subst (λ (k : ℕ). IsAt limits s ring n k p) (sym (ap length more ∙ length-append xs (x ∷ []))) at

  -- its part is elsewhere, between two asks of a renewal
  pub record IsOut (fed : ℕ) (p : Pass Element) : Type 0 where
    pub pass : IsPassOf number_of s.gate p
    pub is_number : number p ≡ ring
    pub idle : Idle (run (setting_of limits s.given) (seen p)) ring
    pub away : is_here (run (setting_of limits s.given) (seen p)) ring ≡ false
    pub left : times_left ring (seen p) ≤ fed
    pub asks : asks_by ring (seen p) + 1 ≤ 2 * times_left ring (seen p)
    pub feeds : feeds_by ring (seen p) ≡ fed

  its : (p : Pass Element) → number p ≡ ring → Serves limits s ring → number p ≡ ring % s.given.rings
  its p same serves = same ∙ serves.its_ring

  may_ask : (p : Pass Element) → Serves limits s ring → IsPassOf number_of s.gate p → number p ≡ ring → Idle (run (setting_of limits s.given) (seen p)) ring → asks_by ring (seen p) < ask_quota (setting_of limits s.given) ring → MayAsk limits s p
  may_ask p serves pass same idle few =
      record {
        pass = pass;
        no_worker = subst (λ (k : ℕ). k < length s.given.quotas) (sym same) serves.no_worker;
        idle = subst (λ (k : ℕ). Idle (run (setting_of limits s.given) (seen p)) k) (sym same) idle;
        quota = subst (λ (k : ℕ). asks_by k (seen p) < ask_quota (setting_of limits s.given) k) (sym same) few;
      }

  pub may_leave : (n fed : ℕ) (p : Pass Element) → Serves limits s ring → fed ≤ 2 ^ 50 → IsAt limits s ring n fed p → MayLeave limits s ring p
  may_leave n fed p serves life at =
      let left = at.left in
      let asks = at.asks in
      let quota = serves.asks in
      let often = serves.leaves in
      record {
        may_ask = may_ask p serves at.pass at.is_number at.idle (omega (arith, left, asks, quota, life));
        ring = its p at.is_number serves;
        here = at.here;
        leaves = omega (arith, left, often, life);
      }

  -- its part was taken out
  pub went_out : (n fed : ℕ) (p q : Pass Element) → 1 ≤ n → Moved limits s (Done.Out ring) [] p q → RingLearns limits s ring false 1 p q → IsAt limits s ring n fed p → IsOut fed q
  went_out n fed p q some moved learns at =
      let same : number q ≡ ring = moved.goes_on.same_number ∙ at.is_number in
      let asks : asks_by ring (seen q) ≡ asks_by ring (seen p) + 1 = subst (λ (k : ℕ). asks_by k (seen q) ≡ asks_by k (seen p) + 1) at.is_number learns.asks in
      let feeds : feeds_by ring (seen q) ≡ feeds_by ring (seen p) = subst (λ (k : ℕ). feeds_by k (seen q) ≡ feeds_by k (seen p)) at.is_number learns.feeds in
      let left = learns.left in
      let was = at.left in
      let asked = at.asks in
      record {
        pass = moved.goes_on.is_pass;
        is_number = same;
        idle = subst (λ (k : ℕ). Idle (run (setting_of limits s.given) (seen q)) k) at.is_number moved.idle;
        away = learns.now_here;
        left = omega (arith, left, was, some);
        asks = omega (arith, asks, asked, left);
        feeds = feeds ∙ at.feeds;
      }

  pub may_come : (fed : ℕ) (p : Pass Element) → Serves limits s ring → fed ≤ 2 ^ 50 → IsOut fed p → MayCome limits s ring p
  may_come fed p serves life out =
      let left = out.left in
      let asks = out.asks in
      let quota = serves.asks in
      record {
        may_ask = may_ask p serves out.pass out.is_number out.idle (omega (arith, left, asks, quota, life));
        ring = its p out.is_number serves;
        range = serves.range;
        away = out.away;
      }

  -- and a new one put in
  pub came_in : (fed : ℕ) (p q : Pass Element) → Moved limits s (Done.In ring) [] p q → RingLearns limits s ring true 0 p q → due (seen q) ring ≡ 0 → IsOut fed p → IsAt limits s ring 0 fed q
  came_in fed p q moved learns next out =
      let same : number q ≡ ring = moved.goes_on.same_number ∙ out.is_number in
      let asks : asks_by ring (seen q) ≡ asks_by ring (seen p) + 1 = subst (λ (k : ℕ). asks_by k (seen q) ≡ asks_by k (seen p) + 1) out.is_number learns.asks in
      let feeds : feeds_by ring (seen q) ≡ feeds_by ring (seen p) = subst (λ (k : ℕ). feeds_by k (seen q) ≡ feeds_by k (seen p)) out.is_number learns.feeds in
      let left = learns.left in
      let was = out.left in
      let asked = out.asks in
      record {
        pass = moved.goes_on.is_pass;
        is_number = same;
        idle = subst (λ (k : ℕ). Idle (run (setting_of limits s.given) (seen q)) k) out.is_number moved.idle;
        here = learns.now_here;
        next = next;
        left = omega (arith, left, was);
        asks = omega (arith, asks, asked, left);
        feeds = feeds ∙ out.feeds;
      }

  -- it may enter its next feed
  pub may_enter : (n fed : ℕ) (p : Pass Element) → Serves limits s ring → n < 2 ^ 31 → fed < 2 ^ 50 → IsAt limits s ring n fed p → MayEnter limits s p (feed_at ring n ∷ [])
  may_enter n fed p serves below life at =
      let numbers = serves.numbers in
      let quota = serves.feeds in
      let is = at.feeds in
      record {
        pass = at.pass;
        no_worker = subst (λ (k : ℕ). k < length s.given.quotas) (sym at.is_number) serves.no_worker;
        idle = subst (λ (k : ℕ). Idle (run (setting_of limits s.given) (seen p)) k) (sym at.is_number) at.idle;
        enters = (its p at.is_number serves, at.here, sym at.next, omega (arith, numbers, below), tt);
        quota = subst (λ (k : ℕ). feeds_by k (seen p) + 1 ≤ feed_quota (setting_of limits s.given) k) (sym at.is_number) (omega (arith, is, quota, life));
      }

  -- and what it knows behind feeds that it has entered, of which so many are its connection's
  module _ (es : List FeedOf) (n fed : ℕ) (p q : Pass Element) (serves : Serves limits s ring) (brought : Brought limits s es p q) (pass : IsPassOf number_of s.gate q) (same : number q ≡ number p)
      (idle : Idle (run (setting_of limits s.given) (seen q)) (number p)) (at : IsAt limits s ring n fed p) where
    pub went_on : (m : ℕ) → length (feeds_of ring (entries es)) ≡ m → length es ≡ m → IsAt limits s ring (n + m) (fed + m) q
    went_on m own all =
        let its_ring = its p at.is_number serves in
        let next = brought.next ring its_ring in
        let was = at.next in
        let left = brought.left ring its_ring in
        let few = at.left in
        let asks : asks_by ring (seen q) ≡ asks_by ring (seen p) = subst (λ (k : ℕ). asks_by k (seen q) ≡ asks_by k (seen p)) at.is_number brought.asks in
        let asked = at.asks in
        let feeds : feeds_by ring (seen q) ≡ feeds_by ring (seen p) + length es = subst (λ (k : ℕ). feeds_by k (seen q) ≡ feeds_by k (seen p) + length es) at.is_number brought.feeds in
        let is = at.feeds in
        record {
          pass = pass;
          is_number = same ∙ at.is_number;
          idle = subst (λ (k : ℕ). Idle (run (setting_of limits s.given) (seen q)) k) at.is_number idle;
          here = brought.here ring its_ring ∙ at.here;
          next = omega (arith, next, was, own);
          left = omega (arith, left, few);
          asks = omega (arith, left, asks, asked);
          feeds = omega (arith, feeds, is, all);
        }

  -- it has entered it
  pub entered : (n fed : ℕ) (p q : Pass Element) → Serves limits s ring → Brought limits s (feed_at ring n ∷ []) p q → IsPassOf number_of s.gate q → number q ≡ number p → Idle (run (setting_of limits s.given) (seen q)) (number p)
      → IsAt limits s ring n fed p → IsAt limits s ring (n + 1) (fed + 1) q
  entered n fed p q serves brought pass same idle at = went_on (feed_at ring n ∷ []) n fed p q serves brought pass same idle at 1 (one_of ring n) refl

  -- it found the squeue full
  pub waited : (n fed : ℕ) (p q : Pass Element) → Serves limits s ring → n < 2 ^ 31 → fed < 2 ^ 50 → Brought limits s [] p q → MayGoOn limits s [] p q → number q ≡ number p → IsAt limits s ring n fed p → IsAt limits s ring n fed q
  waited n fed p q serves below life brought more same at =
      let may : MayEnter limits s q (feed_at ring n ∷ []) = more (feed_at ring n ∷ []) (may_enter n fed p serves below life at) in
      let z : n + 0 ≡ n = omega arith in
      let y : fed + 0 ≡ fed = omega arith in
      subst (λ (k : ℕ). IsAt limits s ring n k q) y (subst (λ (k : ℕ). IsAt limits s ring k (fed + 0) q) z
      (went_on [] n fed p q serves brought may.pass same (subst (λ (k : ℕ). Idle (run (setting_of limits s.given) (seen q)) k) same may.idle) at 0 refl refl))
