-- What a thread knows of its pass and of a stay after it has entered a chain, opened or closed.
use Rattle.std.proofs.Common.{◌≡◌, ℕ, zero, suc, ◌+◌, ◌-◌, ◌%◌, ◌^◌, ◌≤◌, ◌<◌, ◌==◌, Bool, if◌then◌else◌, true, false, List, [], length, slice_index, refl, ap, sym, ◌∙◌, subst, arith}
use Rattle.std.proofs.lemmas.Bool.Decides.{nat_tests}
use Rattle.std.proofs.lemmas.List.{append-nil}
use Rattle.turn_gate.specs.Passes.{number, seen}
use Rattle.turn_gate.specs.declared.pass.Pass.{Pass}
use Rattle.perimeter_core.specs.declared.entries.Feed.{Feed as FeedOf}
use Rattle.perimeter_core.specs.declared.marks.SynchAct.{SynchAct}
use Rattle.perimeter_core.specs.Perimeter.{Idle, State, is_here}
use Rattle.perimeter_core.specs.History.{Element, Limits, Setting, ask_quota, feed_quota, run}
use Rattle.perimeter_core.specs.Deeds.{due, entries}
use Rattle.perimeter_core.specs.Legal.{Enters, asks_by, feeds_by, one_more}
use Rattle.squeue_state.specs.Naming.{Named, setting_of}
use Rattle.squeue_state.specs.declared.guarded.Life.{Life}
use Rattle.squeue_enter.specs.Entering.{Brought, MayEnter, MayGoOn}
use Rattle.synch_enter.specs.Synch.{MayAsk}
use Rattle.conn_migrate.specs.Moving.{MayCome, MayLeave, Moved, RingLearns}
use Rattle.histories.specs.Lists.{items_of}
use Rattle.histories.proofs.RingLists.{length_items, same_key, other_key}
use Rattle.stream_stays.specs.declared.stay.Stay.{Stay}
use Rattle.stream_stays.specs.Staying.{HasLife, IsAway, LeavesOthers, StaysAt, entered_of, leaves_of, pushed_of, stream_of}

-- k feeds of one stream, from the next one on
enters_items : (S : Setting) (t : State) (p c n k : ℕ) (next : ℕ → ℕ) → p ≡ c % S.rings → is_here t c ≡ true → n ≡ next c → n + k ≤ slice_index S.limits.feeds c → Enters S t p next (entries (items_of c n k))
enters_items S t p c n zero next mine here is within = tt
enters_items S t p c n (suc k) next mine here is within =
    let one : (c == c) ≡ true = grind (arith, nat_tests) in
    let more : suc n ≡ (if c == c then next c + 1 else next c) = rw one (omega (arith, is)) in
    (mine, here, is, omega (arith, within), enters_items S t p c (suc n) k (one_more c next) mine here more (omega (arith, within)))

module _ {R : Type 0} (limits : R → Limits) (s : Named R) where
  abbrev S : Setting
  S = setting_of limits s.given

  -- the feeds of items that are pushed may be entered
  pub may_enter : {T : Type 0} (p : Pass Element) (life : Life) (stay : Stay T) (k : ℕ) → k ≤ life.feeds → k ≤ pushed_of stay - entered_of stay → HasLife limits s life p → StaysAt limits s p stay
      → MayEnter limits s p (items_of (stream_of stay) (entered_of stay) k)
  may_enter p life stay k some few l at =
      let most = at.numbers in
      let within : entered_of stay + k < 2 ^ 32 = omega (arith, few, stay.order.0, stay.order.1) in
      let feeds = l.feeds in
      record {
        pass = l.pass;
        no_worker = l.no_worker;
        idle = l.idle;
        enters = enters_items S (run S (seen p)) (number p) (stream_of stay) (entered_of stay) k (due (seen p)) at.ring at.here (sym at.due) (omega (arith, most, within));
        quota = omega (arith, length_items (stream_of stay) (entered_of stay) k, feeds, some);
      }

  module _ {T : Type 0} (from to : Pass Element) (life : Life) (old : Stay T) (k : ℕ) (some : k ≤ life.feeds) (few : k ≤ pushed_of old - entered_of old) (l : HasLife limits s life from) (at : StaysAt limits s from old) (brought : Brought limits s (items_of (stream_of old) (entered_of old) k) from to) (on : MayGoOn limits s (items_of (stream_of old) (entered_of old) k) from to) (same : number to ≡ number from) where
    may_more : MayEnter limits s to []
    may_more =
        let es : List FeedOf = items_of (stream_of old) (entered_of old) k in
        on [] (subst (λ (fs : List FeedOf). MayEnter limits s from fs) (sym (append-nil es)) (may_enter from life old k some few l at))

    pub life_on : (after : Life) → after.feeds + k ≡ life.feeds → after.asks ≡ life.asks → HasLife limits s after to
    life_on after spent asks =
        let feeds_at : feeds_by (number to) (seen to) ≡ feeds_by (number from) (seen to) = ap (λ (n : ℕ). feeds_by n (seen to)) same in
        let asks_at : asks_by (number to) (seen to) ≡ asks_by (number from) (seen to) = ap (λ (n : ℕ). asks_by n (seen to)) same in
        let feed_at : feed_quota S (number to) ≡ feed_quota S (number from) = ap (feed_quota S) same in
        let ask_at : ask_quota S (number to) ≡ ask_quota S (number from) = ap (ask_quota S) same in
        let was_feeds = l.feeds in
        let was_asks = l.asks in
        record {
          pass = may_more.pass;
          no_worker = may_more.no_worker;
          idle = may_more.idle;
          feeds = omega (arith, feeds_at, feed_at, brought.feeds, length_items (stream_of old) (entered_of old) k, was_feeds, spent);
          asks = omega (arith, asks_at, ask_at, brought.asks, was_asks, asks);
        }

    pub stays_on : (new : Stay T) → stream_of new ≡ stream_of old → leaves_of new ≡ leaves_of old → entered_of new ≡ entered_of old + k → StaysAt limits s to new
    stays_on new stream leaves entered =
        let was = at.leaves in
        record {
          ring = same ∙ (at.ring ∙ ap (λ (d : ℕ). d % s.given.rings) (sym stream));
          range = subst (λ (d : ℕ). d < length s.given.starts) (sym stream) at.range;
          here = ap (λ (d : ℕ). is_here (run S (seen to)) d) stream ∙ (brought.here (stream_of old) at.ring ∙ at.here);
          due = ap (due (seen to)) stream ∙ omega (arith, brought.next (stream_of old) at.ring, same_key (stream_of old) (entered_of old) k, at.due, entered);
          numbers = rw stream at.numbers;
          leaves = rw (stream, leaves) (omega (arith, brought.left (stream_of old) at.ring, was));
        }

  pub others_stay : (c n k : ℕ) (from to : Pass Element) → Brought limits s (items_of c n k) from to → LeavesOthers limits s c from to
  others_stay c n k from to b d other ring =
      record {
        here = b.here d ring;
        next = omega (arith, b.next d ring, other_key c d n k other);
        left = b.left d ring;
      }

  -- nothing changes of others where nothing is done
  pub others_same : (c : ℕ) (p : Pass Element) → LeavesOthers limits s c p p
  others_same c p d other ring = record { here = refl; next = refl; left = refl }

  pub others_then : (c : ℕ) (from at to : Pass Element) → number at ≡ number from → LeavesOthers limits s c from at → LeavesOthers limits s c at to → LeavesOthers limits s c from to
  others_then c from at to same x y d other ring =
      let a = x d other ring in
      let b = y d other (same ∙ ring) in
      record { here = b.here ∙ a.here; next = b.next ∙ a.next; left = b.left ∙ a.left }

  -- a pass with an ask left may ask
  pub may_ask : (p : Pass Element) (life : Life) → 1 ≤ life.asks → HasLife limits s life p → MayAsk limits s p
  may_ask p life some l = let a = l.asks in record { pass = l.pass; no_worker = l.no_worker; idle = l.idle; quota = omega (arith, a, some) }

  pub may_come : (p : Pass Element) (life : Life) (c leaves : ℕ) → 1 ≤ life.asks → HasLife limits s life p → IsAway limits s p c leaves → MayCome limits s c p
  may_come p life c leaves some l a = record { may_ask = may_ask p life some l; ring = a.ring; range = a.range; away = a.away }

  pub may_leave : {T : Type 0} (p : Pass Element) (life : Life) (stay : Stay T) → 1 ≤ life.asks → 1 ≤ leaves_of stay → HasLife limits s life p → StaysAt limits s p stay → MayLeave limits s (stream_of stay) p
  may_leave p life stay some more l at = let m = at.leaves in record { may_ask = may_ask p life some l; ring = at.ring; here = at.here; leaves = omega (arith, m, more) }

  -- an ask was spent
  pub life_moved : (from to : Pass Element) (act : SynchAct) (c times : ℕ) (b : Bool) (life after : Life) → Moved limits s act [] from to → RingLearns limits s c b times from to → HasLife limits s life from
      → after.feeds ≡ life.feeds → life.asks ≡ after.asks + 1 → HasLife limits s after to
  life_moved from to act c times b life after moved learns l feeds asks =
      let same : number to ≡ number from = moved.goes_on.same_number in
      let feeds_at : feeds_by (number to) (seen to) ≡ feeds_by (number from) (seen to) = ap (λ (n : ℕ). feeds_by n (seen to)) same in
      let asks_at : asks_by (number to) (seen to) ≡ asks_by (number from) (seen to) = ap (λ (n : ℕ). asks_by n (seen to)) same in
      let feed_at : feed_quota S (number to) ≡ feed_quota S (number from) = ap (feed_quota S) same in
      let ask_at : ask_quota S (number to) ≡ ask_quota S (number from) = ap (ask_quota S) same in
      let was_feeds = l.feeds in
      let was_asks = l.asks in
      record {
        pass = moved.goes_on.is_pass;
        no_worker = subst (λ (k : ℕ). k < length s.given.quotas) (sym same) l.no_worker;
        idle = subst (λ (k : ℕ). Idle (run S (seen to)) k) (sym same) moved.idle;
        feeds = omega (arith, feeds_at, feed_at, learns.feeds, was_feeds, feeds);
        asks = omega (arith, asks_at, ask_at, learns.asks, was_asks, asks);
      }

  -- a stay that begins
  pub stays_opened : {T : Type 0} (from to : Pass Element) (act : SynchAct) (stay : Stay T) → Moved limits s act [] from to → RingLearns limits s (stream_of stay) true 0 from to → due (seen to) (stream_of stay) ≡ 0 → entered_of stay ≡ 0
      → IsAway limits s from (stream_of stay) (leaves_of stay) → StaysAt limits s to stay
  stays_opened from to act stay moved learns next none a =
      let was = a.leaves in
      record {
        ring = moved.goes_on.same_number ∙ a.ring;
        range = a.range;
        here = learns.now_here;
        due = next ∙ sym none;
        numbers = a.numbers;
        leaves = omega (arith, learns.left, was);
      }

  -- and that ends
  pub is_away : {T : Type 0} (from to : Pass Element) (act : SynchAct) (stay : Stay T) (leaves : ℕ) → Moved limits s act [] from to → RingLearns limits s (stream_of stay) false 1 from to → leaves_of stay ≡ leaves + 1
      → StaysAt limits s from stay → IsAway limits s to (stream_of stay) leaves
  is_away from to act stay leaves moved learns fewer at =
      let was = at.leaves in
      record {
        ring = moved.goes_on.same_number ∙ at.ring;
        range = at.range;
        away = learns.now_here;
        numbers = at.numbers;
        leaves = omega (arith, learns.left, was, fewer);
      }
