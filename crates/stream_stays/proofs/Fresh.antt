-- A pass that has seen nothing knows places where nothing was pushed.
use Rattle.std.proofs.Common.{◌≡◌, Global, ℕ, ◌+◌, ◌%◌, ◌≤◌, ◌<◌, List, [], length, refl, ap, sym, ◌∙◌, subst, arith, slice_index}
use Rattle.rtrb.specs.declared.AnyItems.{AnyItems}
use Rattle.rtrb.specs.declared.consumer.Consumer.{Consumer}
use Rattle.turn_gate.specs.Passes.{number, seen}
use Rattle.turn_gate.specs.declared.pass.Pass.{Pass}
use Rattle.perimeter_core.specs.declared.entries.Feed.{Feed as FeedOf}
use Rattle.perimeter_core.specs.Perimeter.{Idle, is_here}
use Rattle.perimeter_core.specs.History.{Element, Limits, Setting, run, start}
use Rattle.perimeter_core.specs.Deeds.{due, entries, times_left}
use Rattle.perimeter_core.specs.Legal.{Enters, asks_by, feeds_by}
use Rattle.histories.proofs.ListPlaces.{open_flag}
use Rattle.squeue_state.specs.Naming.{Named, setting_of}
use Rattle.stream_stays.specs.declared.place.Place.{Place}
use Rattle.stream_stays.specs.declared.place.Place.TheVariants.{Open, Out, Vacant as Vacant'}
use Rattle.stream_stays.specs.Places.{IsPlace, chain_of}
use Rattle.stream_stays.specs.Beginning.{IsNewPlace, NewPassesKnow}
use Rattle.stream_stays.proofs.Kept.{none_touched}

-- at the start every pass is idle
start_idle : (S : Setting) (p : ℕ) → Idle (start S) p
start_idle S p = record { open_pass = open_flag (length S.quotas + 1) p; no_owner = λ e. cc e; not_granted = λ e. cc e; not_in_hand = refl; not_in_chain = refl }

module _ {T S O : Type 0} (begins : O → ℕ → Consumer T Global AnyItems → S → Type 0) (step : O → S → T → S → Type 0) {R : Type 0} (limits : R → Limits) (s : Named R) (o : O) where
  new_is : (p : Pass Element) (chain : List FeedOf) (c : ℕ) (place : Place T S) → seen p ≡ [] → IsNewPlace begins step limits s o p c place → IsPlace begins step limits s o p chain c place
  new_is p chain c Out none new = tt
  new_is p chain c (Open stay) none new = absurd new
  new_is p chain c (Vacant' v) none new =
      let S0 : Setting = setting_of limits s.given in
      let same : c ≡ v.stream = sym new.stream in
      let not_left : times_left c (seen p) ≡ 0 = ap (times_left c) none in
      let few = new.leaves in
      let leaves : times_left c (seen p) + v.leaves ≤ slice_index (limits s.given.first).leaves c = omega (arith, not_left, few) in
      record {
        stream = new.stream;
        away =
            record {
              ring = new.its_ring ∙ ap (λ (d : ℕ). d % s.given.rings) same;
              range = subst (λ (d : ℕ). d < length s.given.starts) same new.range;
              away = ap (λ (d : ℕ). is_here (run S0 (seen p)) d) (sym same) ∙ (ap (λ (H : List Element). is_here (run S0 H) c) none ∙ new.away);
              numbers = rw new.stream new.numbers;
              leaves = subst (λ (d : ℕ). times_left d (seen p) + v.leaves ≤ slice_index (limits s.given.first).leaves d) same leaves;
            };
        part = rw new.stream new.part;
        ring = rw new.stream new.ring;
        empty = new.empty;
      }

  pub new_passes_know_of : NewPassesKnow begins step limits s o
  new_passes_know_of p st new =
      let S0 : Setting = setting_of limits s.given in
      let no_feeds : feeds_by (number p) (seen p) ≡ 0 = ap (feeds_by (number p)) new.nothing in
      let no_asks : asks_by (number p) (seen p) ≡ 0 = ap (asks_by (number p)) new.nothing in
      let feeds = new.feeds in
      let asks = new.asks in
      let no_more : length (chain_of st) ≡ 0 = ap length new.none.0 in
      record {
        life =
            record {
              pass = new.pass;
              no_worker = new.no_worker;
              idle = subst (λ (H : List Element). Idle (run S0 H) (number p)) (sym new.nothing) (start_idle S0 (number p));
              feeds = omega (arith, no_feeds, feeds);
              asks = omega (arith, no_asks, asks);
            };
        chain = subst (λ (es : List FeedOf). Enters S0 (run S0 (seen p)) (number p) (due (seen p)) (entries es)) (sym new.none.0) tt;
        quota = omega (arith, no_feeds, feeds, no_more);
        each = λ c place at. new_is p (chain_of st) c place new.nothing (new.each c place at);
        touched = none_touched st new.none.1;
      }
