-- What who looks may do at first, and what it has seen at the end.
use Rattle.std.proofs.Common.{◌≡◌, ℕ, ◌+◌, ◌^◌, ◌<◌, ◌≤◌, ◌==◌, Bool, true, false, if◌then◌else◌, Option, Some, None, List, [], ◌∷◌, ◌++◌, length, slice_get, slice_index_or, refl, ap, sym, ◌∙◌, subst, arith}
use Rattle.turn_gate.specs.History.{only}
use Rattle.turn_gate.specs.Passes.{IsPassOf, mine, number, seen}
use Rattle.turn_gate.specs.declared.pass.Pass.{Pass}
use Rattle.perimeter_core.specs.declared.entries.Act.{Act}
use Rattle.perimeter_core.specs.Blocks.{peri}
use Rattle.perimeter_core.specs.History.{Element, Limits, Setting, ask_quota, pass_of, run}
use Rattle.perimeter_core.specs.Deeds.{entries_of}
use Rattle.perimeter_core.specs.Legal.{Legal, ask_count, asks_by}
use Rattle.perimeter_core.specs.Perimeter.{Idle}
use Rattle.perimeter_core.proofs.OwnCounts.{own_counts}
use Rattle.placed_parts.specs.Standing.{InOrder, OwnPart, PlaceAt, PlacesStand}
use Rattle.histories.specs.Elements.{closed_by, number_of}
use Rattle.squeue_drain.proofs.Deciding.{begins_trans}
use Rattle.squeue_drain.specs.Draining.{GoesOn}
use Rattle.squeue_enter.proofs.Carrying.{by_append}
use Rattle.squeue_serve.proofs.Unused.{start_idle}
use Rattle.squeue_state.proofs.Makers.{only_made}
use Rattle.squeue_state.specs.Naming.{Named, setting_of}
use Rattle.squeue_state.specs.Clauses.{Knows}
use Rattle.squeue_streams.specs.declared.streams.Stream.{Stream}
use Rattle.squeue_streams.specs.Taking.{HasTaken, IsStreamOf, state_of}
use Rattle.synch_enter.specs.Synch.{MayAsk}
use Rattle.squeue_arrivals.specs.declared.steps.Keyed.{Keyed}
use Rattle.squeue_arrivals.specs.Keyed.{AreBegun, IsFirst, Tells, first_of, work_of}
use Rattle.squeue_arrivals.specs.Seating.{ServesPlaces, looker_life, one_life}
use Rattle.squeue_arrivals.specs.Watching.{IsPartOf, IsSeenOf, MayLook, SawLast}
use Rattle.squeue_arrivals.proofs.Seated.{behind_is, lives_long}
use Rattle.squeue_arrivals.proofs.Closing.{each_of}

-- a pass behind those of the rings that has seen nothing may look
pub may_look : {R : Type 0} (limits : R → Limits) (s : Named R) (rings count : ℕ) → ServesPlaces limits s.given rings count → (p : Pass Element) → IsPassOf number_of s.gate p → rings ≤ number p → number p < length s.given.quotas → seen p ≡ []
    → MayLook limits s (2 ^ 32) p × (asks_by (number p) (seen p) ≡ 0)
may_look limits s rings count serves p pass behind lt none =
    let long = ap length serves.quotas ∙ lives_long rings serves.lookers in
    let zero_by : asks_by (number p) (seen p) ≡ 0 = ap (asks_by (number p)) none in
    let life : slice_index_or s.given.quotas (number p) (0, 0) ≡ looker_life =
    ap (λ (qs : List (ℕ × ℕ)). slice_index_or qs (number p) (0, 0)) serves.quotas ∙ behind_is rings serves.lookers (number p) one_life looker_life (0, 0) behind (omega (arith, lt, long)) in
    let asks : ask_quota (setting_of limits s.given) (number p) ≡ looker_life.1 = ap (λ (q : ℕ × ℕ). q.1) life in (
      record {
        pass = pass;
        no_worker = lt;
        idle = subst (λ (H : List Element). Idle (run (setting_of limits s.given) H) (number p)) (sym none) (start_idle (setting_of limits s.given) (number p));
        asks = omega (arith, zero_by, asks);
      },
      zero_by,
    )

-- what a pass made of its own is the same in all that has it as its own
pub asks_same : (p : ℕ) (H found mine : List Element) → only number_of p H ≡ mine → only number_of p found ≡ mine → asks_by p found ≡ asks_by p H
asks_same p H found mine before now =
    (own_counts p found).1 ∙ (ap (asks_by p) (sym (only_made p found) ∙ (now ∙ (sym before ∙ only_made p H))) ∙ sym (own_counts p H).1)

-- closing is no ask
pub asks_closed : (p q : ℕ) (H : List Element) → asks_by q (H ++ closed_by p ∷ []) ≡ asks_by q H
asks_closed p q H = omega (arith, (by_append q H (closed_by p ∷ [])).1, none)
  where
    by : (b : Bool) → (if b then ask_count (entries_of (closed_by p).mark) else 0) + 0 ≡ 0
    by true = refl
    by false = refl

    none : asks_by q (closed_by p ∷ []) ≡ 0
    none = by (pass_of (closed_by p).mark == q)

module _ {W T S A : Type 0} (begins : W → S → Type 0) (step : W → S → T → S → Type 0) (work : W) (Says : List (Option (Stream T S)) → A → Type 0) (looks : ℕ) where
  -- what was looked at in what the pass has seen was looked at in the whole
  pub looked_whole : (S T : Setting) → T ≡ S → (k : ℕ) (H : List Element) (q : Pass Element) (last : Option A) → number q ≡ k → only number_of (number q) (seen q) ≡ mine q → Knows H q
      → SawLast begins step work Says S (number q) looks (seen q) last → SawLast begins step work Says T k looks H last
  looked_whole S T same k H q last is own knows l =
      subst (λ (n : ℕ). SawLast begins step work Says T n looks H last) is
      (subst (λ (X : Setting). SawLast begins step work Says X (number q) looks H last) (sym same) (record {
        before = l.before;
        is_beginning = begins_trans l.before (seen q) H l.is_beginning knows.0;
        there = l.there;
        no_more = asks_same (number q) (seen q) H (mine q) own knows.1 ∙ l.no_more;
        some = l.some;
        looked = l.looked;
      }))

module _ {R : Type 0} (limits : R → Limits) (s : Named R) (n : ℕ) (p : Pass Element) where
  pub may_ask : MayLook limits s n p → 0 < n → MayAsk limits s p
  may_ask may some = record { pass = may.pass; no_worker = may.no_worker; idle = may.idle; quota = omega (arith, may.asks, some) }

  -- a pass that has looked may look once less
  pub looked_once : (q : Pass Element) (m : ℕ) → MayLook limits s n p → m + 1 ≤ n → GoesOn limits s p q → Idle (run (setting_of limits s.given) (seen q)) (number p) → asks_by (number p) (seen q) ≡ asks_by (number p) (seen p) + 1 → MayLook limits s m q
  looked_once q m may is on idle asks =
      let same : number p ≡ number q = sym on.same_number in
      record {
        pass = on.is_pass;
        no_worker = subst (λ (k : ℕ). k < length s.given.quotas) same may.no_worker;
        idle = subst (λ (k : ℕ). Idle (run (setting_of limits s.given) (seen q)) k) same idle;
        asks = subst (λ (k : ℕ). asks_by k (seen q) + m ≤ ask_quota (setting_of limits s.given) k) same (omega (arith, may.asks, asks, is));
      }

module _ {W T S : Type 0} (begins : W → S → Type 0) (step : W → S → T → S → Type 0) (o : Keyed W T S) (begun : AreBegun begins o) where
  part_of : (c : ℕ) (stream : Stream T S) (had : List Act) → OwnPart (IsStreamOf IsFirst (Tells step) o) (InOrder HasTaken) c stream had → IsPartOf begins step (work_of o) stream had
  part_of c stream had (own, rest) =
      let first = own.begun in
      let taken = rest.1 in
      record {
        feeds = omega (arith, taken.feeds, taken.popped);
        made = record {
          first = own.first;
          begun = subst (begins (work_of o)) first.its_state (each_of (λ (stream : Stream T S). begins (work_of o) (state_of stream)) (first_of o) c first.stream begun first.its_number);
          taken = own.taken;
        };
        counted = own.counted;
      }

  at_place : (c : ℕ) (place : Option (Option (Stream T S))) (block : Option (List Act)) → PlaceAt (OwnPart (IsStreamOf IsFirst (Tells step) o) (InOrder HasTaken)) c place block
      → PlaceAt (λ c stream had. IsPartOf begins step (work_of o) stream had) c place block
  at_place c (Some (Some stream)) (Some had) is = part_of c stream had is
  at_place c (Some (Some stream)) None is = absurd is
  at_place c (Some None) (Some had) is = absurd is
  at_place c (Some None) None is = tt
  at_place c None (Some had) is = absurd is
  at_place c None None is = tt

  -- what was seen is of parts that stand for the history
  pub is_seen_of : {A : Type 0} (Says : List (Option (Stream T S)) → A → Type 0) (at : Setting) (H : List Element) (parts : List (Option (Stream T S))) (seen : A) → Legal at H
      → PlacesStand (OwnPart (IsStreamOf IsFirst (Tells step) o) (InOrder HasTaken)) parts (peri at H) → Says parts seen → IsSeenOf begins step (work_of o) Says at H seen
  is_seen_of Says at H parts seen legal stand says =
      record { legal = legal; parts = parts; stand = λ c. at_place c (slice_get parts c) (peri at H c) (stand c); says = says }
