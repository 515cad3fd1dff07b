-- How the places of keys are closed, one after another, and what is at them then.
use Rattle.std.proofs.Common.{◌≡◌, ◌≢◌, ℕ, ◌+◌, ◌<◌, ◌≤◌, inl, inr, Some, List, [], length, slice_get, ap, sym, ◌∙◌, subst, arith}
use Rattle.std.specs.Prelude.{All, slice_index}
use Rattle.std.proofs.lemmas.Bool.{cases_eq}
use Rattle.std.proofs.lemmas.Option.{get_or_from_slice_get, slice_get_within}
use Rattle.turn_gate.specs.History.{Begins}
use Rattle.turn_gate.specs.Passes.{number, seen}
use Rattle.turn_gate.specs.declared.pass.Pass.{Pass}
use Rattle.perimeter_core.specs.declared.marks.SynchAct.TheVariants as Done
use Rattle.perimeter_core.specs.Deeds.{acts, fed, times_left}
use Rattle.perimeter_core.specs.History.{Element, Limits}
use Rattle.squeue_state.specs.Naming.{Named, setting_of}
use Rattle.conn_migrate.specs.Moving.{Moved}
use Rattle.squeue_streams.specs.declared.streams.Stream.{Stream}
use Rattle.squeue_streams.specs.Taking.{Takes, items_of, state_of}
use Rattle.stream_stays.specs.declared.place.Place.TheVariants.{Open, Vacant as Vacant'}
use Rattle.stream_stays.specs.declared.place.Stays.{Stays}
use Rattle.stream_stays.specs.declared.stay.Stay.{Stay}
use Rattle.stream_stays.specs.declared.stay.Vacant.{Vacant}
use Rattle.stream_stays.specs.Places.{Knows, SameElsewhere, place_at}
use Rattle.stream_stays.specs.Settling.{sent_in}
use Rattle.stream_stays.specs.Staying.{leaves_of, pushed_of}
use Rattle.squeue_arrivals.specs.Arriving.{IsMadeOf, items_for}
use Rattle.squeue_arrivals.specs.Keyed.{AreBegun, IsFirst, Tells, first_of, work_of}
use Rattle.squeue_arrivals.specs.Keeping.{AreClosed, HasKeys, Keeps, Serves}
use Rattle.squeue_arrivals.specs.Placed.{keys_in, place_of}
use Rattle.squeue_arrivals.specs.Stayed.{WasFed}
use Rattle.squeue_arrivals.specs.declared.ring_keys.RingKeys.{RingKeys}
use Rattle.squeue_arrivals.specs.declared.steps.Keyed.{Keyed}
use Rattle.squeue_arrivals.proofs.KeysKept.{keys_kept, place_apart}
use Rattle.squeue_arrivals.proofs.PlacesKept.{LeavesFew, but_elsewhere, fed_all, fed_still, sent_there, serves_on}

module _ {R T : Type 0} (limits : R → Limits) (s : Named R) (all : List (ℕ × T)) where
  -- in what the pass has seen the stays of this part had a feed for each item of the key
  abbrev pub Stayed : Pass Element → ℕ → ℕ → Type 0
  Stayed p c key = WasFed (setting_of limits s.given) (number p) c (length (items_for key all)) (seen p)

  module _ {S : Type 0} where
    -- the part lies at the place, and as often as it may leave no more it left
    pub record Lies (p : Pass Element) (st : Stays T S) (c : ℕ) : Type 0 where
      pub vacant : Vacant T S
      pub is_vacant : place_at st c ≡ Some (Vacant' vacant)
      pub left : slice_index (limits s.given.first).leaves c ≤ times_left c (seen p) + vacant.leaves

    -- the part of the place serves the key
    abbrev pub ServesKey : Pass Element → Stays T S → ℕ → ℕ → Type 0
    ServesKey p st c key = Serves (setting_of limits s.given) p st c (items_for key all) (length (items_for key all))

    -- the places of the first so many keys are closed, and those of the others are open
    pub record IsClosing (n : ℕ) (p : Pass Element) (st : Stays T S) (k : RingKeys) : Type 0 where
      pub closed : (j key : ℕ) → j < n → slice_get (keys_in k) j ≡ Some key
          → Lies p st (place_of k j) × (sent_in (place_at st (place_of k j)) ≡ items_for key all) × Stayed p (place_of k j) key
      pub opens : (j key : ℕ) → n ≤ j → slice_get (keys_in k) j ≡ Some key → ServesKey p st (place_of k j) key

    -- one place more is closed
    pub closing_more : (n c : ℕ) (p q : Pass Element) (a b : Stays T S) (k : RingKeys) (stay : Stay T) (v : Vacant T S) → IsClosing n p a k → c ≡ place_of k n → SameElsewhere c a b → place_at b c ≡ Some (Vacant' v) → leaves_of stay ≡ v.leaves + 1
        → LeavesFew (setting_of limits s.given) q b → sent_in (place_at b c) ≡ sent_in (place_at a c) → place_at a c ≡ Some (Open stay) → Moved limits s (Done.Out c) [] p q
        → fed (acts (setting_of limits s.given) (seen q) c) ≡ pushed_of stay → number q ≡ number p → IsClosing (n + 1) q b k
    closing_more n c p q a b k stay v was here same lies one_less few sent at moved feeds number_is =
        let others = but_elsewhere c a b same in
        let grows = moved.goes_on.grows in
        record {
          closed = λ j key lt got. elim (cases_eq j n) [
            | inl last ↦
                let le : n ≤ j = omega (arith, last) in
                let place : place_of k j ≡ c = ap (place_of k) last ∙ sym here in
                let open_here = subst (λ (d : ℕ). ServesKey p a d key) place (was.opens j key le got) in
                let many = length (items_for key all) in
                let items = sent_there (setting_of limits s.given) p a c many (items_for key all) open_here in
                let now = fed_all limits s p q a b c many (items_for key all) stay v open_here at lies one_less few moved feeds number_is in
                subst (λ (d : ℕ). Lies q b d × (sent_in (place_at b d) ≡ items_for key all) × Stayed q d key) (sym place)
                (record { vacant = v; is_vacant = lies; left = now.1 }, sent ∙ items, now.0)
            | inr apart ↦
                let h = was.closed j key (omega (arith, lt, apart)) got in
                let many = length (items_for key all) in
                let is = same.others (place_of k j) (subst (λ (d : ℕ). place_of k j ≢ d) (sym here) (place_apart k j n apart)) in
                let now = fed_still (setting_of limits s.given) p q b (place_of k j) many h.0.vacant number_is grows (is ∙ h.0.is_vacant) few h.0.left h.2 in (
                  record { vacant = h.0.vacant; is_vacant = is ∙ h.0.is_vacant; left = now.1 },
                  ap sent_in is ∙ h.1,
                  now.0,
                )
          ];
          opens = λ j key le got.
              let h = was.opens j key (omega (arith, le)) got in
              let apart = subst (λ (d : ℕ). place_of k j ≢ d) (sym here) (place_apart k j n (λ e. absurd (omega (arith, e, le)))) in
              let many = length (items_for key all) in
              serves_on (setting_of limits s.given) p q a b (place_of k j) many many (items_for key all) number_is grows (others (place_of k j) apart) (let le : many ≤ many = omega arith in le) few h;
        }

module _ {R W T S : Type 0} (step : Keyed W T S → S → T → S → Type 0) (limits : R → Limits) (s : Named R) (o : Keyed W T S) (all : List (ℕ × T)) where
  pub closing_first : (p q : Pass Element) (a b : Stays T S) (k : RingKeys) → HasKeys step limits s o all p a k → Knows IsFirst step limits s o q b → number q ≡ number p → Begins (seen p) (seen q) → Keeps a b
      → IsClosing limits s all 0 q b k
  closing_first p q a b k has knows same grows keeps =
      record {
        closed = λ j key lt at. absurd (omega (arith, lt));
        opens = λ j key le at. (keys_kept step limits s o all p q a b k has knows same grows keeps).at j key at;
      }

  pub all_closed : (n : ℕ) (p : Pass Element) (st : Stays T S) (k : RingKeys) → IsClosing limits s all n p st k → n ≡ length (keys_in k) → Knows IsFirst step limits s o p st → AreClosed step limits s o all p st k
  all_closed n p st k is whole knows =
      record {
        knows = knows;
        at = λ j key at. (let lt = slice_get_within (keys_in k) j key at in let h = is.closed j key (omega (arith, lt, whole)) at in ((h.0.vacant, h.0.is_vacant), h.1, h.2));
      }

-- what is so of all is so of each
pub each_of : {A : Type 0} (P : A → Type 0) (xs : List A) (i : ℕ) (x : A) → All P xs → slice_get xs i ≡ Some x → P x
each_of P xs i x all at = subst P (get_or_from_slice_get xs i x x at) (all i x (slice_get_within xs i x at))

module _ {R W T S : Type 0} (begins : W → S → Type 0) (step : W → S → T → S → Type 0) (limits : R → Limits) (s : Named R) (o : Keyed W T S) (all : List (ℕ × T)) where
  -- the part of a closed place is made of all items of its key
  pub made_of : (p : Pass Element) (st : Stays T S) (k : RingKeys) (i key : ℕ) (v : Vacant T S) → AreBegun begins o → AreClosed (Tells step) limits s o all p st k → slice_get (keys_in k) i ≡ Some key
      → place_at st (place_of k i) ≡ Some (Vacant' v) → IsMadeOf begins step (work_of o) (items_for key all) (state_of v.part)
  made_of p st k i key v begun closed at there =
      let known = closed.knows.each (place_of k i) (Vacant' v) there in
      let first = known.part.begun in
      let items : items_of v.part ≡ items_for key all = known.empty ∙ (sym (ap sent_in there) ∙ (closed.at i key at).1) in
      record {
        first = known.part.first;
        begun = subst (begins (work_of o)) first.its_state (each_of (λ (t : Stream T S). begins (work_of o) (state_of t)) (first_of o) v.stream first.stream begun first.its_number);
        taken = subst (λ (xs : List T). Takes (step (work_of o)) known.part.first xs (state_of v.part)) items known.part.taken;
      }
