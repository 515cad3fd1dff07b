-- A new ring may serve by a pass that has seen nothing.
use Rattle.std.proofs.Common.{◌≡◌, ℕ, ◌+◌, ◌*◌, ◌%◌, ◌<◌, ◌≤◌, Some, List, [], ◌∷◌, length, slice_get, refl, ap, sym, ◌∙◌, subst, arith}
use Rattle.std.proofs.Math.Nat.{add-mul-mod_self_right, mul-le-mul_right}
use Rattle.std.proofs.lemmas.Nat.{mod-mul-add}
use Rattle.histories.proofs.ListPlaces.{some_at}
use Rattle.turn_gate.specs.Passes.{IsPassOf, number, seen}
use Rattle.turn_gate.specs.declared.pass.Pass.{Pass}
use Rattle.perimeter_core.specs.History.{Element}
use Rattle.placed_parts.specs.declared.parts.Parts.{Ghosts}
use Rattle.placed_parts.specs.declared.places.Places.{Places}
use Rattle.placed_parts.specs.Placing.{limits_of, origin_of}
use Rattle.squeue_state.specs.Naming.{Named, setting_of}
use Rattle.histories.specs.Elements.{number_of}
use Rattle.squeue_streams.specs.Taking.{most_leaves}
use Rattle.stream_stays.specs.Places.{places_of}
use Rattle.squeue_arrivals.specs.Keyed.{first_of}
use Rattle.squeue_arrivals.specs.Keeping.{IsUnused}
use Rattle.squeue_arrivals.specs.Placed.{keys_in, place_of}
use Rattle.squeue_arrivals.specs.Seating.{ServesPlaces, room_of}
use Rattle.squeue_arrivals.specs.Tasks.{IsNewRing, MayServe}
use Rattle.squeue_arrivals.specs.declared.ring.Ring.{Ring}
use Rattle.squeue_arrivals.specs.declared.steps.Keyed.{Keyed}
use Rattle.squeue_arrivals.proofs.FirstKnown.{knows_first}

no_key : (k i key : ℕ) (ks : List ℕ) → ks ≡ [] → slice_get ks i ≡ Some key → ⊥
no_key k i key [] none at = cc at
no_key k i key (x ∷ ks) none at = cc none

module _ {X P W T S A : Type 0} {G : Ghosts X P (Keyed W T S)} (step : Keyed W T S → S → T → S → Type 0) (s : Named (Places X P (Keyed W T S) G)) (rings most k : ℕ)
    (serves : ServesPlaces limits_of s.given rings (length (first_of (origin_of s.given.first)))) (p : Pass Element) (is : IsPassOf number_of s.gate p) (number_is : number p ≡ k) (lt : k < rings)
    (none : seen p ≡ []) (ring : Ring T S A) (new : IsNewRing rings most (room_of s.given) (first_of (origin_of s.given.first)) k ring) where
  -- each of its places is unused
  free_at : (i : ℕ) → i < most → IsUnused (setting_of limits_of s.given) ring.stays (place_of ring.keys i)
  free_at i less =
      let here : place_of ring.keys i ≡ k + i * rings = rw (new.keys.is_number, new.keys.is_rings) refl in
      let mine : (k + i * rings) % rings ≡ k = add-mul-mod_self_right k i rings ∙ mod-small in
      let le : (i + 1) * rings ≤ most * rings = mul-le-mul_right rings (omega (arith, less)) in
      let within : k + i * rings < length (places_of ring.stays) = omega (arith, le, lt, new.count, new.stays.count) in
      let at = some_at (places_of ring.stays) (k + i * rings) within in
      let place = new.stays.own (k + i * rings) at.0 at.1 mine in
      let is_at = at.1 ∙ ap (λ x. Some x) place.place_is in
      let all = serves.leaves (k + i * rings) (omega (arith, within, new.stays.count)) in
      subst (IsUnused (setting_of limits_of s.given) ring.stays) (sym here)
      (record {
        vacant = record { producer = place.producer; part = place.part; stream = k + i * rings; leaves = most_leaves };
        is_vacant = is_at;
        none = place.new.unsent;
        leaves = (omega arith, omega (arith, all));
      })
    where
      mod-small : k % rings ≡ k
      mod-small = ap (λ (n : ℕ). n % rings) (let e : k ≡ 0 * rings + k = omega arith in e) ∙ mod-mul-add 0 rings k lt

  pub may_serve : MayServe step s most p ring
  may_serve =
      record {
        keys = record {
          knows = knows_first step limits_of s (origin_of s.given.first) rings k serves p is number_is lt none ring.stays (room_of s.given) new.stays;
          table = record {
            few = omega (arith, ap length new.keys.none);
            room = omega (arith, new.keys.room, new.keys.is_most);
            distinct = new.keys.unique;
            every = λ key some. absurd (some refl);
          };
          at = λ i key at. absurd (no_key k i key (keys_in ring.keys) new.keys.none at);
          free = λ i le less. free_at i (omega (arith, less, new.keys.is_most));
        };
        none = new.keys.none;
        is_most = new.keys.is_most;
        its_number = new.keys.is_number ∙ sym number_is;
        its_rings = new.keys.is_rings ∙ sym serves.its_rings;
        asks = omega (arith, new.stays.life.1);
        idle = new.stays.idle;
        room = new.parts_room;
      }
