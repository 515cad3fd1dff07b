-- What a pass that has seen nothing knows of places where nobody is.
use Rattle.std.proofs.Common.{◌≡◌, ℕ, zero, suc, ◌+◌, ◌%◌, ◌<◌, inl, inr, Some, List, [], ◌∷◌, length, replicate, slice_get, slice_index_or, refl, ap, sym, ◌∙◌, subst, arith, Global}
use Rattle.std.proofs.lemmas.Bool.{cases_eq}
use Rattle.std.proofs.lemmas.Option.{slice_get_within}
use Rattle.rtrb.specs.declared.AnyItems.{AnyItems}
use Rattle.rtrb.specs.declared.consumer.Consumer.{Consumer}
use Rattle.rtrb.specs.Ring.{IsPair}
use Rattle.atomic_table.specs.Seated.{TableId}
use Rattle.turn_gate.specs.Passes.{AreFresh, IsPassOf, number, seen}
use Rattle.turn_gate.specs.declared.pass.Pass.{Pass}
use Rattle.perimeter_core.specs.History.{Element, Limits, Setting, ask_quota, feed_quota}
use Rattle.squeue_state.specs.Naming.{Named, setting_of}
use Rattle.histories.specs.Elements.{number_of}
use Rattle.squeue_streams.specs.declared.streams.Stream.{Stream}
use Rattle.squeue_streams.specs.Taking.{input_of, most_leaves}
use Rattle.squeue_streams.proofs.Items.{stream_new}
use Rattle.stream_stays.specs.declared.place.Place.{Place}
use Rattle.stream_stays.specs.declared.place.Stays.{Stays}
use Rattle.stream_stays.specs.Staying.{IsOfRing}
use Rattle.stream_stays.specs.Places.{Knows}
use Rattle.stream_stays.specs.Beginning.{AreNew, IsNewVacant, IsNewPlace as IsFirstPlace}
use Rattle.stream_stays.proofs.Fresh.{new_passes_know_of}
use Rattle.squeue_arrivals.specs.declared.steps.Keyed.{Keyed}
use Rattle.squeue_arrivals.specs.Keyed.{IsFirst, first_of}
use Rattle.squeue_arrivals.specs.Seating.{AreNewStays, IsNewPlace, ServesPlaces, looker_life, one_life}
use Rattle.squeue_arrivals.proofs.Seated.{front_is, lives_long}

-- a fresh pass, by its place
pub fresh_at : {E : Type 0} (num : E → ℕ) (id : TableId) (n : ℕ) (ps : List (Pass E)) (k : ℕ) (x : Pass E) → AreFresh num id n ps → slice_get ps k ≡ Some x → IsPassOf num id x × (number x ≡ n + k) × (seen x ≡ [])
fresh_at num id n [] k x f is = cc is
fresh_at num id n (p ∷ ps) zero x f is = let same : p ≡ x = cc is in subst (λ x. IsPassOf num id x × (number x ≡ n + 0) × (seen x ≡ [])) same (f.0.0, (let e : number p ≡ n = f.0.1 in omega (arith, e)), f.0.2)
fresh_at num id n (p ∷ ps) (suc k) x f is = let r = fresh_at num id (n + 1) ps k x f.1 is in (r.0, (let e : number x ≡ (n + 1) + k = r.1 in omega (arith, e)), r.2)

module _ {R W T S : Type 0} (step : Keyed W T S → S → T → S → Type 0) (limits : R → Limits) (s : Named R) (o : Keyed W T S) (rings k : ℕ) (serves : ServesPlaces limits s.given rings (length (first_of o))) (p : Pass Element) (is : IsPassOf number_of s.gate p) (number_is : number p ≡ k) (lt : k < rings) (none : seen p ≡ []) where
  abbrev its : Setting
  its = setting_of limits s.given

  quota_is : slice_index_or s.given.quotas (number p) (0, 0) ≡ one_life
  quota_is = ap (λ (qs : List (ℕ × ℕ)). slice_index_or qs (number p) (0, 0)) serves.quotas ∙ front_is rings (number p) one_life (replicate serves.lookers looker_life) (0, 0) (omega (arith, number_is, lt))

  -- whichever end of a ring place c may begin with is the other end of this one
  its_ring : (c : ℕ) (place : Place T S) (new : IsNewPlace (first_of o) c place) → IsOfRing IsFirst o c new.producer
  its_ring c place new = λ input state begun.
      let same : new.part ≡ begun.stream = cc (sym new.its_part ∙ begun.its_number) in
      subst (λ (i : Consumer T Global AnyItems). IsPair new.producer i) begun.its_input (subst (λ (t : Stream T S). IsPair new.producer (input_of t)) same new.new.pair)

  new_is : (c : ℕ) (place : Place T S) → c % rings ≡ k → IsNewPlace (first_of o) c place → IsFirstPlace IsFirst step limits s o p c place
  new_is c place mine new =
      let within : c < length (first_of o) = slice_get_within (first_of o) c new.part new.its_part in
      let at : IsNewVacant IsFirst step limits s o p c (record { producer = new.producer; part = new.part; stream = c; leaves = most_leaves }) = record {
        stream = refl;
        its_ring = number_is ∙ (sym mine ∙ ap (λ (n : ℕ). c % n) (sym serves.its_rings));
        range = omega (arith, within, serves.conns);
        away = serves.away c;
        numbers = serves.feeds c within;
        leaves = omega (arith, serves.leaves c within);
        part = stream_new IsFirst step o c new.part new.new.none new.new.uncounted (record { stream = new.part; its_number = new.its_part; its_input = refl; its_state = refl });
        ring = its_ring c place new;
        empty = new.new.none ∙ sym new.new.unsent;
      } in
      subst (IsFirstPlace IsFirst step limits s o p c) (sym new.place_is) at

  pub knows_first : (stays : Stays T S) → (room : ℕ) → AreNewStays rings k room (first_of o) stays → Knows IsFirst step limits s o p stays
  knows_first stays room are = new_passes_know_of IsFirst step limits s o p stays new
    where
      new : AreNew IsFirst step limits s o p stays
      new =
          let feeds : feed_quota its (number p) ≡ one_life.0 = ap (λ (q : ℕ × ℕ). q.0) quota_is in
          let asks : ask_quota its (number p) ≡ one_life.1 = ap (λ (q : ℕ × ℕ). q.1) quota_is in
          let many = ap length serves.quotas ∙ lives_long rings serves.lookers in
          record {
            pass = is;
            nothing = none;
            no_worker = omega (arith, number_is, lt, many);
            feeds = omega (arith, feeds, are.life.0);
            asks = omega (arith, asks, are.life.1);
            none = are.idle.none;
            each = λ c place at. elim (cases_eq (c % rings) k) [
              | inl mine ↦ new_is c place mine (are.own c place at mine)
              | inr other ↦ subst (IsFirstPlace IsFirst step limits s o p c) (sym (are.others c place at other)) tt
            ];
          }
