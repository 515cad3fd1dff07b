-- Places are dealt to rings.
use Rattle.std.proofs.Common.{◌≡◌, ◌≢◌, ℕ, ◌+◌, ◌*◌, ◌%◌, ◌≤◌, inl, inr, Some, List, [], ◌∷◌, ◌++◌, length, map, slice_get, vec_capacity, ap, sym, ◌∙◌, subst, arith, length-append, append_assoc, append-nil}
use Rattle.std.specs.Prelude.{reverse}
use Rattle.std.proofs.lemmas.List.{map-append, reverse-append, reverse-reverse}
use Rattle.squeue_streams.specs.declared.streams.Stream.{Stream}
use Rattle.stream_stays.specs.declared.place.Place.{Place}
use Rattle.stream_stays.specs.declared.place.Stays.{Stays}
use Rattle.squeue_arrivals.specs.declared.ring.Ring.{Ring}
use Rattle.squeue_arrivals.specs.Seating.{AreNewPlaces, AreNewStays, AreOwnStays}
use Rattle.squeue_arrivals.specs.Placed.{IsWithoutKeys}
use Rattle.squeue_arrivals.specs.Tasks.{AreNewRings, IsNewRing}
use Rattle.squeue_arrivals.proofs.Seated.{get_more}

module _ {T S : Type 0} where
  -- a ring's own of those that are left are its own of all
  own_of_all : (rings ring room : ℕ) (all left : List (Place T S)) (stays : Stays T S) → ((c : ℕ) → ring ≤ c % rings → slice_get left c ≡ slice_get all c) → length left ≡ length all → AreOwnStays rings ring room left stays → AreOwnStays rings ring room all stays
  own_of_all rings ring room all left stays same count is =
      record {
        own = record {
          many = is.own.many ∙ count;
          here = λ c place at mine. sym (same c (omega (arith, mine))) ∙ is.own.here c place at mine;
          others = is.own.others;
        };
        life = is.life;
        idle = is.idle;
      }

  -- and where all are new, so are its own
  new_of_own : (rings ring room : ℕ) (parts : List (Stream T S)) (all : List (Place T S)) (stays : Stays T S) → AreNewPlaces parts all → AreOwnStays rings ring room all stays → AreNewStays rings ring room parts stays
  new_of_own rings ring room parts all stays new is =
      record {
        count = is.own.many ∙ new.many;
        own = λ c place at mine. new.each c place (is.own.here c place at mine);
        others = is.own.others;
        life = is.life;
        idle = is.idle;
      }

module _ {T S A : Type 0} (rings most room : ℕ) where
  -- a ring has its own of these places, and no keys, and room for its parts
  abbrev pub HasOwn : ℕ → List (Place T S) → Ring T S A → Type 0
  HasOwn k all r = AreOwnStays rings k room all r.stays × IsWithoutKeys rings k most r.keys × (r.room.items ≡ []) × (most ≤ vec_capacity r.room)

  -- the first so many rings have their places, and the others' places and sources are left
  pub record IsDealt (n : ℕ) (all left : List (Place T S)) (first sources : List A) (made : List (Ring T S A)) : Type 0 where
    pub many : length made ≡ n
    pub sources_are : first ≡ map (λ r. r.source) made ++ reverse sources
    pub each : (k : ℕ) (r : Ring T S A) → slice_get made k ≡ Some r → HasOwn k all r
    pub left_of : (c : ℕ) → n ≤ c % rings → slice_get left c ≡ slice_get all c
    pub count : length left ≡ length all

  no_ring : (k : ℕ) (r : Ring T S A) → slice_get {X = Ring T S A} [] k ≡ Some r → ⊥
  no_ring k r is = cc is

  pub none_dealt : (all left : List (Place T S)) (first sources : List A) (made : List (Ring T S A)) → left ≡ all → sources ≡ reverse first → made ≡ [] → IsDealt 0 all left first sources made
  none_dealt all left first sources made same turned none =
      record {
        many = ap length none;
        sources_are = sym (ap (λ (m : List (Ring T S A)). map (λ r. r.source) m ++ reverse sources) none ∙ (ap reverse turned ∙ reverse-reverse first));
        each = λ k r at. absurd (no_ring k r (ap (λ (l : List (Ring T S A)). slice_get l k) (sym none) ∙ at));
        left_of = λ c le. ap (λ (l : List (Place T S)). slice_get l c) same;
        count = ap length same;
      }

  pub one_dealt : (n : ℕ) (all left next : List (Place T S)) (first sources more : List A) (made news : List (Ring T S A)) (e : A) (r : Ring T S A) → IsDealt n all left first sources made
      → sources ≡ more ++ e ∷ [] → r.source ≡ e → news ≡ made ++ r ∷ [] → HasOwn n left r → ((c : ℕ) → c % rings ≢ n → slice_get next c ≡ slice_get left c) → length next ≡ length left
      → IsDealt (n + 1) all next first more news
  one_dealt n all left next first sources more made news e r was split its_sources is own others count =
      record {
        many = ap length is ∙ (length-append made (r ∷ []) ∙ ap (λ (m : ℕ). m + 1) was.many);
        sources_are =
            was.sources_are ∙ (ap (λ (l : List A). map (λ r. r.source) made ++ l) (ap reverse split ∙ reverse-append more (e ∷ [])) ∙ (sym (append_assoc (map (λ r. r.source) made) (e ∷ []) (reverse more))
            ∙ ap (λ (l : List A). l ++ reverse more) (sym (ap (map (λ (r : Ring T S A). r.source)) is ∙ (map-append (λ (r : Ring T S A). r.source) made (r ∷ []) ∙ ap (λ (x : A). map (λ (r : Ring T S A). r.source) made ++ x ∷ []) its_sources)))));
        each = λ k x at. elim (get_more made r x k (ap (λ (l : List (Ring T S A)). slice_get l k) (sym is) ∙ at)) [
          | inl there ↦ was.each k x there
          | inr last ↦
              let here : n ≡ k = sym was.many ∙ sym last.0 in
              subst (λ (j : ℕ). HasOwn j all x) here (subst (λ (y : Ring T S A). HasOwn n all y) last.1 (own_of_all rings n room all left r.stays was.left_of was.count own.0, own.1, own.2, own.3))
        ];
        left_of = λ c le. others c (λ e. absurd (omega (arith, e, le))) ∙ was.left_of c (omega (arith, le));
        count = count ∙ was.count;
      }

  -- all rings have their places
  pub all_dealt : (n : ℕ) (all left : List (Place T S)) (first sources : List A) (made : List (Ring T S A)) (parts : List (Stream T S)) → IsDealt n all left first sources made → sources ≡ [] → rings ≡ length first → AreNewPlaces parts all
      → length parts ≡ rings * most → AreNewRings most room parts first made
  all_dealt n all left first sources made parts is none counted new many =
      record {
        sources_are = sym (is.sources_are ∙ (ap (λ (l : List A). map (λ r. r.source) made ++ reverse l) none ∙ append-nil (map (λ r. r.source) made)));
        each = λ k r at.
            (let own = is.each k r at in
            subst (λ (m : ℕ). IsNewRing m most room parts k r) counted (record { stays = new_of_own rings k room parts all r.stays new own.0; count = many; keys = own.1; parts_room = (own.2, own.3) }));
      }
