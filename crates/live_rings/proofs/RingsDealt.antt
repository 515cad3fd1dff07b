-- Places are dealt to rings.
use Rattle.std.proofs.Common.{◌≡◌, ◌≢◌, ℕ, ◌+◌, ◌%◌, ◌≤◌, inl, inr, Some, List, [], ◌∷◌, ◌++◌, length, map, slice_get, ap, sym, ◌∙◌, subst, arith, length-append, append_assoc, append-nil}
use Rattle.std.specs.Prelude.{reverse}
use Rattle.std.proofs.lemmas.List.{map-append, reverse-append, reverse-reverse}
use Rattle.squeue_streams.specs.declared.streams.Stream.{Stream}
use Rattle.stream_stays.specs.declared.place.Place.{Place}
use Rattle.stream_stays.specs.declared.place.Stays.{Stays}
use Rattle.live_chats.specs.Hearing.{ChatOf}
use Rattle.live_chats.specs.declared.item.ChatItem.{ChatItem}
use Rattle.live_rings.specs.declared.ending.Ends.{Ends}
use Rattle.live_rings.specs.declared.ring.RingThread.{RingThread}
use Rattle.live_rings.specs.Seating.{AreNewPlaces, AreNewStays, AreOwnStays, IsIdle, numbers_of}
use Rattle.live_rings.specs.Tasks.{AreNewRings}
use Rattle.live_rings.proofs.Seated.{get_more}

-- a ring's own of those that are left are its own of all
own_of_all : (rings ring : ℕ) (all left : List (Place ChatItem ChatOf)) (stays : Stays ChatItem ChatOf) → ((c : ℕ) → ring ≤ c % rings → slice_get left c ≡ slice_get all c) → length left ≡ length all → AreOwnStays rings ring left stays → AreOwnStays rings ring all stays
own_of_all rings ring all left stays same count is =
    record {
      own = record {
        many = is.own.many ∙ count;
        here = λ c place at mine. sym (same c (omega (arith, mine))) ∙ is.own.here c place at mine;
        others = is.own.others;
      };
      life = is.life;
      idle = subst (λ (n : ℕ). IsIdle rings n stays) count is.idle;
    }

-- and where all are new, so are its own
new_of_own : (rings ring : ℕ) (parts : List (Stream ChatItem ChatOf)) (all : List (Place ChatItem ChatOf)) (stays : Stays ChatItem ChatOf) → AreNewPlaces parts all → AreOwnStays rings ring all stays → AreNewStays rings ring parts stays
new_of_own rings ring parts all stays new is =
    record {
      count = is.own.many ∙ new.many;
      own = λ c place at mine. new.each c place (is.own.here c place at mine);
      others = is.own.others;
      life = is.life;
      idle = subst (λ (n : ℕ). IsIdle rings n stays) new.many is.idle;
    }

module _ {S K : Type 0} where
  -- the first so many rings have their places, and the others' places and ends are left
  pub record IsDealt (rings places n : ℕ) (all left : List (Place ChatItem ChatOf)) (first ends : List (Ends S K)) (made : List (RingThread S K)) : Type 0 where
    pub many : length made ≡ n
    pub ends_are : first ≡ map (λ r. r.ends) made ++ reverse ends
    pub each : (k : ℕ) (r : RingThread S K) → slice_get made k ≡ Some r → AreOwnStays rings k all r.stays × (r.free.items ≡ numbers_of rings k places)
    pub left_of : (c : ℕ) → n ≤ c % rings → slice_get left c ≡ slice_get all c
    pub count : length left ≡ length all

  no_ring : (k : ℕ) (r : RingThread S K) → slice_get {X = RingThread S K} [] k ≡ Some r → ⊥
  no_ring k r is = cc is

  pub none_dealt : (rings places : ℕ) (all left : List (Place ChatItem ChatOf)) (first ends : List (Ends S K)) (made : List (RingThread S K)) → left ≡ all → ends ≡ reverse first → made ≡ [] → IsDealt rings places 0 all left first ends made
  none_dealt rings places all left first ends made same turned none =
      record {
        many = ap length none;
        ends_are = sym (ap (λ (m : List (RingThread S K)). map (λ r. r.ends) m ++ reverse ends) none ∙ (ap reverse turned ∙ reverse-reverse first));
        each = λ k r at. absurd (no_ring k r (ap (λ (l : List (RingThread S K)). slice_get l k) (sym none) ∙ at));
        left_of = λ c le. ap (λ (l : List (Place ChatItem ChatOf)). slice_get l c) same;
        count = ap length same;
      }

  pub one_dealt : (rings places n : ℕ) (all left next : List (Place ChatItem ChatOf)) (first ends more : List (Ends S K)) (made news : List (RingThread S K)) (e : Ends S K) (r : RingThread S K) → IsDealt rings places n all left first ends made
      → ends ≡ more ++ e ∷ [] → r.ends ≡ e → news ≡ made ++ r ∷ [] → AreOwnStays rings n left r.stays → r.free.items ≡ numbers_of rings n places → ((c : ℕ) → c % rings ≢ n → slice_get next c ≡ slice_get left c) → length next ≡ length left
      → IsDealt rings places (n + 1) all next first more news
  one_dealt rings places n all left next first ends more made news e r was split its_ends is own free others count =
      record {
        many = ap length is ∙ (length-append made (r ∷ []) ∙ ap (λ (m : ℕ). m + 1) was.many);
        ends_are =
            was.ends_are ∙ (ap (λ (l : List (Ends S K)). map (λ r. r.ends) made ++ l) (ap reverse split ∙ reverse-append more (e ∷ [])) ∙ (sym (append_assoc (map (λ r. r.ends) made) (e ∷ []) (reverse more))
            ∙ ap (λ (l : List (Ends S K)). l ++ reverse more) (sym (ap (map (λ (r : RingThread S K). r.ends)) is ∙ (map-append (λ (r : RingThread S K). r.ends) made (r ∷ []) ∙ ap (λ (x : Ends S K). map (λ (r : RingThread S K). r.ends) made ++ x ∷ []) its_ends)))));
        each = λ k x at. elim (get_more made r x k (ap (λ (l : List (RingThread S K)). slice_get l k) (sym is) ∙ at)) [
          | inl there ↦ was.each k x there
          | inr last ↦
              let here : n ≡ k = sym was.many ∙ sym last.0 in
              subst (λ (j : ℕ). AreOwnStays rings j all x.stays × (x.free.items ≡ numbers_of rings j places)) here
              (subst (λ (y : RingThread S K). AreOwnStays rings n all y.stays × (y.free.items ≡ numbers_of rings n places)) last.1 (own_of_all rings n all left r.stays was.left_of was.count own, free))
        ];
        left_of = λ c le. others c (λ e. absurd (omega (arith, e, le))) ∙ was.left_of c (omega (arith, le));
        count = count ∙ was.count;
      }

  -- all rings have their places
  pub all_dealt : (rings places n : ℕ) (all left : List (Place ChatItem ChatOf)) (first ends : List (Ends S K)) (made : List (RingThread S K)) (parts : List (Stream ChatItem ChatOf)) → IsDealt rings places n all left first ends made → ends ≡ [] → rings ≡ length first → AreNewPlaces parts all
      → AreNewRings places parts first made
  all_dealt rings places n all left first ends made parts is none counted new =
      record {
        ends_are = sym (is.ends_are ∙ (ap (λ (l : List (Ends S K)). map (λ r. r.ends) made ++ reverse l) none ∙ append-nil (map (λ r. r.ends) made)));
        each = λ k r at.
            let own = is.each k r at in
            subst (λ (m : ℕ). AreNewStays m k parts r.stays × (r.free.items ≡ numbers_of m k places)) counted (new_of_own rings k parts all r.stays new own.0, own.1);
      }
