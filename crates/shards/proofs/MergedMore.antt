-- One parcel more at a squeue.
use Rattle.std.proofs.Common.{◌≡◌, ◌≢◌, ℕ, zero, suc, ◌<◌, ◌==◌, Bool, true, false, Some, List, [], ◌∷◌, ◌++◌, length, map, slice_get, slice_set, refl, ap, sym, ◌∙◌, subst}
use Rattle.std.specs.List.{AllByRecursion}
use Rattle.std.proofs.lemmas.Bool.{eqb-true, eq-eqb}
use Rattle.std.proofs.lemmas.List.{length-set, map-append}
use Rattle.std.proofs.lemmas.Option.{slice_get_within}
use Rattle.perimeter_core.proofs.ActLists.{get_other, get_same}
use Rattle.rtrb.specs.Ring.{received, sent}
use Rattle.shards.specs.Mixing.{from_ring}
use Rattle.shards.specs.declared.lanes.SqueueEnd.{SqueueEnd}
use Rattle.shards.specs.Merging.{AreUnused, IsLogged, IsUnused, IsMerged, Merges, SameLane, SameLanes, TookOne, came_from, went_to}
use Rattle.shards.proofs.Mixed.{more_other, more_own}

pub some_is : {A : Type 0} {x y : A} → Some x ≡ Some y → x ≡ y
some_is is = cc is

apart_by : (c p : ℕ) → (c == p) ≡ false → c ≢ p
apart_by c p is same = clash (eq-eqb c p same) is
  where
    clash : (c == p) ≡ true → (c == p) ≡ false → ⊥
    clash a b = cc (a, b)

all_more : {A : Type 0} (P : A → Type 0) (xs : List A) (x : A) → AllByRecursion P xs → P x → AllByRecursion P (xs ++ x ∷ [])
all_more P [] x all one = (one, tt)
all_more P (y ∷ ys) x all one = (all.0, all_more P ys x all.1 one)

set_again : {A : Type 0} (xs : List A) (c : ℕ) (x y : A) → slice_set (slice_set xs c x) c y ≡ slice_set xs c y
set_again [] c x y = refl
set_again (z ∷ xs) zero x y = refl
set_again (z ∷ xs) (suc c) x y = ap (λ l. z ∷ l) (set_again xs c x y)

module _ {T : Type 0} where
  unused_at : (ends : List (SqueueEnd T)) (p : ℕ) (end : SqueueEnd T) → AreUnused ends → slice_get ends p ≡ Some end → IsUnused end
  unused_at [] p end all is = absurd (cc is)
  unused_at (e ∷ ends) zero end all is = subst IsUnused (some_is is) all.0
  unused_at (e ∷ ends) (suc p) end all is = unused_at ends p end all.1 is

  came_own : (p : ℕ) (x y : T) (log : List (ℕ × (T × T))) → came_from p (log ++ (p, (x, y)) ∷ []) ≡ came_from p log ++ x ∷ []
  came_own p x y log = ap (map (λ (e : T × T). e.0)) (more_own p (x, y) log) ∙ map-append (λ (e : T × T). e.0) (from_ring p log) ((x, y) ∷ [])

  went_own : (p : ℕ) (x y : T) (log : List (ℕ × (T × T))) → went_to p (log ++ (p, (x, y)) ∷ []) ≡ went_to p log ++ y ∷ []
  went_own p x y log = ap (map (λ (e : T × T). e.1)) (more_own p (x, y) log) ∙ map-append (λ (e : T × T). e.1) (from_ring p log) ((x, y) ∷ [])

  own_logged : (c : ℕ) (x y : T) (log : List (ℕ × (T × T))) (a b : SqueueEnd T) → received b.input ≡ received a.input ++ x ∷ [] → sent b.back ≡ sent a.back ++ y ∷ []
      → IsLogged log c a → IsLogged (log ++ (c, (x, y)) ∷ []) c b
  own_logged c x y log a b popped pushed is =
      record {
        came = popped ∙ (ap (λ (l : List T). l ++ x ∷ []) is.came ∙ sym (came_own c x y log));
        went = pushed ∙ (ap (λ (l : List T). l ++ y ∷ []) is.went ∙ sym (went_own c x y log));
      }

  other_logged : (c p : ℕ) (e : T × T) (log : List (ℕ × (T × T))) (end : SqueueEnd T) → c ≢ p → IsLogged log p end → IsLogged (log ++ (c, e) ∷ []) p end
  other_logged c p e log end apart is =
      record {
        came = is.came ∙ sym (ap (map (λ (e : T × T). e.0)) (more_other c p e log apart));
        went = is.went ∙ sym (ap (map (λ (e : T × T). e.1)) (more_other c p e log apart));
      }

  module _ {S : Type 0} (IsMade : List (ℕ × (T × T)) → S → Type 0) where
    -- a ring's next parcel was taken
    pub merged_more : (ends : List (SqueueEnd T)) (c : ℕ) (a b : SqueueEnd T) (from to : S) → slice_get ends c ≡ Some a → TookOne IsMade c a b from to
        → IsMerged IsMade ends from → IsMerged IsMade (slice_set ends c b) to
    merged_more ends c a b from to at took m =
        record {
          log = m.log ++ (c, (took.came, took.went)) ∷ [];
          each = each;
          only = subst (λ (n : ℕ). AllByRecursion (λ (e : ℕ × (T × T)). e.0 < n) (m.log ++ (c, (took.came, took.went)) ∷ [])) (sym (length-set ends c b))
              (all_more (λ (e : ℕ × (T × T)). e.0 < length ends) m.log (c, (took.came, took.went)) m.only lt);
          made = took.taken m.log m.made;
        }
      where
        lt : c < length ends
        lt = slice_get_within ends c a at

        each : (p : ℕ) (end : SqueueEnd T) → slice_get (slice_set ends c b) p ≡ Some end → IsLogged (m.log ++ (c, (took.came, took.went)) ∷ []) p end
        each p end is = go (c == p) refl
          where
            go : (d : Bool) → (c == p) ≡ d → IsLogged (m.log ++ (c, (took.came, took.went)) ∷ []) p end
            go true same =
                let here : c ≡ p = eqb-true c p same in
                let new : end ≡ b = some_is (sym is ∙ (ap (slice_get (slice_set ends c b)) (sym here) ∙ get_same ends c b lt)) in
                subst (λ (n : ℕ). IsLogged (m.log ++ (c, (took.came, took.went)) ∷ []) n end) here
                (subst (IsLogged (m.log ++ (c, (took.came, took.went)) ∷ []) c) (sym new)
                (own_logged c took.came took.went m.log a b took.popped took.pushed (m.each c a at)))
            go false other =
                let apart : c ≢ p = apart_by c p other in
                other_logged c p (took.came, took.went) m.log end apart (m.each p end (sym (get_other ends c p b apart) ∙ is))

    pub merges_one : (c : ℕ) (a b : SqueueEnd T) (from to : S) → TookOne IsMade c a b from to → Merges IsMade c a b from to
    merges_one c a b from to took ends at m = merged_more ends c a b from to at took m

    -- its ends looked
    pub merges_same : (c : ℕ) (a b : SqueueEnd T) (s : S) → received b.input ≡ received a.input → sent b.back ≡ sent a.back → Merges IsMade c a b s s
    merges_same c a b s popped pushed ends at m =
        record {
          log = m.log;
          each = each;
          only = subst (λ (n : ℕ). AllByRecursion (λ (e : ℕ × (T × T)). e.0 < n) m.log) (sym (length-set ends c b)) m.only;
          made = m.made;
        }
      where
        each : (p : ℕ) (end : SqueueEnd T) → slice_get (slice_set ends c b) p ≡ Some end → IsLogged m.log p end
        each p end is = go (c == p) refl
          where
            go : (d : Bool) → (c == p) ≡ d → IsLogged m.log p end
            go true same =
                let here : c ≡ p = eqb-true c p same in
                let new : end ≡ b = some_is (sym is ∙ (ap (slice_get (slice_set ends c b)) (sym here) ∙ get_same ends c b (slice_get_within ends c a at))) in
                let was = m.each c a at in
                subst (λ (n : ℕ). IsLogged m.log n end) here
                (subst (IsLogged m.log c) (sym new) (record { came = popped ∙ was.came; went = pushed ∙ was.went }))
            go false other = m.each p end (sym (get_other ends c p b (apart_by c p other)) ∙ is)

    pub merges_then : (c : ℕ) (a b d : SqueueEnd T) (r s t : S) → Merges IsMade c a b r s → Merges IsMade c b d s t → Merges IsMade c a d r t
    merges_then c a b d r s t x y ends at m =
        subst (λ (l : List (SqueueEnd T)). IsMerged IsMade l t) (set_again ends c b d)
        (y (slice_set ends c b) (get_same ends c b (slice_get_within ends c a at)) (x ends at m))

    -- nothing came yet
    pub merged_none : (ends : List (SqueueEnd T)) (s : S) → AreUnused ends → IsMade [] s → IsMerged IsMade ends s
    merged_none ends s unused made =
        record {
          log = [];
          each = λ p end is. let each = unused_at ends p end unused is in record { came = each.0; went = each.1 };
          only = tt;
          made = made;
        }

  pub joined : (x a b : SqueueEnd T) → SameLane x a → SameLane a b → SameLane x b
  joined x a b ((i, j), (k, l)) ((m, n), (o, q)) =
      (((m.0 ∙ i.0, m.1 ∙ i.1, m.2 ∙ i.2, m.3 ∙ i.3), n ∙ j), ((o.0 ∙ k.0, o.1 ∙ k.1, o.2 ∙ k.2, o.3 ∙ k.3), q ∙ l))

  -- its end is of the same lane as before, and so are all
  pub same_more : (first ends : List (SqueueEnd T)) (c : ℕ) (a b : SqueueEnd T) → slice_get ends c ≡ Some a → SameLane a b → SameLanes first ends
      → SameLanes first (slice_set ends c b)
  same_more first ends c a b at lane same = (same.0 ∙ sym (length-set ends c b), each)
    where
      each : (p : ℕ) (x y : SqueueEnd T) → slice_get first p ≡ Some x → slice_get (slice_set ends c b) p ≡ Some y → SameLane x y
      each p x y its is = go (c == p) refl
        where
          go : (d : Bool) → (c == p) ≡ d → SameLane x y
          go true eq =
              let here : c ≡ p = eqb-true c p eq in
              let new : y ≡ b = some_is (sym is ∙ (ap (slice_get (slice_set ends c b)) (sym here) ∙ get_same ends c b (slice_get_within ends c a at))) in
              let was : SameLane x a = same.1 p x a its (ap (slice_get ends) (sym here) ∙ at) in
              subst (λ (q : SqueueEnd T). SameLane x q) (sym new) (joined x a b was lane)
          go false other = same.1 p x y its (sym (get_other ends c p b (apart_by c p other)) ∙ is)

  pub same_first : (ends : List (SqueueEnd T)) → SameLanes ends ends
  same_first ends = (refl, λ p a b x y. subst (λ (q : SqueueEnd T). SameLane a q) (some_is (sym x ∙ y)) (((refl, refl, refl, refl), refl), ((refl, refl, refl, refl), refl)))
