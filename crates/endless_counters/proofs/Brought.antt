-- What was made of the amounts that a source gave.
use Rattle.std.proofs.Common.{◌≡◌, ◌≢◌, ℕ, zero, suc, ◌%◌, ◌<◌, ◌==◌, Bool, true, false, inl, inr, Option, None, Some, List, [], ◌∷◌, ◌++◌, length, map, slice_get, refl, ap, sym, ◌∙◌, subst, arith, append-nil, length-append}
use Rattle.std.specs.Prelude.{All, Contains}
use Rattle.std.proofs.lemmas.Bool.{cases_eq, eqb-true, eq-eqb}
use Rattle.std.proofs.lemmas.List.{length-map}
use Rattle.ring_groups.specs.Groups.{AllBecame, AllBecameFrom, AllOfGroups}
use Rattle.squeue_arrivals.specs.Arriving.{HasCause, IsServed, items_for, keys_of, refused_in}
use Rattle.squeue_arrivals.specs.declared.served.Cause.{Cause}
use Rattle.squeue_arrivals.specs.declared.served.Cause.TheVariants as Cause'
use Rattle.squeue_arrivals.specs.declared.served.KeyPart.{KeyPart}
use Rattle.squeue_arrivals.specs.declared.served.Refused.{Refused}
use Rattle.squeue_arrivals.specs.declared.served.ServedSource.{ServedSource}
use Rattle.endless_counters.specs.declared.source.Amounts.{Amounts}
use Rattle.endless_counters.specs.declared.totals.Adding.{Adding}
use Rattle.endless_counters.specs.declared.totals.Total.{Total}
use Rattle.endless_counters.specs.Rounds.{HasDone}
use Rattle.endless_counters.specs.Sources.{amounts_by, stint_of}
use Rattle.endless_counters.specs.Serving.{Begins, IsNew, Step, all_given, brought_by, first_total, total_by}
use Rattle.endless_counters.proofs.Sums.{IsTotal, is_total}

-- these have the key 0
abbrev Zeros : List (ℕ × ℕ) → Type 0
Zeros [] = Unit {0}
Zeros (e ∷ es) = (e.0 ≡ 0) × Zeros es

zeros : (xs : List (ℕ × ℕ)) → ((i : ℕ) → i < length xs → (x : ℕ) × (slice_get xs i ≡ Some (0, x))) → Zeros xs
zeros [] each = tt
zeros (x ∷ xs) each =
    let first = each 0 (omega arith) in
    let same : x ≡ (0, first.0) = cc first.1 in
    (ap (λ (e : ℕ × ℕ). e.0) same, zeros xs (λ i lt. each (suc i) (omega (arith, lt))))

zeros_of : (xs ys : List (ℕ × ℕ)) → Zeros (xs ++ ys) → Zeros xs × Zeros ys
zeros_of [] ys z = (tt, z)
zeros_of (x ∷ xs) ys z = let rest = zeros_of xs ys z.1 in ((z.0, rest.0), rest.1)

-- so all of them are of that key, and none is of another one
all_of : (xs : List (ℕ × ℕ)) → Zeros xs → items_for 0 xs ≡ map (λ (e : ℕ × ℕ). e.1) xs
all_of [] z = refl
all_of (x ∷ xs) z = let is : (x.0 == 0) ≡ true = eq-eqb x.0 0 z.0 in rw is (ap (λ (l : List ℕ). x.1 ∷ l) (all_of xs z.1))

none_of : (k : ℕ) (xs : List (ℕ × ℕ)) → Zeros xs → (0 ≡ k → ⊥) → items_for k xs ≡ []
none_of k [] z other = refl
none_of k (x ∷ xs) z other = go (none_of k xs z.1 other) (x.0 == k) refl
  where
    go : items_for k xs ≡ [] → (b : Bool) → (x.0 == k) ≡ b → items_for k (x ∷ xs) ≡ []
    go rest true is = absurd (other (sym z.0 ∙ eqb-true x.0 k is))
    go rest false is = rw is rest

key_is : (k : ℕ) (xs : List (ℕ × ℕ)) → Zeros xs → items_for k xs ≢ [] → k ≡ 0
key_is k xs z some =
    elim (cases_eq k 0) [
      | inl e ↦ e
      | inr n ↦ absurd (some (none_of k xs z (λ e. n (sym e))))
    ]

-- what the source gave has the key 0
given_zeros : {W : Type 0} (s : Amounts W) → Zeros (amounts_by s)
given_zeros s = zeros (amounts_by s) (λ i lt. (i % 1000, s.are.each i (omega (arith, lt, s.are.count))))

abbrev pub Over : {W : Type 0} → Amounts W → Type 0
Over s = HasDone (stint_of s).rounds (amounts_by s)

module _ {W : Type 0} (w : Adding) (least : ℕ) where
  abbrev pub Served : Amounts W → ServedSource (Amounts W) ℕ Total → Type 0
  Served source left = IsServed Begins Step stint_of amounts_by Over w 1 source left

  module _ (source : Amounts W) (left : ServedSource (Amounts W) ℕ Total) (new : IsNew least source) (s : Served source left) where
    whole : amounts_by left.source ≡ s.all ++ refused_in left.refused
    whole = s.its_items.gave ∙ ap (λ (l : List (ℕ × ℕ)). l ++ s.all ++ refused_in left.refused) new.none

    both_zeros : Zeros s.all × Zeros (refused_in left.refused)
    both_zeros = zeros_of s.all (refused_in left.refused) (subst Zeros whole (given_zeros left.source))

    -- a place was there for the key 0, and the source has no more amounts than a ring serves
    no_cause : (c : Cause) (r : Refused ℕ) (parts : List (KeyPart Total)) → left.refused ≡ Some r → left.parts.items ≡ parts → HasCause c 1 (length left.parts.items) s.all r.key → ⊥
    no_cause Cause'.NoPlace r [] at is h = let none = ap length is in absurd (omega (arith, h.0, none))
    no_cause Cause'.NoPlace r (p ∷ ps) at is h =
        let some = (s.each 0 p (ap (λ (l : List (KeyPart Total)). slice_get l 0) is)).0 in
        let key : p.key ≡ 0 = key_is p.key s.all both_zeros.0 some in
        let its : r.key ≡ 0 = (subst (λ (o : Option (Refused ℕ)). Zeros (refused_in o)) at both_zeros.1).0 in
        some (ap (λ (k : ℕ). items_for k s.all) (key ∙ sym its) ∙ h.1)
    no_cause Cause'.LifeIsOver r parts at is h =
        let long = length-append s.all (refused_in left.refused) in
        let many = ap length whole in
        absurd (omega (arith, h, long, many, left.source.are.count, left.source.life))

    nothing_refused : left.refused ≡ None
    nothing_refused = go left.refused refl
      where
        go : (o : Option (Refused ℕ)) → left.refused ≡ o → left.refused ≡ None
        go None is = is
        go (Some r) is = absurd (no_cause r.cause r left.parts.items is refl (s.its_items.cause r is))

    all_is : s.all ≡ all_given left
    all_is = sym (whole ∙ (ap (λ (o : Option (Refused ℕ)). s.all ++ refused_in o) nothing_refused ∙ append-nil s.all))

    has_done : HasDone least (all_given left)
    has_done = subst (λ (n : ℕ). HasDone n (all_given left)) (ap (λ t. t.rounds) s.its_items.same ∙ new.its_least) (s.its_items.over nothing_refused)

    its_items : items_for 0 s.all ≡ brought_by left
    its_items = all_of s.all both_zeros.0 ∙ ap (map (λ (e : ℕ × ℕ). e.1)) all_is

    some_items : items_for 0 s.all ≢ []
    some_items none =
        let long = ap length (sym its_items ∙ none) in
        let many = length-map (all_given left) (λ (e : ℕ × ℕ). e.1) in
        absurd (omega (arith, long, many, has_done.are.count, has_done.some))

    has_total : IsTotal (total_by left) (brought_by left)
    has_total = go left.parts.items refl
      where
        go : (parts : List (KeyPart Total)) → left.parts.items ≡ parts → IsTotal (total_by left) (brought_by left)
        go [] is = let c = subst (λ (l : List (KeyPart Total)). Contains (keys_of l) 0) is (s.every 0 some_items) in absurd (omega (arith, c.1))
        go (p ∷ ps) is =
            let its = s.each 0 p (ap (λ (l : List (KeyPart Total)). slice_get l 0) is) in
            let key : p.key ≡ 0 = key_is p.key s.all both_zeros.0 its.0 in
            let made : IsTotal p.state (items_for p.key s.all) = is_total w (items_for p.key s.all) p.state its.1 in
            subst (λ (t : Total). IsTotal t (brought_by left)) (sym (ap first_total is))
            (subst (λ (l : List ℕ). IsTotal p.state l) (ap (λ (k : ℕ). items_for k s.all) key ∙ its_items) made)

  -- so it is of all sources
  pub all_done : (sources : List (Amounts W)) (lefts : List (ServedSource (Amounts W) ℕ Total)) → All (IsNew least) sources → AllBecame Served sources lefts → All (λ left. HasDone least (all_given left)) lefts
  all_done [] [] new h i d lt = absurd (omega (arith, lt))
  all_done [] (l ∷ ls) new h i d lt = absurd h
  all_done (s ∷ ss) [] new h i d lt = absurd h
  all_done (s ∷ ss) (l ∷ ls) new h zero d lt = has_done s l (new 0 s (omega arith)) h.0
  all_done (s ∷ ss) (l ∷ ls) new h (suc i) d lt = all_done ss ls (λ j e less. new (suc j) e (omega (arith, less))) h.1 i d (omega (arith, lt))

  pub each_total : (sources : List (Amounts W)) (lefts : List (ServedSource (Amounts W) ℕ Total)) → All (IsNew least) sources → AllBecame Served sources lefts
      → (i : ℕ) (left : ServedSource (Amounts W) ℕ Total) → slice_get lefts i ≡ Some left → IsTotal (total_by left) (brought_by left)
  each_total [] [] new h i left at = absurd (let no : None ≡ Some left = at in cc no)
  each_total [] (l ∷ ls) new h i left at = absurd h
  each_total (s ∷ ss) [] new h i left at = absurd h
  each_total (s ∷ ss) (l ∷ ls) new h zero left at = let same : l ≡ left = cc at in subst (λ x. IsTotal (total_by x) (brought_by x)) same (has_total s l (new 0 s (omega arith)) h.0)
  each_total (s ∷ ss) (l ∷ ls) new h (suc i) left at = each_total ss ls (λ j e less. new (suc j) e (omega (arith, less))) h.1 i left at

  pub as_many : (sources : List (Amounts W)) (lefts : List (ServedSource (Amounts W) ℕ Total)) → AllBecame Served sources lefts → length lefts ≡ length sources
  as_many [] [] h = refl
  as_many [] (l ∷ ls) h = absurd h
  as_many (s ∷ ss) [] h = absurd h
  as_many (s ∷ ss) (l ∷ ls) h = let rest = as_many ss ls h.1 in omega (arith, rest)

-- one squeue has served all sources
pub one_group : {B A Z : Type 0} (P : Z → ℕ → B → A → Type 0) (z : Z) (es : List B) (ds : List A) → AllOfGroups P (z ∷ []) es ds → AllBecameFrom (P z) 0 es ds
one_group P z es ds (mine, others, its, left, some, are, become, so, none) =
    subst (λ l. AllBecameFrom (P z) 0 l ds) (sym (are ∙ (ap (λ l. mine ++ l) none.0 ∙ append-nil mine)))
    (subst (λ l. AllBecameFrom (P z) 0 mine l) (sym (become ∙ (ap (λ l. its ++ l) none.1 ∙ append-nil its))) so)

-- a list of one
pub only_one : {Z : Type 0} (zs rest : List Z) (z : Z) → zs ≡ rest ++ z ∷ [] → length zs ≡ 1 → zs ≡ z ∷ []
only_one zs [] z is one = is
only_one zs (y ∷ ys) z is one = absurd (omega (arith, ap length is, one, length-append ys (z ∷ [])))
