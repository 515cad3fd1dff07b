-- Lists of entries: what a map makes of them where one leaves, some leave, or one changes.
use Rattle.std.proofs.Common.{◌≡◌, ◌≢◌, ℕ, zero, suc, ◌-◌, ◌<◌, ◌⊎◌, inl, inr, Bool, true, false, cond, List, [], ◌∷◌, ◌++◌, length, map, take, set, get_or, filter, slice_get, Option, None, Some, refl, sym, ap, subst, ◌∙◌, arith, true≢false}
use Rattle.std.specs.List.{swap_remove, AllByRecursion, IsDistinct}
use Rattle.std.specs.List.Sorted.{IsPermutation}
use Rattle.std.specs.Map.{keys_of}
use Rattle.std.specs.Option.{option_map, option_map_or}
use Rattle.std.proofs.lemmas.List.{map-set, take-map, get_or-take, get_or-set_other, get_or-set_same, length-take}
use Rattle.std.proofs.lemmas.List.Sorted.{IsPermutation-swap_remove}
use Rattle.std.proofs.lemmas.Option.{slice_get-map, slice_get_within, get_or_from_slice_get, slice_get-get_or}
use Rattle.std.proofs.lemmas.Bool.Decides.{eqb_tells}
use Rattle.std.proofs.lemmas.Map.Keys.{IsDistinct-head, IsDistinct-tail}
use Rattle.indexmap.specs.IndexMap.{set_value_at}
use Rattle.live_chats.specs.Seating.{left_at}

module _ {X Y : Type 0} where
  -- two maps that agree on all that is there
  pub map_agrees : (f g : X → Y) (xs : List X) → ((k : ℕ) (x : X) → slice_get xs k ≡ Some x → f x ≡ g x) → map f xs ≡ map g xs
  map_agrees f g [] h = refl
  map_agrees f g (x ∷ xs) h = λ j. h zero x refl j ∷ map_agrees f g xs (λ k y at. h (suc k) y at) j

  module _ (f : X → Y) where
    got : (xs : List X) (n : ℕ) (d : X) → get_or (map f xs) n (f d) ≡ f (get_or xs n d)
    got [] n d = refl
    got (x ∷ xs) zero d = refl
    got (x ∷ xs) (suc n) d = got xs n d

    pub length_map : (xs : List X) → length (map f xs) ≡ length xs
    length_map [] = refl
    length_map (x ∷ xs) = ap suc (length_map xs)

    swapped : (xs : List X) (i : ℕ) (d : X) → map f (swap_remove xs i d) ≡ swap_remove (map f xs) i (f d)
    swapped xs i d =
        let n = length xs - 1 in
        sym (take-map f n (set xs i (get_or xs n d)))
        ∙ ap (λ (l : List Y). take n l) (map-set f xs i (get_or xs n d) ∙ ap (λ (y : Y). set (map f xs) i y) (sym (got xs n d)))
        ∙ ap (λ (k : ℕ). take (k - 1) (set (map f xs) i (get_or (map f xs) (k - 1) (f d)))) (sym (length_map xs))

    pub map_left : (i : ℕ) (xs : List X) → map f (left_at i xs) ≡ left_at i (map f xs)
    map_left i xs = by (slice_get xs i) ∙ ap (λ (o : Option Y). option_map_or (λ (y : Y). swap_remove (map f xs) i y) o (map f xs)) (sym (slice_get-map f xs i))
      where
        by : (o : Option X) → map f (option_map_or (λ (x : X). swap_remove xs i x) o xs) ≡ option_map_or (λ (y : Y). swap_remove (map f xs) i y) (option_map f o) (map f xs)
        by None = refl
        by (Some x) = swapped xs i x

    -- a filter goes through a map
    pub filter_map_is : (p : Y → Bool) (xs : List X) → filter p (map f xs) ≡ map f (filter (λ x. p (f x)) xs)
    filter_map_is p [] = refl
    filter_map_is p (x ∷ xs) = by (p (f x)) (filter_map_is p xs)
      where
        by : (b : Bool) → filter p (map f xs) ≡ map f (filter (λ y. p (f y)) xs) → cond b (f x ∷ filter p (map f xs)) (filter p (map f xs)) ≡ map f (cond b (x ∷ filter (λ y. p (f y)) xs) (filter (λ y. p (f y)) xs))
        by true rest = ap (λ (l : List Y). f x ∷ l) rest
        by false rest = rest

module _ {X : Type 0} where
  -- tests that agree on all that is there
  pub filter_agrees : (p q : X → Bool) (xs : List X) → ((k : ℕ) (x : X) → slice_get xs k ≡ Some x → p x ≡ q x) → filter p xs ≡ filter q xs
  filter_agrees p q [] h = refl
  filter_agrees p q (x ∷ xs) h = λ j. cond (h zero x refl j) (x ∷ filter_agrees p q xs (λ k y at. h (suc k) y at) j) (filter_agrees p q xs (λ k y at. h (suc k) y at) j)

  -- who is left by a filter was there
  pub in_filter : (p : X → Bool) (xs : List X) (k : ℕ) (x : X) → slice_get (filter p xs) k ≡ Some x → (j : ℕ) × (slice_get xs j ≡ Some x)
  in_filter p [] k x at = (k, at)
  in_filter p (y ∷ ys) k x at = by (p y) k at (λ n h. in_filter p ys n x h)
    where
      by : (b : Bool) (n : ℕ) → slice_get (cond b (y ∷ filter p ys) (filter p ys)) n ≡ Some x
          → ((m : ℕ) → slice_get (filter p ys) m ≡ Some x → (j : ℕ) × (slice_get ys j ≡ Some x)) → (j : ℕ) × (slice_get (y ∷ ys) j ≡ Some x)
      by true zero h rest = (zero, h)
      by true (suc n) h rest = let r = rest n h in (suc r.0, r.1)
      by false n h rest = let r = rest n h in (suc r.0, r.1)

  -- who is there behind a removal was there, at another place: at the same, or it was the last one and took the place that was left
  in_swapped : (xs : List X) (i k : ℕ) (d x : X) → i < length xs → slice_get (swap_remove xs i d) k ≡ Some x
      → (j : ℕ) × (slice_get xs j ≡ Some x) × (j ≢ i) × ((j ≡ k) ⊎ ((k ≡ i) × (i < j)))
  in_swapped xs i k d x lt at =
      let n : ℕ = length xs - 1 in
      let last : X = get_or xs n d in
      let below : k < n = omega (arith, slice_get_within (take n (set xs i last)) k x at, length-take n (set xs i last)) in
      let there : get_or (set xs i last) k x ≡ x = sym (get_or-take n (set xs i last) k x below) ∙ get_or_from_slice_get (take n (set xs i last)) k x x at in
      elim (eqb_tells k i) [
        | inl e ↦ (let its : last ≡ x = sym (get_or-set_same xs i last x lt) ∙ ap (λ (m : ℕ). get_or (set xs i last) m x) (sym e.1) ∙ there in
            (n, slice_get-get_or xs n d (omega arith) ∙ ap Some its, (λ h. omega (arith, e.1, below, h)), inr (e.1, omega (arith, e.1, below))))
        | inr e ↦ (k, slice_get-get_or xs k x (omega (arith, below)) ∙ ap Some (sym (get_or-set_other xs i k last x e.1) ∙ there), e.1, inl refl)
      ]

  pub in_left_from : (i : ℕ) (xs : List X) (k : ℕ) (x : X) → i < length xs → slice_get (left_at i xs) k ≡ Some x
      → (j : ℕ) × (slice_get xs j ≡ Some x) × (j ≢ i) × ((j ≡ k) ⊎ ((k ≡ i) × (i < j)))
  in_left_from i xs k x lt at = by (slice_get xs i) (slice_get-get_or xs i x lt) at
    where
      by : (o : Option X) → o ≡ Some (get_or xs i x) → slice_get (option_map_or (λ y. swap_remove xs i y) o xs) k ≡ Some x
          → (j : ℕ) × (slice_get xs j ≡ Some x) × (j ≢ i) × ((j ≡ k) ⊎ ((k ≡ i) × (i < j)))
      by None e h = cc
      by (Some y) e h = in_swapped xs i k y x lt h

  pub in_left : (i : ℕ) (xs : List X) (k : ℕ) (x : X) → i < length xs → slice_get (left_at i xs) k ≡ Some x → (j : ℕ) × (slice_get xs j ≡ Some x) × (j ≢ i)
  in_left i xs k x lt at = let was = in_left_from i xs k x lt at in (was.0, was.1, was.2)

  -- who leaves, and those that are left, are those that were there
  pub left_moves : (i : ℕ) (xs : List X) (x : X) → slice_get xs i ≡ Some x → IsPermutation xs (x ∷ left_at i xs)
  left_moves i xs x at =
      subst (λ (o : Option X). IsPermutation xs (x ∷ option_map_or (λ (y : X). swap_remove xs i y) o xs)) (sym at)
      (IsPermutation-swap_remove xs i x (slice_get_within xs i x at) (sym (get_or_from_slice_get xs i x x at)))

  -- who is there behind one that comes last
  pub in_pushed : (xs : List X) (y : X) (k : ℕ) (x : X) → slice_get (xs ++ y ∷ []) k ≡ Some x → ((j : ℕ) × (slice_get xs j ≡ Some x)) ⊎ (x ≡ y)
  in_pushed [] y zero x at = inr (sym (cc))
  in_pushed [] y (suc k) x at = cc
  in_pushed (z ∷ zs) y zero x at = inl (zero, at)
  in_pushed (z ∷ zs) y (suc k) x at = elim (in_pushed zs y k x at) [ inl r ↦ inl (suc r.0, r.1) | inr e ↦ inr e ]

module _ {K X : Type 0} where
  -- who is there behind a write
  pub in_set : (es : List (K × X)) (i : ℕ) (w : X) (k : ℕ) (e : K × X) → slice_get (set_value_at es i w) k ≡ Some e
      → ((k ≢ i) × (slice_get es k ≡ Some e)) ⊎ ((k ≡ i) × ((f : K × X) × (slice_get es i ≡ Some f) × (e ≡ (f.0, w))))
  in_set [] i w k e at = absurd (cc)
  in_set (f ∷ es) zero w zero e at = inr (refl, (f, refl, cc))
  in_set (f ∷ es) zero w (suc k) e at = inl ((λ h. omega arith), at)
  in_set (f ∷ es) (suc i) w zero e at = inl ((λ h. omega arith), at)
  in_set (f ∷ es) (suc i) w (suc k) e at = elim (in_set es i w k e at) [ inl r ↦ inl ((λ h. r.0 (omega arith)), r.1) | inr r ↦ inr (ap suc r.0, r.1) ]

  pub at_set : (es : List (K × X)) (i : ℕ) (w : X) (f : K × X) → slice_get es i ≡ Some f → slice_get (set_value_at es i w) i ≡ Some (f.0, w)
  at_set [] i w f at = absurd (cc)
  at_set (e ∷ es) zero w f at = ap (λ (o : Option (K × X)). option_map (λ (g : K × X). (g.0, w)) o) at
  at_set (e ∷ es) (suc i) w f at = at_set es i w f at

  -- a map of a list in which one changed, where the map changed for that one alone
  pub map_written : {V : Type 0} (f g : K × X → K × V) (es : List (K × X)) (i : ℕ) (w : X) (v : V) (e : K × X) → slice_get es i ≡ Some e → ((x : K × X) → (f x).0 ≡ x.0) → g (e.0, w) ≡ (e.0, v)
      → ((k : ℕ) (x : K × X) → slice_get es k ≡ Some x → k ≢ i → g x ≡ f x) → map g (set_value_at es i w) ≡ set_value_at (map f es) i v
  map_written f g [] i w v e at key is h = refl
  map_written f g (x ∷ es) zero w v e at key is h =
      let same : x ≡ e = (cc) in
      λ j. head same j ∷ map_agrees g f es (λ k y there. h (suc k) y there (λ z. omega arith)) j
    where
      head : x ≡ e → g (x.0, w) ≡ ((f x).0, v)
      head same = ap (λ (y : K × X). g (y.0, w)) same ∙ is ∙ ap (λ (t : K). (t, v)) (ap (λ (y : K × X). y.0) (sym same) ∙ sym (key x))
  map_written f g (x ∷ es) (suc i) w v e at key is h =
      λ j. h zero x refl (λ z. omega arith) j ∷ map_written f g es i w v e at key is (λ k y there ne. h (suc k) y there (λ z. ne (omega arith))) j

  clash : (eq : K → K → Bool) (same : (k : K) → eq k k ≡ true) (x : K × X) (es : List (K × X)) (j : ℕ) (b : K × X) → AllByRecursion (λ y. eq x.0 y ≡ false) (keys_of es) → slice_get es j ≡ Some b → x.0 ≡ b.0 → ⊥
  clash eq same x [] j b h at e = cc
  clash eq same x (y ∷ es) zero b h at e =
      let its : y ≡ b = (cc) in
      true≢false (sym (same x.0) ∙ ap (eq x.0) (e ∙ ap (λ (z : K × X). z.0) (sym its)) ∙ h.0)
  clash eq same x (y ∷ es) (suc j) b h at e = clash eq same x es j b h.1 at e

  -- two entries with the same key are at one place
  pub one_place : (eq : K → K → Bool) (same : (k : K) → eq k k ≡ true) (es : List (K × X)) (i j : ℕ) (a b : K × X) → IsDistinct eq (keys_of es) → slice_get es i ≡ Some a → slice_get es j ≡ Some b → a.0 ≡ b.0 → i ≡ j
  one_place eq same [] i j a b d ati atj e = absurd (cc)
  one_place eq same (x ∷ es) zero zero a b d ati atj e = refl
  one_place eq same (x ∷ es) zero (suc j) a b d ati atj e = absurd (clash eq same x es j b (IsDistinct-head eq x.0 (keys_of es) d) atj (ap (λ (y : K × X). y.0) (first ati) ∙ e))
    where
      first : Some x ≡ Some a → x ≡ a
      first h = cc
  one_place eq same (x ∷ es) (suc i) zero a b d ati atj e = absurd (clash eq same x es i a (IsDistinct-head eq x.0 (keys_of es) d) ati (ap (λ (y : K × X). y.0) (first atj) ∙ sym e))
    where
      first : Some x ≡ Some b → x ≡ b
      first h = cc
  one_place eq same (x ∷ es) (suc i) (suc j) a b d ati atj e = ap suc (one_place eq same es i j a b (IsDistinct-tail eq x.0 (keys_of es) d) ati atj e)

module _ {X : Type 0} where
  -- the entry at a place that is there
  pub entry_there : (xs : List X) (i : ℕ) → i < length xs → (x : X) × (slice_get xs i ≡ Some x)
  entry_there [] i lt = absurd (omega arith)
  entry_there (x ∷ xs) zero lt = (x, refl)
  entry_there (x ∷ xs) (suc i) lt = entry_there xs i (omega arith)

  pub map_append : {Y : Type 0} (f : X → Y) (xs ys : List X) → map f (xs ++ ys) ≡ map f xs ++ map f ys
  map_append f [] ys = refl
  map_append f (x ∷ xs) ys = ap (λ l. f x ∷ l) (map_append f xs ys)
