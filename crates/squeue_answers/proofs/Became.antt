-- What became of a list that was made of another, and what became of that.
use Rattle.std.proofs.Common.{◌≡◌, ℕ, ◌+◌, ◌<◌, List, [], ◌∷◌, ◌++◌, length, map, slice_index_or, refl, ap, sym, ◌∙◌, subst, arith, length-append}
use Rattle.std.specs.Prelude.{All}
use Rattle.std.proofs.lemmas.List.{length-map}
use Rattle.std.proofs.lemmas.List.Elements.{All-cons, All-nil}
use Rattle.ring_groups.specs.Groups.{AllBecame, AllBecameFrom, AllOfGroups}
use Rattle.ring_groups.proofs.Grouped.{ended_both}

-- one of a list of which this is so
middle_or : {X : Type 0} (xs ys : List X) (x : X) → slice_index_or ((xs ++ x ∷ []) ++ ys) (length xs) x ≡ x
middle_or [] ys x = refl
middle_or (z ∷ xs) ys x = middle_or xs ys x

pub all_middle : {X : Type 0} (P : X → Type 0) (all xs ys : List X) (x : X) → All P all → all ≡ (xs ++ x ∷ []) ++ ys → P x
all_middle {X} P all xs ys x each is =
    let less : length xs < length all = omega (arith, ap length is, length-append (xs ++ x ∷ []) ys, length-append xs (x ∷ [])) in
    subst P (ap (λ (l : List X). slice_index_or l (length xs) x) is ∙ middle_or xs ys x) (each (length xs) x less)

module _ {B A : Type 0} (P : B → A → Type 0) where
  pub became_none : (ds : List A) → ds ≡ [] → AllBecame P [] ds
  became_none [] is = tt
  became_none (d ∷ ds) is = absurd (cc is)

  pub became_more : (es : List B) (ds new : List A) (e : B) (d : A) → AllBecame P es ds → new ≡ ds ++ d ∷ [] → P e d → AllBecame P (es ++ e ∷ []) new
  became_more es ds new e d all is one = subst (AllBecame P (es ++ e ∷ [])) (sym is) (ended_both P es (e ∷ []) ds (d ∷ []) all (one, tt))

  pub became_many : (es : List B) (ds : List A) → AllBecame P es ds → length ds ≡ length es
  became_many [] [] x = refl
  became_many [] (d ∷ ds) x = absurd x
  became_many (e ∷ es) [] x = absurd x
  became_many (e ∷ es) (d ∷ ds) x = let n = became_many es ds x.1 in omega (arith, n)

  pub each_left : (es : List B) (ds : List A) → AllBecame P es ds → All (λ d. (e : B) × P e d) ds
  each_left [] [] x = All-nil (λ d. (e : B) × P e d)
  each_left [] (d ∷ ds) x = absurd x
  each_left (e ∷ es) [] x = absurd x
  each_left (e ∷ es) (d ∷ ds) x = All-cons (λ d. (e : B) × P e d) d ds (e, x.0) (each_left es ds x.1)

  split_became : (es fs : List B) (ds : List A) → AllBecame P (es ++ fs) ds → (us : List A) × (vs : List A) × (ds ≡ us ++ vs) × AllBecame P es us × AllBecame P fs vs
  split_became [] fs ds x = ([], ds, refl, tt, x)
  split_became (e ∷ es) fs [] x = absurd x
  split_became (e ∷ es) fs (d ∷ ds) x =
      let more = split_became es fs ds x.1 in
      (d ∷ more.0, more.1, ap (λ (l : List A). d ∷ l) more.2, (x.0, more.3), more.4)

-- of a list that was made of another
module _ {B M : Type 0} (f : B → M) where
  split_map : (bs : List B) (xs ys : List M) → map f bs ≡ xs ++ ys → (us : List B) × (vs : List B) × (bs ≡ us ++ vs) × (xs ≡ map f us) × (ys ≡ map f vs)
  split_map bs [] ys is = ([], bs, refl, refl, sym is)
  split_map [] (x ∷ xs) ys is = absurd (cc is)
  split_map (b ∷ bs) (x ∷ xs) ys is =
      let first : f b ≡ x = cc is in
      let rest : map f bs ≡ xs ++ ys = cc is in
      let more = split_map bs xs ys rest in
      (b ∷ more.0, more.1, ap (λ (l : List B). b ∷ l) more.2, ap (λ (m : M). m ∷ xs) (sym first) ∙ ap (λ (l : List M). f b ∷ l) more.3, more.4)

  none_back : (bs : List B) → map f bs ≡ [] → bs ≡ []
  none_back [] is = refl
  none_back (b ∷ bs) is = absurd (cc is)

  module _ {A : Type 0} where
    pub became_back : (P : M → A → Type 0) (bs : List B) (ds : List A) → AllBecame P (map f bs) ds → AllBecame (λ b d. P (f b) d) bs ds
    became_back P [] [] x = tt
    became_back P [] (d ∷ ds) x = absurd x
    became_back P (b ∷ bs) [] x = absurd x
    became_back P (b ∷ bs) (d ∷ ds) x = (x.0, became_back P bs ds x.1)

    from_back : (P : ℕ → M → A → Type 0) (k : ℕ) (bs : List B) (ds : List A) → AllBecameFrom P k (map f bs) ds → AllBecameFrom (λ n b d. P n (f b) d) k bs ds
    from_back P k [] [] x = tt
    from_back P k [] (d ∷ ds) x = absurd x
    from_back P k (b ∷ bs) [] x = absurd x
    from_back P k (b ∷ bs) (d ∷ ds) x = (x.0, from_back P (k + 1) bs ds x.1)

    pub groups_back : {Z : Type 0} (P : Z → ℕ → M → A → Type 0) (zs : List Z) (bs : List B) (ds : List A) → AllOfGroups P zs (map f bs) ds → AllOfGroups (λ z k b d. P z k (f b) d) zs bs ds
    groups_back P [] bs ds x = (none_back bs x.0, x.1)
    groups_back P (z ∷ zs) bs ds (mine, others, its, left, some, es_are, ds_are, first, more) =
        let s = split_map bs mine others es_are in (
          s.0,
          s.1,
          its,
          left,
          omega (arith, some, ap length s.3, length-map s.0 f),
          s.2,
          ds_are,
          from_back (P z) 0 s.0 its (subst (λ (l : List M). AllBecameFrom (P z) 0 l its) s.3 first),
          groups_back P zs s.1 left (subst (λ (l : List M). AllOfGroups P zs l left) s.4 more),
        )

none_on : {M A : Type 0} (F : M → A → Type 0) (ds : List A) → AllBecame F [] ds → ds ≡ []
none_on F [] x = refl
none_on F (d ∷ ds) x = absurd x

-- and of what became of it
module _ {B M A : Type 0} (F : M → A → Type 0) where
  pub became_on : (P : B → M → Type 0) (Q : B → A → Type 0) → ((b : B) (m : M) (d : A) → P b m → F m d → Q b d) → (bs : List B) (ms : List M) (ds : List A) → AllBecame P bs ms → AllBecame F ms ds
      → AllBecame Q bs ds
  became_on P Q f [] [] [] x y = tt
  became_on P Q f [] [] (d ∷ ds) x y = absurd y
  became_on P Q f [] (m ∷ ms) ds x y = absurd x
  became_on P Q f (b ∷ bs) [] ds x y = absurd x
  became_on P Q f (b ∷ bs) (m ∷ ms) [] x y = absurd y
  became_on P Q f (b ∷ bs) (m ∷ ms) (d ∷ ds) x y = (f b m d x.0 y.0, became_on P Q f bs ms ds x.1 y.1)

  from_on : (P : ℕ → B → M → Type 0) (Q : ℕ → B → A → Type 0) → ((k : ℕ) (b : B) (m : M) (d : A) → P k b m → F m d → Q k b d) → (k : ℕ) (bs : List B) (ms : List M) (ds : List A)
      → AllBecameFrom P k bs ms → AllBecame F ms ds → AllBecameFrom Q k bs ds
  from_on P Q f k [] [] [] x y = tt
  from_on P Q f k [] [] (d ∷ ds) x y = absurd y
  from_on P Q f k [] (m ∷ ms) ds x y = absurd x
  from_on P Q f k (b ∷ bs) [] ds x y = absurd x
  from_on P Q f k (b ∷ bs) (m ∷ ms) [] x y = absurd y
  from_on P Q f k (b ∷ bs) (m ∷ ms) (d ∷ ds) x y = (f k b m d x.0 y.0, from_on P Q f (k + 1) bs ms ds x.1 y.1)

  pub groups_on : {Z : Type 0} (P : Z → ℕ → B → M → Type 0) (Q : Z → ℕ → B → A → Type 0) → ((z : Z) (k : ℕ) (b : B) (m : M) (d : A) → P z k b m → F m d → Q z k b d) → (zs : List Z) (bs : List B)
      (ms : List M) (ds : List A) → AllOfGroups P zs bs ms → AllBecame F ms ds → AllOfGroups Q zs bs ds
  groups_on P Q f [] bs ms ds x y = (x.0, none_on F ds (subst (λ (l : List M). AllBecame F l ds) x.1 y))
  groups_on P Q f (z ∷ zs) bs ms ds (mine, others, its, left, some, es_are, ms_are, first, more) y =
      let s = split_became F its left ds (subst (λ (l : List M). AllBecame F l ds) ms_are y) in
      (mine, others, s.0, s.1, some, es_are, s.2, from_on (P z) (Q z) (f z) 0 mine its s.0 first s.3, groups_on P Q f zs others left s.1 more s.4)
