-- Groups: how they are dealt, and what is left of them.
use Rattle.std.proofs.Common.{◌≡◌, ℕ, zero, suc, ◌+◌, ◌<◌, ◌≤◌, ◌==◌, Bool, true, List, [], ◌∷◌, ◌++◌, length, map, slice_index_or, take, drop, refl, sym, ap, ◌∙◌, subst, arith, length-append, append_assoc}
use Rattle.std.specs.Prelude.{All, reverse}
use Rattle.std.proofs.lemmas.Bool.{eqb-true}
use Rattle.std.proofs.lemmas.List.{reverse-append}
use Rattle.std.proofs.lemmas.List.Elements.{All-head, All-tail}
use Rattle.ring_groups.specs.declared.groups.Group.{Group}
use Rattle.ring_groups.specs.declared.groups.Group.TheVariants as Group'
use Rattle.ring_groups.specs.Groups.{AllBecame, AllBecameFrom, AllOfGroups, HasServed, HaveEnded, MayServe, all_in, before_in, ended_in, many_in}

-- one more of those that are left is taken
pub taken_more : {A : Type 0} (all done old new : List A) (x : A) → all ≡ done ++ reverse old → old ≡ new ++ x ∷ [] → all ≡ (done ++ x ∷ []) ++ reverse new
taken_more all done old new x is split =
    is ∙ (ap (λ l. done ++ l) (ap reverse split ∙ reverse-append new (x ∷ [])) ∙ sym (append_assoc done (x ∷ []) (reverse new)))

-- what a slice of the whole leaves in its Vec
pub whole_back : {A : Type 0} (n : ℕ) (xs new : List A) → length new ≡ n → length xs ≡ n → take n (new ++ drop (length new) xs) ≡ new
whole_back n xs new a b = go n new (drop (length new) xs) a (rest (length new) xs (omega (arith, a, b)))
  where
    rest : {A : Type 0} (n : ℕ) (xs : List A) → length xs ≡ n → drop n xs ≡ []
    rest zero [] h = refl
    rest (suc n) [] h = absurd (omega (arith, h))
    rest zero (x ∷ xs) h = absurd (omega (arith, h))
    rest (suc n) (x ∷ xs) h = rest n xs (omega (arith, h))

    go : {A : Type 0} (n : ℕ) (new ys : List A) → length new ≡ n → ys ≡ [] → take n (new ++ ys) ≡ new
    go zero [] ys a e = refl
    go (suc n) [] ys a e = absurd (omega (arith, a))
    go zero (x ∷ new) ys a e = absurd (omega (arith, a))
    go (suc n) (x ∷ new) ys a e = ap (λ l. x ∷ l) (go n new ys (omega (arith, a)) e)

-- a list of which none is left
pub none_left : {A : Type 0} (xs : List A) (b : Bool) (n : ℕ) → b ≡ (n == 0) → b ≡ true → n ≡ length xs → xs ≡ []
none_left [] b n is t many = refl
none_left (x ∷ xs) b n is t many = let z : n ≡ 0 = eqb-true n 0 (sym is ∙ t) in absurd (omega (arith, z, many))

module _ {B A Z : Type 0} where
  -- one group more
  pub all_more : (gs : List (Group B A Z)) (g : Group B A Z) → all_in (gs ++ g ∷ []) ≡ all_in gs ++ before_in g
  all_more [] g = append_nil (before_in g)
    where
      append_nil : (xs : List B) → xs ++ [] ≡ xs
      append_nil [] = refl
      append_nil (x ∷ xs) = ap (λ (l : List B). x ∷ l) (append_nil xs)
  all_more (h ∷ gs) g = ap (λ (l : List B). before_in h ++ l) (all_more gs g) ∙ sym (append_assoc (before_in h) (all_in gs) (before_in g))

  -- a group more was dealt from those that are left
  pub dealt_more : (all : List B) (old new : List (Group B A Z)) (g : Group B A Z) (was left : List B) → all ≡ all_in old ++ reverse was → new ≡ old ++ g ∷ [] → reverse was ≡ before_in g ++ reverse left
      → all ≡ all_in new ++ reverse left
  dealt_more all old new g was left is more split =
      is ∙ (ap (λ (l : List B). all_in old ++ l) split ∙ (sym (append_assoc (all_in old) (before_in g) (reverse left))
      ∙ ap (λ (l : List B). l ++ reverse left) (sym (ap all_in more ∙ all_more old g))))

  -- as many ends as groups
  pub many_ends : (gs : List (Group B A Z)) (ds : List A) (zs : List Z) → HaveEnded gs ds zs → length zs ≡ length gs
  many_ends [] ds zs e = ap length e.1
  many_ends (Group'.Before all ∷ gs) ds zs e = absurd e
  many_ends (Group'.After ended end ∷ gs) ds zs e = let n = many_ends gs e.0 e.1 e.4 in ap length e.3 ∙ ap suc n
  many_ends (Group'.Short ∷ gs) ds zs e = absurd e

  pub many_more : (gs : List (Group B A Z)) (g : Group B A Z) → many_in (gs ++ g ∷ []) ≡ many_in gs + ended_in g
  many_more [] g = omega arith
  many_more (h ∷ gs) g = omega (arith, many_more gs g)

module _ {B A : Type 0} (P : B → A → Type 0) where
  -- what ended before, and what ended behind it
  pub ended_both : (es fs : List B) (ds ns : List A) → AllBecame P es ds → AllBecame P fs ns → AllBecame P (es ++ fs) (ds ++ ns)
  ended_both [] fs [] ns x y = y
  ended_both [] fs (d ∷ ds) ns x y = absurd x
  ended_both (e ∷ es) fs [] ns x y = absurd x
  ended_both (e ∷ es) fs (d ∷ ds) ns x y = (x.0, ended_both es fs ds ns x.1 y)

module _ {B A : Type 0} (P : ℕ → B → A → Type 0) where
  as_many : (k : ℕ) (es : List B) (ds : List A) → AllBecameFrom P k es ds → length ds ≡ length es
  as_many k [] [] x = refl
  as_many k [] (d ∷ ds) x = absurd x
  as_many k (e ∷ es) [] x = absurd x
  as_many k (e ∷ es) (d ∷ ds) x = omega (arith, as_many (k + 1) es ds x.1)

  -- what follows of each whatever its number
  module _ (Q : B → A → Type 0) (f : (k : ℕ) (e : B) (d : A) → P k e d → Q e d) where
    pub became_so : (k : ℕ) (es : List B) (ds : List A) → AllBecameFrom P k es ds → AllBecame Q es ds
    became_so k [] [] x = tt
    became_so k [] (d ∷ ds) x = absurd x
    became_so k (e ∷ es) [] x = absurd x
    became_so k (e ∷ es) (d ∷ ds) x = (f k e d x.0, became_so (k + 1) es ds x.1)

module _ {B A Z : Type 0} (P : Z → ℕ → B → A → Type 0) where
  -- of each group, by number
  abbrev ServedEach : List (Group B A Z) → List (Group B A Z) → Type 0
  ServedEach olds news = (k : ℕ) (d : Group B A Z) → k < length olds → HasServed P (slice_index_or olds k d) (slice_index_or news k d)

  others : (g h : Group B A Z) (olds news : List (Group B A Z)) → ServedEach (g ∷ olds) (h ∷ news) → ServedEach olds news
  others g h olds news each k d lt = each (suc k) d (omega (arith, lt))

  -- no more have ended than there were
  pub few_ended : (olds news : List (Group B A Z)) → length news ≡ length olds → ServedEach olds news → many_in news ≤ length (all_in olds)
  few_ended [] [] n each = omega arith
  few_ended [] (h ∷ news) n each = absurd (omega (arith, n))
  few_ended (g ∷ olds) [] n each = absurd (omega (arith, n))
  few_ended (g ∷ olds) (h ∷ news) n each =
      let more = few_ended olds news (omega (arith, n)) (others g h olds news each) in
      omega (arith, one h (each 0 g (omega arith)), more, length-append (before_in g) (all_in olds))
    where
      one : (h : Group B A Z) → HasServed P g h → ended_in h ≤ length (before_in g)
      one (Group'.Before ends) x = absurd x
      one (Group'.After ended end) x = let n = as_many (P end) 0 (before_in g) ended.items x in omega (arith, n)
      one Group'.Short x = omega arith

  -- what is left of all groups is what became of all that was dealt
  pub all_groups : (olds news : List (Group B A Z)) (ds : List A) (zs : List Z) → All MayServe olds → length news ≡ length olds → ServedEach olds news → HaveEnded news ds zs
      → AllOfGroups P zs (all_in olds) ds
  all_groups [] [] ds zs may n each e = subst (λ (l : List Z). AllOfGroups P l [] ds) (sym e.1) (refl, e.0)
  all_groups [] (h ∷ news) ds zs may n each e = absurd (omega (arith, n))
  all_groups (g ∷ olds) [] ds zs may n each e = absurd (omega (arith, n))
  all_groups (g ∷ olds) (Group'.Before ends ∷ news) ds zs may n each e = absurd e
  all_groups (g ∷ olds) (Group'.After ended end ∷ news) ds zs may n each e =
      let first = each 0 g (omega arith) in
      let more = all_groups olds news e.0 e.1 (All-tail MayServe g olds may) (omega (arith, n)) (others g (Group'.After ended end) olds news each) e.4 in
      subst (λ (l : List Z). AllOfGroups P l (before_in g ++ all_in olds) ds) (sym e.3)
      (before_in g, all_in olds, ended.items, e.0, (All-head MayServe g olds may).0, refl, e.2, first, more)
  all_groups (g ∷ olds) (Group'.Short ∷ news) ds zs may n each e = absurd e

  -- what follows of each whatever its squeue and its number
  pub of_groups : (Q : B → A → Type 0) → ((z : Z) (k : ℕ) (e : B) (d : A) → P z k e d → Q e d) → (zs : List Z) (es : List B) (ds : List A) → AllOfGroups P zs es ds
      → AllBecame Q es ds
  of_groups Q f [] es ds x = subst (λ (l : List B). AllBecame Q l ds) (sym x.0) (subst (AllBecame Q []) (sym x.1) tt)
  of_groups Q f (z ∷ zs) es ds (mine, rest, its, left, some, es_are, ds_are, first, more) =
      subst (λ (l : List B). AllBecame Q l ds) (sym es_are)
      (subst (AllBecame Q (mine ++ rest)) (sym ds_are)
      (ended_both Q mine rest its left (became_so (P z) Q (f z) 0 mine its first) (of_groups Q f zs rest left more)))

module _ {B A Z : Type 0} where
  -- no group has more than all of them
  pub few_in : (gs : List (Group B A Z)) (i : ℕ) (d : Group B A Z) → i < length gs → length (before_in (slice_index_or gs i d)) ≤ length (all_in gs)
  few_in [] i d lt = absurd (omega (arith, lt))
  few_in (g ∷ gs) zero d lt = omega (arith, length-append (before_in g) (all_in gs))
  few_in (g ∷ gs) (suc i) d lt = omega (arith, few_in gs i d (omega (arith, lt)), length-append (before_in g) (all_in gs))

module _ {B A Z : Type 0} (P : Z → ℕ → B → A → Type 0) (Q : Z → Type 0) (f : (z : Z) (k : ℕ) (e : B) (d : A) → P z k e d → Q z) where
  one_of : (z : Z) (es : List B) (ds : List A) → 1 ≤ length es → AllBecameFrom (P z) 0 es ds → Q z
  one_of z [] ds some x = absurd (omega (arith, some))
  one_of z (e ∷ es) [] some x = absurd x
  one_of z (e ∷ es) (d ∷ ds) some x = f z 0 e d x.0

  more_of : (z : Z) (zs : List Z) → Q z → All Q zs → All Q (z ∷ zs)
  more_of z zs first others zero d lt = first
  more_of z zs first others (suc i) d lt = others i d (omega (arith, lt))

  -- what follows for each squeue of one of its own
  pub of_each : (zs : List Z) (es : List B) (ds : List A) → AllOfGroups P zs es ds → All Q zs
  of_each [] es ds x = λ i d lt. absurd (omega (arith, lt))
  of_each (z ∷ zs) es ds (mine, others, its, left, some, es_are, ds_are, first, more) = more_of z zs (one_of z mine its some first) (of_each zs others left more)

module _ {B A : Type 0} (P Q : ℕ → B → A → Type 0) (f : (k : ℕ) (e : B) (d : A) → P k e d → Q k e d) where
  pub became_from : (k : ℕ) (es : List B) (ds : List A) → AllBecameFrom P k es ds → AllBecameFrom Q k es ds
  became_from k [] [] x = tt
  became_from k [] (d ∷ ds) x = absurd x
  became_from k (e ∷ es) [] x = absurd x
  became_from k (e ∷ es) (d ∷ ds) x = (f k e d x.0, became_from (k + 1) es ds x.1)

-- what follows of each, and of its squeue
pub groups_so : {B A Z : Type 0} (P Q : Z → ℕ → B → A → Type 0) → ((z : Z) (k : ℕ) (e : B) (d : A) → P z k e d → Q z k e d) → (zs : List Z) (es : List B) (ds : List A) → AllOfGroups P zs es ds → AllOfGroups Q zs es ds
groups_so P Q f [] es ds x = x
groups_so P Q f (z ∷ zs) es ds (mine, others, its, left, some, es_are, ds_are, first, more) =
    (mine, others, its, left, some, es_are, ds_are, became_from (P z) (Q z) (f z) 0 mine its first, groups_so P Q f zs others left more)

-- the same of what is kept of each squeue
pub groups_map : {B A Z Y : Type 0} (Q : Y → ℕ → B → A → Type 0) (g : Z → Y) (zs : List Z) (es : List B) (ds : List A) → AllOfGroups (λ z. Q (g z)) zs es ds → AllOfGroups Q (map g zs) es ds
groups_map Q g [] es ds x = x
groups_map Q g (z ∷ zs) es ds (mine, others, its, left, some, es_are, ds_are, first, more) =
    (mine, others, its, left, some, es_are, ds_are, first, groups_map Q g zs others left more)
