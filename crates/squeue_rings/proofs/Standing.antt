-- Where connections are, when a run is entered.
use Rattle.std.proofs.Common.{◌≡◌, ◌≢◌, ℕ, ◌-◌, ◌==◌, ◌&&◌, not, inl, inr, Bool, true, false, List, [], ◌∷◌, ◌++◌, refl, ap, sym, ◌∙◌, subst, arith}
use Rattle.std.proofs.lemmas.Bool.{cases_eq}
use Rattle.std.proofs.lemmas.Bool.Decides.{nat_tests}
use Rattle.perimeter_core.specs.declared.entries.Feed.{Feed as FeedOf}
use Rattle.histories.specs.Homes.{home}
use Rattle.histories.specs.Runs.{brought, comes, home_before, home_of, is_left_by, leaves, moves, place}
use Rattle.squeue_rings.proofs.Counting.{other_more, own_more}

module _ (squeues spread : ℕ) where
  -- a feed reached: its connection is at the feed's home, and every other one where it was
  pub place_own : (done : List FeedOf) (f : FeedOf) → f.n ≡ brought f.c done → place squeues spread f.c (done ++ f ∷ []) ≡ home_of squeues spread f
  place_own done f is = let m = own_more done f in let e : brought f.c (done ++ f ∷ []) - 1 ≡ f.n = omega (arith, m, is) in ap (home squeues spread f.c) e

  pub place_other : (c : ℕ) (done : List FeedOf) (f : FeedOf) → f.c ≢ c → place squeues spread c (done ++ f ∷ []) ≡ place squeues spread c done
  place_other c done f apart = ap (λ (n : ℕ). home squeues spread c (n - 1)) (other_more c done f apart)

  -- before the feed it was where the feed before it had its home
  pub place_before : (done : List FeedOf) (f : FeedOf) → f.n ≡ brought f.c done → place squeues spread f.c done ≡ home_before squeues spread f
  place_before done f is = ap (λ (n : ℕ). home squeues spread f.c (n - 1)) (sym is)

  pub same_home : (f : FeedOf) → moves squeues spread f ≡ false → home_before squeues spread f ≡ home_of squeues spread f
  same_home f is = by (home_before squeues spread f == home_of squeues spread f) refl is
    where
      by : (b : Bool) → (home_before squeues spread f == home_of squeues spread f) ≡ b → not b ≡ false → home_before squeues spread f ≡ home_of squeues spread f
      by true e h = grind (arith, nat_tests)
      by false e h = cc h

  pub other_home : (f : FeedOf) → moves squeues spread f ≡ true → home_before squeues spread f ≢ home_of squeues spread f
  other_home f is = by (home_before squeues spread f == home_of squeues spread f) refl is
    where
      by : (b : Bool) → (home_before squeues spread f == home_of squeues spread f) ≡ b → not b ≡ true → home_before squeues spread f ≢ home_of squeues spread f
      by true e h = cc h
      by false e h = grind (arith, nat_tests)

  -- where the feed doesn't move its connection, no connection changes its place
  pub place_kept : (c : ℕ) (done : List FeedOf) (f : FeedOf) → f.n ≡ brought f.c done → moves squeues spread f ≡ false → place squeues spread c (done ++ f ∷ []) ≡ place squeues spread c done
  place_kept c done f is still =
      elim (cases_eq f.c c) [
        | inl e ↦ subst (λ (c : ℕ). place squeues spread c (done ++ f ∷ []) ≡ place squeues spread c done) e (place_own done f is ∙ (sym (same_home f still) ∙ sym (place_before done f is)))
        | inr apart ↦ place_other c done f apart
      ]

  -- and it neither leaves nor comes to a squeue
  pub no_leave : (q : ℕ) (f : FeedOf) → moves squeues spread f ≡ false → leaves squeues spread q f ≡ false
  no_leave q f still = ap (λ (h : ℕ). (h == q) && not (home_of squeues spread f == q)) (same_home f still) ∙ by (home_of squeues spread f == q)
    where
      by : (b : Bool) → (b && not b) ≡ false
      by true = refl
      by false = refl

  pub no_come : (q : ℕ) (f : FeedOf) → moves squeues spread f ≡ false → comes squeues spread q f ≡ false
  no_come q f still = ap (λ (h : ℕ). not (h == q) && (home_of squeues spread f == q)) (same_home f still) ∙ by (home_of squeues spread f == q)
    where
      by : (b : Bool) → (not b && b) ≡ false
      by true = refl
      by false = refl

  pub not_left : (c q : ℕ) (f : FeedOf) → moves squeues spread f ≡ false → is_left_by squeues spread c q f ≡ false
  not_left c q f still = ap (λ (b : Bool). (f.c == c) && b) (no_leave q f still) ∙ by (f.c == c)
    where
      by : (b : Bool) → (b && false) ≡ false
      by true = refl
      by false = refl
