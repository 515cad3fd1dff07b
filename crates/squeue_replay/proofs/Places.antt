-- One place of what is kept is written.
use Rattle.std.proofs.Common.{◌≡◌, ◌≢◌, ℕ, ◌≤◌, inl, inr, true, false, ◌&&◌, if◌then◌else◌, ◌==◌, Option, Some, None, List, [], ◌∷◌, ◌++◌, ◌+◌, ◌-◌, length, map, refl, ap, sym, ◌∙◌, subst, arith}
use Rattle.std.specs.Prelude.{MatchOption, option_map, slice_get, slice_set}
use Rattle.std.proofs.lemmas.Bool.Decides.{nat_tests}
use Rattle.std.proofs.lemmas.Option.{slice_get-map, slice_get_within}
use Rattle.std.proofs.lemmas.List.{map-set, length-set, length-map}
use Rattle.std.proofs.lemmas.Bool.{eq-eqb}
use Rattle.perimeter_core.specs.declared.entries.Act.TheVariants as Did
use Rattle.perimeter_core.specs.declared.entries.Entry.TheVariants.{Feed}
use Rattle.perimeter_core.specs.declared.marks.SynchAct.TheVariants as Done
use Rattle.squeue_replay.specs.Standing.{GuestOf, PassOf}
use Rattle.squeue_replay.specs.Steps.{Answered, Became, HasGuest, guest_acted, guest_fed, last_longer}
use Rattle.squeue_replay.proofs.GuestActs.{fed_none}
use Rattle.squeue_replay.proofs.QueuedFeeds.{set_at}

pub became_set : (f : ℕ → GuestOf → GuestOf) (xs : List GuestOf) (c : ℕ) (g h : GuestOf) → slice_get xs c ≡ Some g → h ≡ f c g → ((d : ℕ) (x : GuestOf) → d ≢ c → f d x ≡ x) → Became f xs (slice_set xs c h)
became_set f xs c g h at is others =
    record {
      count = length-set xs c h;
      each = λ d y read_there.
          elim (set_at xs c d h y read_there) [
            | inl w ↦ (g, subst (λ (k : ℕ). slice_get xs k ≡ Some g) (sym w.0) at, w.1 ∙ (is ∙ ap (λ (k : ℕ). f k g) (sym w.0)))
            | inr w ↦ (y, w.1, sym (others d y w.0))
          ];
    }

pub became_past : (f : ℕ → GuestOf → GuestOf) (xs : List GuestOf) (c : ℕ) → length xs ≤ c → ((d : ℕ) (x : GuestOf) → d ≢ c → f d x ≡ x) → Became f xs xs
became_past f xs c past others =
    record { count = refl; each = λ d y at. (y, at, sym (others d y (λ e. let lt = slice_get_within xs d y at in omega (arith, e, lt, past)))) }

pub answered_set : (xs : List PassOf) (p : ℕ) (x y : PassOf) → slice_get xs p ≡ Some x → y ≡ record x { waiting = false } → Answered true p xs (slice_set xs p y)
answered_set xs p x y at is =
    record {
      count = length-set xs p y;
      each = λ q z read_there.
          elim (set_at xs p q y z read_there) [
            | inl w ↦ (x, subst (λ (k : ℕ). slice_get xs k ≡ Some x) (sym w.0) at, w.1 ∙ (is ∙ own q w.0))
            | inr w ↦ (z, w.1, other q z w.0)
          ];
    }
  where
    own : (q : ℕ) → q ≡ p → record x { waiting = false } ≡ record x { waiting = if true && (p == q) then false else x.waiting }
    own q e = let t : (p == q) ≡ true = grind (arith, nat_tests, e) in rw t refl

    other : (q : ℕ) (z : PassOf) → q ≢ p → z ≡ record z { waiting = if true && (p == q) then false else z.waiting }
    other q z ne = let t : (p == q) ≡ false = grind (arith, nat_tests, ne) in rw t refl

pub answered_past : (xs : List PassOf) (p : ℕ) → length xs ≤ p → Answered true p xs xs
answered_past xs p past =
    record {
      count = refl;
      each = λ q z at.
          let ne : (p == q) ≡ false = (let lt = slice_get_within xs q z at in grind (arith, nat_tests, lt, past)) in
          (z, at, rw ne refl);
    }

-- the same, where what is kept is seen by a function
module _ {X : Type 0} (f : X → PassOf) (xs : List X) (p : ℕ) where
  pub answered_at : (x y : X) → slice_get xs p ≡ Some x → f y ≡ record (f x) { waiting = false } → Answered true p (map f xs) (map f (slice_set xs p y))
  answered_at x y at is =
      subst (λ (ps : List PassOf). Answered true p (map f xs) ps) (sym (map-set f xs p y)) (answered_set (map f xs) p (f x) (f y) (slice_get-map f xs p ∙ ap (option_map f) at) is)

  pub answered_nowhere : length xs ≤ p → Answered true p (map f xs) (map f xs)
  answered_nowhere past = answered_past (map f xs) p (let n = length-map xs f in omega (arith, n, past))

module _ {X : Type 0} (view : X → GuestOf) (xs : List X) (c : ℕ) (f : ℕ → GuestOf → GuestOf) (others : (d : ℕ) (g : GuestOf) → d ≢ c → f d g ≡ g) where
  pub became_at : (x y : X) → slice_get xs c ≡ Some x → view y ≡ f c (view x) → Became f (map view xs) (map view (slice_set xs c y))
  became_at x y at is =
      subst (λ (gs : List GuestOf). Became f (map view xs) gs) (sym (map-set view xs c y)) (became_set f (map view xs) c (view x) (view y) (slice_get-map view xs c ∙ ap (option_map view) at) is others)

  pub became_nowhere : length xs ≤ c → Became f (map view xs) (map view xs)
  became_nowhere past = became_past f (map view xs) c (let n = length-map xs view in omega (arith, n, past)) others

module _ {X : Type 0} (view : X → GuestOf) (xs : List X) (c : ℕ) (P : GuestOf → Type 0) where
  pub has_it : (x : X) → slice_get xs c ≡ Some x → P (view x) → HasGuest (map view xs) c P
  has_it x at p = (view x, slice_get-map view xs c ∙ ap (option_map view) at, p)

  pub it_has : (x : X) → slice_get xs c ≡ Some x → HasGuest (map view xs) c P → P (view x)
  it_has x at h =
      let same : Some (view x) ≡ Some h.0 = sym (slice_get-map view xs c ∙ ap (option_map view) at) ∙ h.1 in
      let e : view x ≡ h.0 = cc same in rw e h.2

  pub has_none : length xs ≤ c → HasGuest (map view xs) c P → ⊥
  has_none past h = let lt = slice_get_within (map view xs) c h.0 h.1 in let n = length-map xs view in omega (arith, lt, n, past)

-- what another connection's entry or act does

other_place : (c d : ℕ) → d ≢ c → (c == d) ≡ false
other_place c d ne = grind (arith, nat_tests, ne)

pub other_fed : (c n d : ℕ) (g : GuestOf) → d ≢ c → guest_fed d (Feed c n ∷ []) g ≡ g
other_fed c n d g ne = let t = other_place c d ne in fed_none d (Feed c n ∷ []) g (rw t refl) (rw t refl)

pub own_fed : (c n : ℕ) (g : GuestOf) → guest_fed c (Feed c n ∷ []) g ≡ record g { queued = g.queued - 1; did = last_longer (Did.Feed n ∷ []) g.did }
own_fed c n g = rw (eq-eqb c c refl) refl

pub other_call : (c j k d fed : ℕ) (g : GuestOf) → d ≢ c → guest_acted d fed (Done.Call c j k) g ≡ g
other_call c j k d fed g ne = rw (other_place c d ne) refl

pub own_call : (c j k fed : ℕ) (g : GuestOf) → guest_acted c fed (Done.Call c j k) g ≡ record g { did = last_longer (Did.Call j k ∷ []) g.did }
own_call c j k fed g = rw (eq-eqb c c refl) refl

pub other_out : (c d fed : ℕ) (g : GuestOf) → d ≢ c → guest_acted d fed (Done.Out c) g ≡ g
other_out c d fed g ne = rw (other_place c d ne) refl

pub own_out : (c fed : ℕ) (g : GuestOf) → guest_acted c fed (Done.Out c) g ≡ record g { here = false; left = g.left + 1 }
own_out c fed g = rw (eq-eqb c c refl) refl

pub other_in : (c d fed : ℕ) (g : GuestOf) → d ≢ c → guest_acted d fed (Done.In c) g ≡ g
other_in c d fed g ne = rw (other_place c d ne) refl

pub own_in : (c fed : ℕ) (g : GuestOf) → guest_acted c fed (Done.In c) g ≡ record g { here = true; due = fed; came = g.came + 1; did = g.did ++ [] ∷ [] }
own_in c fed g = rw (eq-eqb c c refl) refl

-- what is so of an answer that is no Some
pub none_past : {R : Type 0} (r : Option R) (P : Type 0) (Q : R → Type 0) → MatchOption r P Q → ((x : R) → r ≡ Some x → ⊥) → P
none_past None P Q m no_one = m
none_past (Some x) P Q m no_one = absurd (no_one x refl)
