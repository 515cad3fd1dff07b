-- The first run of what a ring has left is entered at its home.
use Rattle.std.proofs.Common.{◌≡◌, ◌≢◌, ℕ, zero, suc, ◌+◌, ◌%◌, ◌<◌, ◌≤◌, ◌==◌, ◌&&◌, not, inl, inr, Bool, true, false, if◌then◌else◌, Option, Some, None, List, [], ◌∷◌, ◌++◌, length, take, drop, slice_get, refl, ap, sym, ◌∙◌, subst, arith, append_assoc}
use Rattle.std.proofs.lemmas.Bool.{cases_eq, eqb-true}
use Rattle.turn_gate.specs.History.{Each}
use Rattle.turn_gate.specs.Passes.{IsPassOf, number, seen}
use Rattle.turn_gate.specs.declared.pass.Pass.{Pass}
use Rattle.perimeter_core.specs.declared.entries.Feed.{Feed as FeedOf}
use Rattle.perimeter_core.specs.Perimeter.{Idle}
use Rattle.perimeter_core.specs.History.{Element, Limits, run}
use Rattle.squeue_state.specs.Naming.{Named, setting_of}
use Rattle.histories.specs.Elements.{number_of}
use Rattle.squeue_drain.specs.Draining.{GoesOn}
use Rattle.histories.specs.declared.mode.Mode.{Mode}
use Rattle.squeue_enter.specs.Entering.{Brought, MayEnter}
use Rattle.squeue_serve.specs.Places.{Became, Holds}
use Rattle.squeue_serve.proofs.Unused.{each_at}
use Rattle.histories.specs.Runs.{home_of, moves, run_of}
use Rattle.squeue_rings.specs.Rings.{AreNumbered, MayBring, RingAt}
use Rattle.squeue_rings.specs.Bringing.{AreAt, HasBrought, IsFar, IsReady}
use Rattle.squeue_rings.proofs.Entering.{Stay, may_enter_run, run_elsewhere, run_entered}
use Rattle.squeue_rings.proofs.Reaching.{held, hold}
use Rattle.squeue_rings.proofs.Noting.{noted_kept}
use Rattle.squeue_rings.proofs.RingStays.{alike_entered, alike_kept, at_place, linked_kept}
use Rattle.histories.proofs.StaysSeen.{AreAlike}
use Rattle.squeue_rings.proofs.Slots.{all_taken, at_got, at_length, at_made, take_next, three_parts}

pub cut : {A : Type 0} (n : ℕ) (xs : List A) → xs ≡ take n xs ++ drop n xs
cut zero xs = refl
cut (suc n) [] = refl
cut (suc n) (x ∷ xs) = ap (λ l. x ∷ l) (cut n xs)

module _ (squeues spread : ℕ) where
  pub run_within : (q : ℕ) (fs : List FeedOf) → run_of squeues spread q fs ≤ length fs
  run_within q [] = omega arith
  run_within q (f ∷ fs) = by ((home_of squeues spread f == q) && not (moves squeues spread f)) (run_within q fs)
    where
      by : (b : Bool) → run_of squeues spread q fs ≤ length fs → (if b then 1 + run_of squeues spread q fs else 0) ≤ suc (length fs)
      by true h = omega (arith, h)
      by false h = omega arith

  -- all feeds of a run stay at its home
  pub run_stays : (q : ℕ) (fs : List FeedOf) → Each (Stay squeues spread q) (take (run_of squeues spread q fs) fs)
  run_stays q [] = tt
  run_stays q (f ∷ fs) = by (home_of squeues spread f == q) (moves squeues spread f) refl refl (run_stays q fs)
    where
      by : (a b : Bool) → (home_of squeues spread f == q) ≡ a → moves squeues spread f ≡ b → Each (Stay squeues spread q) (take (run_of squeues spread q fs) fs) → Each (Stay squeues spread q) (take (if a && not b then 1 + run_of squeues spread q fs else 0) (f ∷ fs))
      by true false i j h = let e : 1 + run_of squeues spread q fs ≡ suc (run_of squeues spread q fs) = omega arith in rw e ((eqb-true (home_of squeues spread f) q i, j), h)
      by true true i j h = tt
      by false b i j h = tt

module _ {R : Type 0} (limits : R → Limits) (squeues spread r : ℕ) (list : List FeedOf) (ss : List (Named R)) (done feeds behind : List FeedOf) (old : List (Option (Pass Element))) (ready : IsReady limits squeues spread r list ss done feeds behind old) (f : FeedOf) (tail : List FeedOf) (is : feeds ≡ f ∷ tail) where
  abbrev pub q : ℕ
  q = home_of squeues spread f

  abbrev pub fs : List FeedOf
  fs = take (run_of squeues spread q tail) tail

  abbrev pub rest : List FeedOf
  rest = drop (run_of squeues spread q tail) tail ++ behind

  -- first the feed alone is to be reached
  pub first_ready : IsReady limits squeues spread r list ss done (f ∷ []) (tail ++ behind) old
  first_ready = record { is = ready.is ∙ ap (λ (l : List FeedOf). done ++ (l ++ behind)) is; all = ready.all; at = ready.at }

  cut_so : list ≡ done ++ ((f ∷ fs) ++ rest)
  cut_so = ready.is ∙ (ap (λ (l : List FeedOf). done ++ (l ++ behind)) is ∙ ap (λ (l : List FeedOf). done ++ (f ∷ l)) (ap (λ (l : List FeedOf). l ++ behind) (cut (run_of squeues spread q tail) tail) ∙ append_assoc fs (drop (run_of squeues spread q tail) tail) behind))

  stay : Each (Stay squeues spread q) fs
  stay = run_stays squeues spread q tail

  pub run_is : (n : ℕ) → n ≡ 1 + run_of squeues spread q tail → take n feeds ≡ f ∷ fs
  run_is n e = let k : n ≡ suc (run_of squeues spread q tail) = omega (arith, e) in ap (λ (m : ℕ). take m feeds) k ∙ ap (take (suc (run_of squeues spread q tail))) is

  module _ (mid : List (Option (Pass Element))) (at : AreAt limits squeues spread r ss done (done ++ f ∷ []) mid) (s : Named R) (here : slice_get ss q ≡ Some s) (numbered : AreNumbered ss) where
    may : MayBring limits squeues spread r list s
    may = each_at (MayBring limits squeues spread r list) ss q s ready.all.may here

    pub may_enter : (o : Option (Pass Element)) (es : List FeedOf) → slice_get mid q ≡ Some o → es ≡ f ∷ fs → Holds (λ x. MayEnter limits s x es) o
    may_enter o es it e =
        let x = held (RingAt limits squeues spread r done (done ++ f ∷ []) s) o (at_got (λ s o. Holds (RingAt limits squeues spread r done (done ++ f ∷ []) s) o) ss mid q s o at.each here it) in
        hold (λ x. MayEnter limits s x es) x.0 o x.1 (subst (MayEnter limits s x.0) (sym e) (may_enter_run limits squeues spread r list done fs rest f ready.all.order cut_so stay s x.0 may x.2 (numbered q s here)))

    became : (P : Pass Element → Pass Element → Type 0) (x : Pass Element) (o n : Option (Pass Element)) → o ≡ Some x → Became P o n → (y : Pass Element) × (n ≡ Some y) × P x y
    became P x o n e h = by n (subst (λ (o : Option (Pass Element)). Became P o n) e h)
      where
        by : (n : Option (Pass Element)) → Became P (Some x) n → (y : Pass Element) × (n ≡ Some y) × P x y
        by None h = absurd h
        by (Some y) h = (y, refl, h)

    pub all_entered : (o n : Option (Pass Element)) (es : List FeedOf) (mode : Mode) (budget : ℕ) (new : List (Option (Pass Element))) → slice_get mid q ≡ Some o → es ≡ f ∷ fs → Became (λ x y. HasBrought limits s mode budget es x y) o n → length new ≡ length mid → slice_get new q ≡ Some n
        → ((k : ℕ) → k ≢ q → slice_get new k ≡ slice_get mid k) → AreAt limits squeues spread r ss (done ++ es) (done ++ es) new
    all_entered o n es mode budget new it e ran counted now others =
        subst (λ (es : List FeedOf). AreAt limits squeues spread r ss (done ++ es) (done ++ es) new) (sym e)
        (record {
          each = at_made (λ s o. Holds (RingAt limits squeues spread r (done ++ f ∷ fs) (done ++ f ∷ fs) s) o) ss new (counted ∙ long) each;
          linked = λ c owned. linked_kept limits ss c mid new long (counted ∙ long) (alike c owned) (at.linked c owned);
          noted = λ c owned. noted_kept limits ss c spread mid new long (counted ∙ long) (alike c owned) (at.noted c owned);
        })
      where
        P : Named R → Pass Element → Type 0
        P t = RingAt limits squeues spread r (done ++ f ∷ fs) (done ++ f ∷ fs) t

        long : length mid ≡ length ss
        long = at_length (λ s o. Holds (RingAt limits squeues spread r done (done ++ f ∷ []) s) o) ss mid at.each

        x : (x : Pass Element) × (o ≡ Some x) × RingAt limits squeues spread r done (done ++ f ∷ []) s x
        x = held (RingAt limits squeues spread r done (done ++ f ∷ []) s) o (at_got (λ s o. Holds (RingAt limits squeues spread r done (done ++ f ∷ []) s) o) ss mid q s o at.each here it)

        y : (y : Pass Element) × (n ≡ Some y) × HasBrought limits s mode budget es x.0 y
        y = became (λ x y. HasBrought limits s mode budget es x y) x.0 o n x.1 ran

        alike : (c : ℕ) → Each (λ s. (r ≡ c % s.given.rings) × (c < length s.given.starts)) ss → (k : ℕ) → AreAlike (at_place limits ss c mid k) (at_place limits ss c new k)
        alike c owned =
            let ring : number x.0 ≡ c % s.given.rings = x.2.is_number ∙ (each_at (λ s. (r ≡ c % s.given.rings) × (c < length s.given.starts)) ss q s owned here).0 in
            let b = y.2 in
            let on = subst (GoesOn limits s x.0) (sym b.its_pass) b.entered.goes_on in
            alike_entered limits ss c mid new q s x.0 y.0 here (it ∙ ap Some x.1) (now ∙ ap Some y.1) others
            (alike_kept limits ss c s x.0 y.0 on (b.brought.here c ring) (b.brought.left c ring))

        at_home : P s y.0
        at_home =
            let b = y.2 in
            let h = b.entered.goes_on in
            run_entered limits squeues spread r list done fs rest f ready.all.order cut_so stay s x.0 may x.2 y.0 (numbered q s here) (subst (IsPassOf number_of s.gate) (sym b.its_pass) h.is_pass) (ap number b.its_pass ∙ h.same_number)
            (subst (λ (z : Pass Element). Idle (run (setting_of limits s.given) (seen z)) (number x.0)) (sym b.its_pass) b.entered.idle) (subst (λ (es : List FeedOf). Brought limits s es x.0 y.0) e b.brought)

        each : (k : ℕ) (t : Named R) (p : Option (Pass Element)) → slice_get ss k ≡ Some t → slice_get new k ≡ Some p → Holds (P t) p
        each k t p there got =
            elim (cases_eq k q) [
              | inl i ↦
                  let a : t ≡ s = (let d : Some t ≡ Some s = sym there ∙ (ap (slice_get ss) i ∙ here) in cc d) in
                  let b : p ≡ Some y.0 = (let d : Some p ≡ Some n = sym got ∙ (ap (slice_get new) i ∙ now) in let u : p ≡ n = cc d in u ∙ y.1) in
                  hold (P t) y.0 p b (subst (λ (t : Named R). P t y.0) (sym a) at_home)
              | inr away ↦
                  let u = held (RingAt limits squeues spread r done (done ++ f ∷ []) t) p (at_got (λ s o. Holds (RingAt limits squeues spread r done (done ++ f ∷ []) s) o) ss mid k t p at.each there (sym (others k away) ∙ got)) in
                  let m = each_at (MayBring limits squeues spread r list) ss k t ready.all.may there in
                  hold (P t) u.0 p u.1 (run_elsewhere limits squeues spread r list done fs rest f ready.all.order cut_so stay t u.0 m u.2 (λ h. away (sym (numbered k t there) ∙ h)))
            ]

-- behind a part of the piece the rest of it comes next
module _ {R : Type 0} (limits : R → Limits) (squeues spread r : ℕ) (list : List FeedOf) (ss : List (Named R)) (done piece behind : List FeedOf) (old : List (Option (Pass Element))) (ready : IsReady limits squeues spread r list ss done piece behind old) (front left : List FeedOf) (is : piece ≡ front ++ left) where
  pub goes_on : (now : List (Option (Pass Element))) → AreAt limits squeues spread r ss (done ++ front) (done ++ front) now → IsReady limits squeues spread r list ss (done ++ front) left behind now
  goes_on now at =
      record {
        is = ready.is ∙ (ap (λ (l : List FeedOf). done ++ (l ++ behind)) is ∙ (ap (λ (l : List FeedOf). done ++ l) (append_assoc front left behind) ∙ sym (append_assoc done front (left ++ behind))));
        all = ready.all;
        at = at;
      }

  pub further : (part : List FeedOf) (now : List (Option (Pass Element))) → AreAt limits squeues spread r ss ((done ++ front) ++ part) ((done ++ front) ++ part) now → AreAt limits squeues spread r ss (done ++ (front ++ part)) (done ++ (front ++ part)) now
  further part now at = subst (λ (l : List FeedOf). AreAt limits squeues spread r ss l l now) (append_assoc done front part) at

-- a first part of the piece comes next, and the rest of it behind that
pub part_ready : {R : Type 0} (limits : R → Limits) (squeues spread r : ℕ) (list : List FeedOf) (ss : List (Named R)) (done piece behind a b : List FeedOf) (old : List (Option (Pass Element))) → IsReady limits squeues spread r list ss done piece behind old → piece ≡ a ++ b
    → IsReady limits squeues spread r list ss done a (b ++ behind) old
part_ready limits squeues spread r list ss done piece behind a b old ready is =
    record { is = ready.is ∙ (ap (λ (l : List FeedOf). done ++ (l ++ behind)) is ∙ ap (λ (l : List FeedOf). done ++ l) (append_assoc a b behind)); all = ready.all; at = ready.at }

-- the next k feeds of the list
module _ {R : Type 0} (limits : R → Limits) (squeues spread r : ℕ) (list : List FeedOf) (ss : List (Named R)) (n k : ℕ) (places : List (Option (Pass Element))) (far : IsFar limits squeues spread r list ss n places) (piece : List FeedOf) (is : piece ≡ take k (drop n list)) where
  pub next_ready : IsReady limits squeues spread r list ss (take n list) piece (drop k (drop n list)) places
  next_ready = record { is = three_parts n k list ∙ ap (λ (l : List FeedOf). take n list ++ (l ++ drop k (drop n list))) (sym is); all = far.all; at = far.at }

  taken : take n list ++ piece ≡ take (n + k) list
  taken = ap (λ (l : List FeedOf). take n list ++ l) is ∙ take_next n k list

  pub next_far : (m : ℕ) (new : List (Option (Pass Element))) → m ≡ n + k → m ≤ length list → AreAt limits squeues spread r ss (take n list ++ piece) (take n list ++ piece) new → IsFar limits squeues spread r list ss m new
  next_far m new e le at =
      record {
        within = le;
        all = far.all;
        at = subst (λ (l : List FeedOf). AreAt limits squeues spread r ss l l new) (taken ∙ ap (λ (i : ℕ). take i list) (sym e)) at;
      }

  pub last_far : (new : List (Option (Pass Element))) → n + k ≡ length list → AreAt limits squeues spread r ss (take n list ++ piece) (take n list ++ piece) new → AreAt limits squeues spread r ss list list new
  last_far new e at = subst (λ (l : List FeedOf). AreAt limits squeues spread r ss l l new) (taken ∙ all_taken (n + k) list e) at
