-- A run of feeds with one home may be entered there, and what the ring's passes know afterwards.
use Rattle.std.proofs.Common.{◌≡◌, ◌≢◌, ℕ, ◌+◌, ◌-◌, ◌%◌, ◌<◌, ◌≤◌, ◌==◌, ◌⊎◌, inl, inr, Bool, true, false, List, [], ◌∷◌, ◌++◌, length, slice_index, refl, ap, sym, ◌∙◌, subst, arith, append_assoc}
use Rattle.std.proofs.lemmas.Bool.{cases_eq, eqb-true, eq-eqb, ne_eqb}
use Rattle.turn_gate.specs.History.{Each}
use Rattle.turn_gate.specs.Passes.{IsPassOf, number, seen}
use Rattle.turn_gate.specs.declared.pass.Pass.{Pass}
use Rattle.perimeter_core.specs.declared.entries.Feed.{Feed as FeedOf}
use Rattle.perimeter_core.specs.Perimeter.{State, Idle, is_here}
use Rattle.perimeter_core.specs.History.{Element, Limits, Setting, feed_quota, run}
use Rattle.perimeter_core.specs.Deeds.{due, entries}
use Rattle.perimeter_core.specs.Legal.{Enters, asks_by, feeds_by, one_more}
use Rattle.squeue_state.specs.Naming.{Named, setting_of}
use Rattle.histories.specs.Elements.{number_of}
use Rattle.squeue_enter.specs.Entering.{Brought, MayEnter}
use Rattle.histories.specs.Homes.{home}
use Rattle.histories.specs.Runs.{InOrder, brought, comes, count, home_of, is_at, is_left_by, leaves, moves, place}
use Rattle.squeue_rings.specs.Rings.{MayBring, RingAt}
use Rattle.squeue_rings.proofs.Counting.{brought_more, count_all, count_more, count_none, each_as, each_behind, each_front, number_below, number_is, other_more, own_more}
use Rattle.squeue_rings.proofs.Standing.{no_come, no_leave, not_left, place_before, place_kept, place_own, same_home}

-- the feeds behind the first of a run: at home at squeue q, without a move
abbrev pub Stay : ℕ → ℕ → ℕ → FeedOf → Type 0
Stay squeues spread q g = (home_of squeues spread g ≡ q) × (moves squeues spread g ≡ false)

module _ (squeues spread q : ℕ) where
  -- a connection of which a run has a feed was at squeue q when it began
  abbrev pub Known : List FeedOf → List FeedOf → ℕ → Type 0
  Known e0 e c = (brought c e ≡ brought c e0) ⊎ (place squeues spread c e0 ≡ q)

  pub placed : (list e0 e behind : List FeedOf) (g : FeedOf) → InOrder list → list ≡ e ++ g ∷ behind → Stay squeues spread q g → Known e0 e g.c → place squeues spread g.c e0 ≡ q
  placed list e0 e behind g order is stay known =
      elim known [
        | inl as_many ↦
            ap (λ (n : ℕ). home squeues spread g.c (n - 1)) (sym as_many) ∙ (place_before squeues spread e g (number_is list e behind g order is) ∙ (same_home squeues spread g stay.1 ∙ stay.0))
        | inr at ↦ at
      ]

  pub known_more : (list e0 e behind : List FeedOf) (g : FeedOf) → InOrder list → list ≡ e ++ g ∷ behind → Stay squeues spread q g → ((c : ℕ) → Known e0 e c) → (c : ℕ) → Known e0 (e ++ g ∷ []) c
  known_more list e0 e behind g order is stay known c =
      elim (cases_eq g.c c) [
        | inl is_it ↦ inr (subst (λ (c : ℕ). place squeues spread c e0 ≡ q) is_it (placed list e0 e behind g order is stay (known g.c)))
        | inr apart ↦ elim (known c) [ inl k ↦ inl (other_more c e g apart ∙ k) | inr k ↦ inr k ]
      ]

  further : (e fs behind : List FeedOf) (g : FeedOf) (list : List FeedOf) → list ≡ e ++ ((g ∷ fs) ++ behind) → list ≡ (e ++ g ∷ []) ++ (fs ++ behind)
  further e fs behind g list is = is ∙ sym (append_assoc e (g ∷ []) (fs ++ behind))

  -- through the whole run
  pub known_run : (list e0 e fs behind : List FeedOf) → InOrder list → list ≡ e ++ (fs ++ behind) → Each (Stay squeues spread q) fs → ((c : ℕ) → Known e0 e c) → (c : ℕ) → Known e0 (e ++ fs) c
  known_run list e0 e [] behind order is stay known c = elim (known c) [ inl k ↦ inl (brought_more c e [] ∙ (let z : brought c e + 0 ≡ brought c e = omega arith in z) ∙ k) | inr k ↦ inr k ]
  known_run list e0 e (g ∷ fs) behind order is stay known c =
      subst (λ (l : List FeedOf). Known e0 l c) (append_assoc e (g ∷ []) fs)
      (known_run list e0 (e ++ g ∷ []) fs behind order (further e fs behind g list is) stay.1 (known_more list e0 e (fs ++ behind) g order is stay.0 known) c)

  pub place_run : (list e fs behind : List FeedOf) (c : ℕ) → InOrder list → list ≡ e ++ (fs ++ behind) → Each (Stay squeues spread q) fs → place squeues spread c (e ++ fs) ≡ place squeues spread c e
  place_run list e [] behind c order is stay = ap (λ (n : ℕ). home squeues spread c (n - 1)) (brought_more c e [] ∙ (let z : brought c e + 0 ≡ brought c e = omega arith in z))
  place_run list e (g ∷ fs) behind c order is stay =
      ap (place squeues spread c) (sym (append_assoc e (g ∷ []) fs))
      ∙ (place_run list (e ++ g ∷ []) fs behind c order (further e fs behind g list is) stay.1 ∙ place_kept squeues spread c e g (number_is list e (fs ++ behind) g order is) stay.0.1)

  -- the feeds behind the first may be entered one after another
  pub enters_rest : (S : Setting) (st : State) (r n : ℕ) (list e0 e fs behind : List FeedOf) (next : ℕ → ℕ) → InOrder list → list ≡ e ++ (fs ++ behind) → Each (Stay squeues spread q) fs → Each (λ (f : FeedOf). (r ≡ f.c % S.rings) × (f.c < n)) fs
      → ((c : ℕ) → brought c list ≤ slice_index S.limits.feeds c) → ((c : ℕ) → r ≡ c % S.rings → c < n → place squeues spread c e0 ≡ q → is_here st c ≡ true) → ((c : ℕ) → r ≡ c % S.rings → c < n → place squeues spread c e0 ≡ q → next c ≡ brought c e)
      → ((c : ℕ) → Known e0 e c) → Enters S st r next (entries fs)
  enters_rest S st r n list e0 e [] behind next order is stay own within here due known = tt
  enters_rest S st r n list e0 e (g ∷ fs) behind next order is stay own within here due known =
      let at = placed list e0 e (fs ++ behind) g order is stay.0 (known g.c) in
      let m = number_is list e (fs ++ behind) g order is in
      let below = number_below list e (fs ++ behind) g order is in
      let most = within g.c in (
        own.0.0,
        here g.c own.0.0 own.0.1 at,
        m ∙ sym (due g.c own.0.0 own.0.1 at),
        omega (arith, below, most),
        enters_rest S st r n list e0 (e ++ g ∷ []) fs behind (one_more g.c next) order (further e fs behind g list is) stay.1 own.1 within here
            (λ c ring lt there. one_further e g next c (due c ring lt there)) (known_more list e0 e (fs ++ behind) g order is stay.0 known),
      )
    where
      one_further : (e : List FeedOf) (g : FeedOf) (next : ℕ → ℕ) (c : ℕ) → next c ≡ brought c e → one_more g.c next c ≡ brought c (e ++ g ∷ [])
      one_further e g next c is =
          elim (cases_eq g.c c) [
            | inl is_it ↦ subst (λ (d : ℕ). next d ≡ brought d e → one_more g.c next d ≡ brought d (e ++ g ∷ [])) is_it
                (λ h. rw (eq-eqb g.c g.c refl) (let o = own_more e g in omega (arith, h, o))) is
            | inr apart ↦ rw (ne_eqb g.c c apart) (is ∙ sym (other_more c e g apart))
          ]

module _ {R : Type 0} (limits : R → Limits) (squeues spread r : ℕ) (list done fs behind : List FeedOf) (f : FeedOf) (order : InOrder list) (is : list ≡ done ++ ((f ∷ fs) ++ behind)) where
  abbrev q : ℕ
  q = home_of squeues spread f

  abbrev e0 : List FeedOf
  e0 = done ++ f ∷ []

  from_e0 : list ≡ e0 ++ (fs ++ behind)
  from_e0 = is ∙ sym (append_assoc done (f ∷ []) (fs ++ behind))

  f_number : f.n ≡ brought f.c done
  f_number = number_is list done (fs ++ behind) f order is

  at_home : place squeues spread f.c e0 ≡ q
  at_home = place_own squeues spread done f f_number

  module _ (stay : Each (Stay squeues spread q) fs) where
    whole : e0 ++ fs ≡ done ++ f ∷ fs
    whole = append_assoc done (f ∷ []) fs

    placed_same : (c : ℕ) → place squeues spread c (done ++ f ∷ fs) ≡ place squeues spread c e0
    placed_same c = ap (place squeues spread c) (sym whole) ∙ place_run squeues spread q list e0 fs behind c order from_e0 stay

    counted_same : (test : FeedOf → Bool) → Each (λ (g : FeedOf). test g ≡ false) fs → count test (done ++ f ∷ fs) ≡ count test e0
    counted_same test none = ap (count test) (sym whole) ∙ (count_more test e0 fs ∙ (let z = count_none test fs none in let e : count test e0 + count test fs ≡ count test e0 = omega (arith, z) in e))

    -- how many more feeds of a connection that isn't at squeue q there are: none
    none_elsewhere : (c : ℕ) → place squeues spread c (done ++ f ∷ fs) ≢ q → brought c (done ++ f ∷ fs) ≡ brought c done
    none_elsewhere c away =
        let other : f.c ≢ c = λ is_it. away (placed_same c ∙ subst (λ (d : ℕ). place squeues spread d e0 ≡ q) is_it at_home) in
        elim (known_run squeues spread q list e0 e0 fs behind order from_e0 stay (λ d. inl refl) c) [
          | inl as_many ↦ ap (brought c) (sym whole) ∙ (as_many ∙ other_more c done f other)
          | inr at ↦ absurd (away (placed_same c ∙ at))
        ]

    module _ (s : Named R) (x : Pass Element) (may : MayBring limits squeues spread r list s) (known : RingAt limits squeues spread r done e0 s x) where
      abbrev pub S : Setting
      S = setting_of limits s.given

      own_run : Each (λ (g : FeedOf). (r ≡ g.c % s.given.rings) × (g.c < length s.given.starts)) (f ∷ fs)
      own_run = each_front (λ (g : FeedOf). (r ≡ g.c % s.given.rings) × (g.c < length s.given.starts)) (f ∷ fs) behind
          (each_behind (λ (g : FeedOf). (r ≡ g.c % s.given.rings) × (g.c < length s.given.starts)) done ((f ∷ fs) ++ behind) (subst (Each (λ (g : FeedOf). (r ≡ g.c % s.given.rings) × (g.c < length s.given.starts))) is may.own))

      all_at : Each (λ (g : FeedOf). is_at squeues spread q g ≡ true) (f ∷ fs)
      all_at = (eq-eqb q q refl, each_as fs (λ g t. eq-eqb (home_of squeues spread g) q t.0) stay)

      -- the run may be entered at its home
      pub may_enter_run : s.given.number ≡ q → MayEnter limits s x (f ∷ fs)
      may_enter_run here =
          let at : (c : ℕ) → place squeues spread c e0 ≡ q → place squeues spread c e0 ≡ s.given.number = λ c e. e ∙ sym here in
          record {
            pass = known.pass;
            no_worker = omega (arith, known.is_number, may.no_worker);
            idle = subst (Idle (run S (seen x))) (sym known.is_number) known.idle;
            enters = subst (λ (p : ℕ). Enters S (run S (seen x)) p (due (seen x)) (entries (f ∷ fs))) (sym known.is_number) (
              own_run.0.0,
              is_there f.c own_run.0.0 own_run.0.1 (at f.c at_home),
              f_number ∙ sym (known.next f.c own_run.0.0 own_run.0.1 (at f.c at_home)),
              (let b = number_below list done (fs ++ behind) f order is in let m = may.within f.c in omega (arith, b, m)),
              enters_rest squeues spread q S (run S (seen x)) r (length s.given.starts) list e0 e0 fs behind (one_more f.c (due (seen x))) order from_e0 stay own_run.1 may.within
                  (λ c ring lt e. is_there c ring lt (at c e)) (λ c ring lt e. first_further c (known.next c ring lt (at c e))) (λ c. inl refl),
            );
            quota =
                let n = ap (λ (l : List FeedOf). count (is_at squeues spread s.given.number) l) is ∙ (count_more (is_at squeues spread s.given.number) done ((f ∷ fs) ++ behind)) in
                let m = count_more (is_at squeues spread s.given.number) (f ∷ fs) behind in
                let k = ap (λ (h : ℕ). count (is_at squeues spread h) (f ∷ fs)) here ∙ count_all (is_at squeues spread q) (f ∷ fs) all_at in
                let had = ap (λ (p : ℕ). feeds_by p (seen x)) known.is_number ∙ known.feeds in
                let quota : feed_quota S (number x) ≡ feed_quota S r = ap (feed_quota S) known.is_number in
                omega (arith, n, m, k, had, quota, may.feeds);
          }
        where
          is_there : (c : ℕ) → r ≡ c % s.given.rings → c < length s.given.starts → place squeues spread c e0 ≡ s.given.number → is_here (run S (seen x)) c ≡ true
          is_there c ring lt e = known.here c ring lt ∙ eq-eqb (place squeues spread c e0) s.given.number e

          first_further : (c : ℕ) → due (seen x) c ≡ brought c done → one_more f.c (due (seen x)) c ≡ brought c e0
          first_further c h =
              elim (cases_eq f.c c) [
                | inl is_it ↦ subst (λ (d : ℕ). due (seen x) d ≡ brought d done → one_more f.c (due (seen x)) d ≡ brought d e0) is_it
                    (λ k. rw (eq-eqb f.c f.c refl) (let o = own_more done f in omega (arith, k, o))) h
                | inr apart ↦ rw (ne_eqb f.c c apart) (h ∙ sym (other_more c done f apart))
              ]

      still_leaves : (c : ℕ) → count (is_left_by squeues spread c s.given.number) (done ++ f ∷ fs) ≡ count (is_left_by squeues spread c s.given.number) e0
      still_leaves c = counted_same (is_left_by squeues spread c s.given.number) (each_as fs (λ g t. not_left squeues spread c s.given.number g t.1) stay)

      same_moves : count (leaves squeues spread s.given.number) (done ++ f ∷ fs) + count (comes squeues spread s.given.number) (done ++ f ∷ fs) ≡ count (leaves squeues spread s.given.number) e0 + count (comes squeues spread s.given.number) e0
      same_moves =
          let a = counted_same (leaves squeues spread s.given.number) (each_as fs (λ g t. no_leave squeues spread s.given.number g t.1) stay) in
          let b = counted_same (comes squeues spread s.given.number) (each_as fs (λ g t. no_come squeues spread s.given.number g t.1) stay) in
          omega (arith, a, b)

      -- what the pass of the run's home knows when it is entered
      pub run_entered : (y : Pass Element) → s.given.number ≡ q → IsPassOf number_of s.gate y → number y ≡ number x → Idle (run S (seen y)) (number x) → Brought limits s (f ∷ fs) x y → RingAt limits squeues spread r (done ++ f ∷ fs) (done ++ f ∷ fs) s y
      run_entered y here pass its_number idle b =
          record {
            pass = pass;
            is_number = its_number ∙ known.is_number;
            idle = subst (Idle (run S (seen y))) known.is_number idle;
            feeds =
                let k = ap (λ (h : ℕ). count (is_at squeues spread h) (f ∷ fs)) here ∙ count_all (is_at squeues spread q) (f ∷ fs) all_at in
                let m = count_more (is_at squeues spread s.given.number) done (f ∷ fs) in
                let had : feeds_by r (seen x) ≡ count (is_at squeues spread s.given.number) done = known.feeds in
                let now : feeds_by r (seen y) ≡ feeds_by r (seen x) + length (f ∷ fs) = subst (λ (p : ℕ). feeds_by p (seen y) ≡ feeds_by p (seen x) + length (f ∷ fs)) known.is_number b.feeds in
                omega (arith, k, m, had, now);
            asks =
                let now : asks_by r (seen y) ≡ asks_by r (seen x) = subst (λ (p : ℕ). asks_by p (seen y) ≡ asks_by p (seen x)) known.is_number b.asks in
                now ∙ (known.asks ∙ sym same_moves);
            here = λ c ring lt. b.here c (known.is_number ∙ ring) ∙ (known.here c ring lt ∙ ap (λ (p : ℕ). p == s.given.number) (sym (placed_same c)));
            next = λ c ring lt at.
                let had = known.next c ring lt (sym (placed_same c) ∙ at) in
                let m = brought_more c done (f ∷ fs) in
                let now = b.next c (known.is_number ∙ ring) in
                omega (arith, had, m, now);
            left = λ c ring. b.left c (known.is_number ∙ ring) ∙ (known.left c ring ∙ sym (still_leaves c));
          }

      -- and the passes of the others
      pub run_elsewhere : s.given.number ≢ q → RingAt limits squeues spread r (done ++ f ∷ fs) (done ++ f ∷ fs) s x
      run_elsewhere away =
          record {
            pass = known.pass;
            is_number = known.is_number;
            idle = known.idle;
            feeds =
                let m = count_more (is_at squeues spread s.given.number) done (f ∷ fs) in
                let none = count_none (is_at squeues spread s.given.number) (f ∷ fs) (each_as (f ∷ fs) (λ g t. ne_eqb (home_of squeues spread g) s.given.number (λ e. away (sym e ∙ eqb-true (home_of squeues spread g) q t))) all_at) in
                known.feeds ∙ (let e : count (is_at squeues spread s.given.number) done ≡ count (is_at squeues spread s.given.number) (done ++ f ∷ fs) = omega (arith, m, none) in e);
            asks = known.asks ∙ sym same_moves;
            here = λ c ring lt. known.here c ring lt ∙ ap (λ (p : ℕ). p == s.given.number) (sym (placed_same c));
            next = λ c ring lt at. known.next c ring lt (sym (placed_same c) ∙ at) ∙ sym (none_elsewhere c (λ e. away (sym at ∙ e)));
            left = λ c ring. known.left c ring ∙ sym (still_leaves c);
          }
