-- The next feed of a ring is reached: its connection is moved where it isn't at home.
use Rattle.std.proofs.Common.{◌≡◌, ◌≢◌, ℕ, zero, suc, ◌+◌, ◌/◌, ◌%◌, ◌<◌, ◌≤◌, ◌==◌, ◌&&◌, not, inl, inr, Bool, true, false, if◌then◌else◌, Option, Some, None, List, [], ◌∷◌, ◌++◌, length, slice_get, refl, ap, sym, ◌∙◌, subst, arith}
use Rattle.std.proofs.lemmas.Bool.{cases_eq, eq-eqb, ne_eqb}
use Rattle.turn_gate.specs.History.{Each}
use Rattle.turn_gate.specs.Passes.{number, seen}
use Rattle.turn_gate.specs.declared.pass.Pass.{Pass}
use Rattle.perimeter_core.specs.declared.entries.Feed.{Feed as FeedOf}
use Rattle.perimeter_core.specs.declared.marks.SynchAct.TheVariants as Done
use Rattle.perimeter_core.specs.Perimeter.{Idle, is_here}
use Rattle.perimeter_core.specs.History.{Element, Limits, ask_quota, run}
use Rattle.perimeter_core.specs.Deeds.{acts, due, fed, times_left}
use Rattle.perimeter_core.specs.Legal.{asks_by}
use Rattle.squeue_state.specs.Naming.{Named, setting_of}
use Rattle.synch_enter.specs.Synch.{MayAsk}
use Rattle.conn_migrate.specs.Moving.{MayCome, MayLeave}
use Rattle.histories.specs.Stays.{IsLinked}
use Rattle.conn_migrate.proofs.NextFeeds.{fed_is_due}
use Rattle.squeue_serve.specs.Places.{Holds}
use Rattle.squeue_serve.proofs.Unused.{each_at}
use Rattle.histories.specs.Runs.{brought, comes, count, home_before, home_of, is_left_by, leaves, moves, place}
use Rattle.squeue_rings.specs.Rings.{AreNumbered, MayBring, RingAt}
use Rattle.squeue_rings.specs.Bringing.{AreAt, HasMoved, IsReady}
use Rattle.histories.specs.Noted.{AreNoted}
use Rattle.squeue_rings.specs.Seen.{seen_ends}
use Rattle.squeue_rings.proofs.Counting.{count_more, each_behind, number_is}
use Rattle.squeue_rings.proofs.Standing.{other_home, place_before}
use Rattle.squeue_rings.proofs.Moving.{has_come, has_left, not_moved, reached}
use Rattle.squeue_rings.proofs.Leaving.{gone_round}
use Rattle.squeue_rings.proofs.Noting.{noted_kept, noted_own}
use Rattle.squeue_rings.proofs.RingStays.{alike_others, at_place, linked_kept, linked_own}
use Rattle.squeue_rings.proofs.Slots.{at_got, at_length, at_made, within}
use Rattle.histories.proofs.StaysSeen.{AreAlike}

pub held : (P : Pass Element → Type 0) (o : Option (Pass Element)) → Holds P o → (x : Pass Element) × (o ≡ Some x) × P x
held P None h = absurd h
held P (Some x) h = (x, refl, h)

pub hold : (P : Pass Element → Type 0) (x : Pass Element) (o : Option (Pass Element)) → o ≡ Some x → P x → Holds P o
hold P x o is h = let r : Holds P (Some x) = h in subst (Holds P) (sym is) r

module _ {R : Type 0} (limits : R → Limits) (squeues spread r : ℕ) (list : List FeedOf) (ss : List (Named R)) (done behind : List FeedOf) (f : FeedOf) (old : List (Option (Pass Element)))
    (ready : IsReady limits squeues spread r list ss done (f ∷ []) behind old) where
  abbrev pub f_number : f.n ≡ brought f.c done
  f_number = number_is list done behind f ready.all.order ready.is

  pub own : (k : ℕ) (s : Named R) → slice_get ss k ≡ Some s → (r ≡ f.c % s.given.rings) × (f.c < length s.given.starts)
  own k s is =
      let m = each_at (MayBring limits squeues spread r list) ss k s ready.all.may is in
      (each_behind (λ (g : FeedOf). (r ≡ g.c % s.given.rings) × (g.c < length s.given.starts)) done (f ∷ behind) (subst (Each (λ (g : FeedOf). (r ≡ g.c % s.given.rings) × (g.c < length s.given.starts))) ready.is m.own)).0

  at : (k : ℕ) (s : Named R) (x : Pass Element) → slice_get ss k ≡ Some s → slice_get old k ≡ Some (Some x) → RingAt limits squeues spread r done done s x
  at k s x is it = at_got (λ s o. Holds (RingAt limits squeues spread r done done s) o) ss old k s (Some x) ready.at.each is it

  -- what a test finds in the list is what it finds in the front, at the feed and behind it
  found : (test : FeedOf → Bool) → count test list ≡ count test done + ((if test f then 1 else 0) + count test behind)
  found test = ap (count test) ready.is ∙ count_more test done (f ∷ behind)

  found_more : (test : FeedOf → Bool) → test f ≡ true → count test done < count test list
  found_more test is_so = by (test f) is_so (found test)
    where
      by : (b : Bool) → b ≡ true → count test list ≡ count test done + ((if b then 1 else 0) + count test behind) → count test done < count test list
      by true e n = omega (arith, n)
      by false e n = cc e

  found_as_many : (test : FeedOf → Bool) → count test done ≤ count test list
  found_as_many test = let n = found test in omega (arith, n)

  module _ (moved : moves squeues spread f ≡ true) where
    apart : home_before squeues spread f ≢ home_of squeues spread f
    apart = other_home squeues spread f moved

    and_not : (a b : Bool) → a ≡ true → b ≡ false → (a && not b) ≡ true
    and_not a b i j = ap (λ (x : Bool). x && not b) i ∙ ap not j

    not_and : (a b : Bool) → a ≡ false → b ≡ true → (not a && b) ≡ true
    not_and a b i j = ap (λ (x : Bool). not x && b) i ∙ j

    and_both : (a b : Bool) → a ≡ true → b ≡ true → (a && b) ≡ true
    and_both a b i j = ap (λ (x : Bool). x && b) i ∙ j

    may_ask : (k : ℕ) (s : Named R) (x : Pass Element) → slice_get ss k ≡ Some s → RingAt limits squeues spread r done done s x → count (leaves squeues spread s.given.number) done + count (comes squeues spread s.given.number) done < count (leaves squeues spread s.given.number) list + count (comes squeues spread s.given.number) list
        → MayAsk limits s x
    may_ask k s x is known fewer =
        let m = each_at (MayBring limits squeues spread r list) ss k s ready.all.may is in
        record {
          pass = known.pass;
          no_worker = omega (arith, known.is_number, m.no_worker);
          idle = subst (Idle (run (setting_of limits s.given) (seen x))) (sym known.is_number) known.idle;
          quota =
              subst (λ (p : ℕ). asks_by p (seen x) < ask_quota (setting_of limits s.given) p) (sym known.is_number)
              (let a = known.asks in let b = m.asks in omega (arith, a, b, fewer));
        }

    pub may_leave : (s : Named R) (x : Pass Element) → slice_get ss (home_before squeues spread f) ≡ Some s → s.given.number ≡ home_before squeues spread f → slice_get old (home_before squeues spread f) ≡ Some (Some x) → MayLeave limits s f.c x
    may_leave s x is here it =
        let known = at (home_before squeues spread f) s x is it in
        let q = s.given.number in
        let o = own (home_before squeues spread f) s is in
        let m = each_at (MayBring limits squeues spread r list) ss (home_before squeues spread f) s ready.all.may is in
        let from : (home_before squeues spread f == q) ≡ true = eq-eqb (home_before squeues spread f) q (sym here) in
        let to : (home_of squeues spread f == q) ≡ false = ne_eqb (home_of squeues spread f) q (λ e. apart (sym here ∙ sym e)) in
        let l : leaves squeues spread q f ≡ true = and_not (home_before squeues spread f == q) (home_of squeues spread f == q) from to in
        record {
          may_ask = may_ask (home_before squeues spread f) s x is known (let a = found_more (leaves squeues spread q) l in let b = found_as_many (comes squeues spread q) in omega (arith, a, b));
          ring = known.is_number ∙ o.0;
          here = known.here f.c o.0 o.1 ∙ eq-eqb (place squeues spread f.c done) q (place_before squeues spread done f f_number ∙ sym here);
          leaves =
              let a = found_more (is_left_by squeues spread f.c q) (and_both (f.c == f.c) (leaves squeues spread q f) (eq-eqb f.c f.c refl) l) in
              let b = known.left f.c o.0 in
              let n = m.leaving f.c in
              omega (arith, a, b, n);
        }

    pub may_come : (s : Named R) (x : Pass Element) → slice_get ss (home_of squeues spread f) ≡ Some s → s.given.number ≡ home_of squeues spread f → slice_get old (home_of squeues spread f) ≡ Some (Some x) → MayCome limits s f.c x
    may_come s x is here it =
        let known = at (home_of squeues spread f) s x is it in
        let q = s.given.number in
        let o = own (home_of squeues spread f) s is in
        let from : (home_before squeues spread f == q) ≡ false = ne_eqb (home_before squeues spread f) q (λ e. apart (e ∙ here)) in
        let to : (home_of squeues spread f == q) ≡ true = eq-eqb (home_of squeues spread f) q (sym here) in
        let l : comes squeues spread q f ≡ true = not_and (home_before squeues spread f == q) (home_of squeues spread f == q) from to in
        record {
          may_ask = may_ask (home_of squeues spread f) s x is known (let a = found_more (comes squeues spread q) l in let b = found_as_many (leaves squeues spread q) in omega (arith, a, b));
          ring = known.is_number ∙ o.0;
          range = o.1;
          away = known.here f.c o.0 o.1 ∙ ne_eqb (place squeues spread f.c done) q (λ e. apart (sym (place_before squeues spread done f f_number) ∙ (e ∙ here)));
        }

    -- all passes of the ring know it
    pub moved_all : (new : List (Option (Pass Element))) → length ss ≡ squeues → AreNumbered ss → HasMoved limits squeues spread f ss old new
        → AreAt limits squeues spread r ss done (done ++ f ∷ []) new
    moved_all new total numbered h =
        record {
          each =
              let P = λ (s : Named R) (o : Option (Pass Element)). Holds (RingAt limits squeues spread r done (done ++ f ∷ []) s) o in
              at_made P ss new (h.count ∙ long) (λ k s o is it. each k s o is it);
          linked = λ c owned.
              elim (cases_eq f.c c) [
                | inl e ↦
                    subst (λ (d : ℕ). IsLinked (seen_ends limits ss old) d → IsLinked (seen_ends limits ss new) d) e
                    (linked_own limits squeues spread f ss old new h long total moved here away) (ready.at.linked c owned)
                | inr other ↦ linked_kept limits ss c old new long (h.count ∙ long) (others c owned other) (ready.at.linked c owned)
              ];
          noted = λ c owned.
              elim (cases_eq f.c c) [
                | inl e ↦
                    subst (λ (d : ℕ). AreNoted spread (seen_ends limits ss old) d → AreNoted spread (seen_ends limits ss new) d) e
                    (noted_own limits squeues spread f ss old new h long total moved here away has_all gone_so_often) (ready.at.noted c owned)
                | inr other ↦ noted_kept limits ss c spread old new long (h.count ∙ long) (others c owned other) (ready.at.noted c owned)
              ];
        }
      where
        IsOwn : ℕ → Named R → Type 0
        IsOwn c s = (r ≡ c % s.given.rings) × (c < length s.given.starts)

        long : length old ≡ length ss
        long = at_length (λ s o. Holds (RingAt limits squeues spread r done done s) o) ss old ready.at.each

        hb : ℕ
        hb = home_before squeues spread f

        ho : ℕ
        ho = home_of squeues spread f

        was_a : RingAt limits squeues spread r done done h.a h.pa
        was_a = at hb h.a h.pa h.from h.was_from

        was_b : RingAt limits squeues spread r done done h.b h.pb
        was_b = at ho h.b h.pb h.to h.was_to

        here : is_here (run (setting_of limits h.a.given) (seen h.pa)) f.c ≡ true
        here =
            let o = own hb h.a h.from in
            was_a.here f.c o.0 o.1 ∙ eq-eqb (place squeues spread f.c done) h.a.given.number (place_before squeues spread done f f_number ∙ sym (numbered hb h.a h.from))

        away : is_here (run (setting_of limits h.b.given) (seen h.pb)) f.c ≡ false
        away =
            let o = own ho h.b h.to in
            was_b.here f.c o.0 o.1 ∙ ne_eqb (place squeues spread f.c done) h.b.given.number (λ e. apart (sym (place_before squeues spread done f f_number) ∙ (e ∙ numbered ho h.b h.to)))

        others : (c : ℕ) → Each (IsOwn c) ss → f.c ≢ c → (k : ℕ) → AreAlike (at_place limits ss c old k) (at_place limits ss c new k)
        others c owned other =
            let pa : number h.pa ≡ c % h.a.given.rings = was_a.is_number ∙ (each_at (IsOwn c) ss hb h.a owned h.from).0 in
            let pb : number h.pb ≡ c % h.b.given.rings = was_b.is_number ∙ (each_at (IsOwn c) ss ho h.b owned h.to).0 in
            alike_others limits squeues spread f ss old new h long c (h.left.others c (λ e. other (sym e)) pa) (h.come.others c (λ e. other (sym e)) pb)

        -- the block has had all feeds before this one, and left the squeue where it comes once for each round
        was_due : due (seen h.pa) f.c ≡ brought f.c done
        was_due = was_a.next f.c (own hb h.a h.from).0 (own hb h.a h.from).1 (place_before squeues spread done f f_number ∙ sym (numbered hb h.a h.from))

        has_all : fed (acts (setting_of limits h.a.given) (seen h.qa) f.c) ≡ f.n
        has_all = fed_is_due h.out ∙ (h.next ∙ (was_due ∙ sym f_number))

        gone_so_often : times_left f.c (seen h.pb) ≡ f.n / spread / squeues
        gone_so_often =
            let lt = within ss ho h.b h.to in
            was_b.left f.c (own ho h.b h.to).0
            ∙ (ap (λ (q : ℕ). count (is_left_by squeues spread f.c q) done) (numbered ho h.b h.to)
            ∙ gone_round squeues spread list done behind f (omega (arith, lt, total)) ready.all.order ready.is moved)

        at_a : RingAt limits squeues spread r done (done ++ f ∷ []) h.a h.qa
        at_a = has_left limits squeues spread r done f f_number moved h.a h.pa h.qa (Done.Out f.c) [] (numbered hb h.a h.from) (own hb h.a h.from).0 was_a h.out h.left

        at_b : RingAt limits squeues spread r done (done ++ f ∷ []) h.b h.qb
        at_b = has_come limits squeues spread r done f f_number moved h.b h.pb h.qb (Done.In f.c) (acts (setting_of limits h.a.given) (seen h.qa) f.c) (numbered ho h.b h.to) (own ho h.b h.to).0
            (h.due ∙ (h.next ∙ was_due))
            was_b h.put h.come

        each : (k : ℕ) (s : Named R) (o : Option (Pass Element)) → slice_get ss k ≡ Some s → slice_get new k ≡ Some o → Holds (RingAt limits squeues spread r done (done ++ f ∷ []) s) o
        each k s o is it =
            elim (cases_eq k hb) [
              | inl e ↦
                  let a : s ≡ h.a = (let d : Some s ≡ Some h.a = sym is ∙ (ap (slice_get ss) e ∙ h.from) in cc d) in
                  let b : o ≡ Some h.qa = (let d : Some o ≡ Some (Some h.qa) = sym it ∙ (ap (slice_get new) e ∙ h.now_from) in cc d) in
                  hold (RingAt limits squeues spread r done (done ++ f ∷ []) s) h.qa o b (subst (λ (t : Named R). RingAt limits squeues spread r done (done ++ f ∷ []) t h.qa) (sym a) at_a)
              | inr u ↦ elim (cases_eq k ho) [
                | inl e ↦
                    let a : s ≡ h.b = (let d : Some s ≡ Some h.b = sym is ∙ (ap (slice_get ss) e ∙ h.to) in cc d) in
                    let b : o ≡ Some h.qb = (let d : Some o ≡ Some (Some h.qb) = sym it ∙ (ap (slice_get new) e ∙ h.now_to) in cc d) in
                    hold (RingAt limits squeues spread r done (done ++ f ∷ []) s) h.qb o b (subst (λ (t : Named R). RingAt limits squeues spread r done (done ++ f ∷ []) t h.qb) (sym a) at_b)
                | inr v ↦
                    let n = numbered k s is in
                    let x = held (RingAt limits squeues spread r done done s) o (at_got (λ s o. Holds (RingAt limits squeues spread r done done s) o) ss old k s o ready.at.each is (sym (h.others k u v) ∙ it)) in
                    hold (RingAt limits squeues spread r done (done ++ f ∷ []) s) x.0 o x.1 (not_moved limits squeues spread r done f f_number moved s x.0 (λ e. u (sym n ∙ e)) (λ e. v (sym n ∙ e)) x.2)
              ]
            ]

  -- where it is at home already nothing is done
  pub stays_all : moves squeues spread f ≡ false → AreAt limits squeues spread r ss done (done ++ f ∷ []) old
  stays_all still =
      record {
        each =
            at_made (λ s o. Holds (RingAt limits squeues spread r done (done ++ f ∷ []) s) o) ss old (at_length (λ s o. Holds (RingAt limits squeues spread r done done s) o) ss old ready.at.each)
            (λ k s o is it.
            let x = held (RingAt limits squeues spread r done done s) o (at_got (λ s o. Holds (RingAt limits squeues spread r done done s) o) ss old k s o ready.at.each is it) in
            hold (RingAt limits squeues spread r done (done ++ f ∷ []) s) x.0 o x.1 (reached limits squeues spread r done f f_number still s x.0 x.2));
        linked = ready.at.linked;
        noted = ready.at.noted;
      }

  -- the pass of a squeue
  pub pass_at : (k : ℕ) (s : Named R) → slice_get ss k ≡ Some s → (x : Pass Element) × (slice_get old k ≡ Some (Some x))
  pass_at k s is =
      let n = at_length (λ s o. Holds (RingAt limits squeues spread r done done s) o) ss old ready.at.each in
      let lt = within ss k s is in
      let o = some_place old k (omega (arith, n, lt)) in
      let x = held (RingAt limits squeues spread r done done s) o.0 (at_got (λ s o. Holds (RingAt limits squeues spread r done done s) o) ss old k s o.0 ready.at.each is o.1) in
      (x.0, o.1 ∙ ap Some x.1)
    where
      some_place : {A : Type 0} (xs : List A) (k : ℕ) → k < length xs → (x : A) × (slice_get xs k ≡ Some x)
      some_place [] k lt = absurd (omega (arith, lt))
      some_place (x ∷ xs) zero lt = (x, refl)
      some_place (x ∷ xs) (suc k) lt = some_place xs k (omega (arith, lt))
