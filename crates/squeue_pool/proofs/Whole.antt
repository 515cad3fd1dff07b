-- From what the passes knew at the end, and what was left of the squeues, to the whole of the histories.
use Rattle.std.proofs.Common.{◌≡◌, ◌≢◌, ℕ, ◌+◌, ◌-◌, ◌/◌, ◌%◌, ◌<◌, ◌≤◌, ◌==◌, zero, suc, Bool, true, false, if◌then◌else◌, Option, Some, List, [], ◌∷◌, length, inl, inr, map, slice_get, slice_index_or, refl, ap, sym, ◌∙◌, subst, arith}
use Rattle.std.proofs.lemmas.Bool.{cases_lt}
use Rattle.std.proofs.lemmas.Bool.Decides.{nat_tests}
use Rattle.std.proofs.lemmas.List.{length-map}
use Rattle.std.proofs.lemmas.Option.{slice_get_within}
use Rattle.std.proofs.Math.Nat.{mod-lt}
use Rattle.turn_gate.specs.History.{Each}
use Rattle.turn_gate.specs.Passes.{number, seen}
use Rattle.turn_gate.specs.declared.pass.Pass.{Pass}
use Rattle.perimeter_core.specs.declared.entries.Feed.{Feed}
use Rattle.perimeter_core.specs.declared.resident.Resident.{Ghosts}
use Rattle.perimeter_core.specs.Blocks.{peri}
use Rattle.perimeter_core.specs.Deeds.{acts, due, fed}
use Rattle.perimeter_core.specs.History.{Element, Setting, run, worker}
use Rattle.perimeter_core.specs.Legal.{Legal}
use Rattle.perimeter_core.specs.Perimeter.{is_here}
use Rattle.squeue_state.specs.Clauses.{Knows}
use Rattle.squeue_state.specs.Naming.{Named, setting_of}
use Rattle.histories.specs.Endings.{Ending}
use Rattle.squeue_state.specs.Told.{marks_of}
use Rattle.histories.specs.Stays.{AreLinked, AreSameStays, stays}
use Rattle.histories.specs.Homes.{home}
use Rattle.squeue_serve.specs.Places.{Holds}
use Rattle.squeue_serve.proofs.Coming.{each_got}
use Rattle.histories.proofs.AllFed.{all_fed}
use Rattle.histories.proofs.ListPlaces.{some_at, got_map}
use Rattle.squeue_rings.specs.Paced.{IsPaced, OfRing}
use Rattle.histories.specs.Keeping.{KeepsPace}
use Rattle.squeue_rings.specs.OwnMarks.{EachOwn, OfThread, OfWorker}
use Rattle.squeue_rings.specs.Made.{made_in, once_on, times_made}
use Rattle.histories.specs.Noted.{AreNoted}
use Rattle.histories.specs.Runs.{brought, place}
use Rattle.squeue_rings.specs.Seen.{seen_ends, seen_in}
use Rattle.squeue_rings.proofs.CallMarks.{none_beyond as no_thread_beyond}
use Rattle.squeue_rings.proofs.Slots.{at_got, at_length}
use Rattle.squeue_rings.specs.declared.intake.Intake.{Intake}
use Rattle.squeue_rings.specs.Ends.{CallerEnds, RingEnds}
use Rattle.squeue_rings.specs.Doing.{called_by}
use Rattle.squeue_rings.specs.Tasks.{lists_of}
use Rattle.squeue_rings.proofs.Works.{got_or}
use Rattle.squeue_rings.proofs.AtTheEnd.{end_due, end_exact, end_here, end_made, end_paced, end_stays, linked_same, noted_same, seen_count, seen_got}
use Rattle.squeue_pool.specs.declared.pool.Pool.{Pool}
use Rattle.squeue_pool.specs.declared.work.Left.{Left}
use Rattle.squeue_pool.specs.Leftovers.{HaveLeft, Leaves}
use Rattle.squeue_pool.specs.Keeping.{PassesKeep}
use Rattle.squeue_pool.specs.AllJobs.{AllDone}
use Rattle.squeue_pool.specs.Runs.{HasRun, IsHereOnce, IsLeft, ends_of, list_for, made_in_all}
use Rattle.squeue_pool.specs.Works.{AreFor, IsFor, Suits, WorkOf, setting_at}
use Rattle.squeue_pool.proofs.Ready.{at_home, its_conns, its_rings}

home_below : (squeues spread c n : ℕ) → 1 ≤ squeues → home squeues spread c n < squeues
home_below squeues spread c n some = by (spread == 0)
  where
    by : (b : Bool) → (if b then c % squeues else (c + n / spread) % squeues) < squeues
    by true = mod-lt c some
    by false = mod-lt (c + n / spread) some

same_test : (a b : ℕ) → (a == b) ≡ (b == a)
same_test a b = by (a == b) (b == a) refl refl
  where
    by : (x y : Bool) → (a == b) ≡ x → (b == a) ≡ y → (a == b) ≡ (b == a)
    by true true u v = u ∙ sym v
    by false false u v = u ∙ sym v
    by true false u v = let e : a ≡ b = grind (arith, nat_tests) in let f : b ≢ a = grind (arith, nat_tests) in absurd (f (sym e))
    by false true u v = let e : b ≡ a = grind (arith, nat_tests) in let f : a ≢ b = grind (arith, nat_tests) in absurd (f (sym e))

none_beyond : (xs : List (List ℕ)) (j : ℕ) → length xs ≤ j → called_by xs j ≡ []
none_beyond [] j le = refl
none_beyond (x ∷ xs) zero le = absurd (omega (arith, le))
none_beyond (x ∷ xs) (suc j) le = none_beyond xs j (omega (arith, le))

-- the same count over the ends and over what passes have seen
same_sums : (c j k : ℕ) (es : List Ending) (os : List (Option (Pass Element))) → length os ≡ length es
    → ((q : ℕ) (e : Ending) (o : Option (Pass Element)) → slice_get es q ≡ Some e → slice_get os q ≡ Some o → times_made c j k e.history ≡ times_made c j k (seen_in o)) → made_in_all c j k es ≡ made_in c j k os
same_sums c j k [] [] n h = refl
same_sums c j k [] (o ∷ os) n h = absurd (omega (arith, n))
same_sums c j k (e ∷ es) [] n h = absurd (omega (arith, n))
same_sums c j k (e ∷ es) (o ∷ os) n h =
    let here = h 0 e o refl refl in
    let rest = same_sums c j k es os (omega (arith, n)) (λ q f x a b. h (suc q) f x a b) in
    omega (arith, here, rest)

none_in_all : (c j k : ℕ) (es : List Ending) → ((q : ℕ) (e : Ending) → slice_get es q ≡ Some e → times_made c j k e.history ≡ 0) → made_in_all c j k es ≡ 0
none_in_all c j k [] h = refl
none_in_all c j k (e ∷ es) h =
    let here = h 0 e refl in
    let rest = none_in_all c j k es (λ q f a. h (suc q) f a) in
    omega (arith, here, rest)

module _ {R P O : Type 0} (G : Ghosts R P O) (pool : Pool) (w : WorkOf R) (suits : Suits G pool w) (some_rings : 1 ≤ pool.rings) (ss : List (Named R)) (set : AreFor G pool w.residents w.quotas ss) (intakes : List Intake) (lists_are : w.lists ≡ map (λ l. l.list.items) intakes)
    (lent : ℕ → List (Option (Pass Element))) (ran : AllDone G pool intakes w.calls ss lent) (vs : List (Left R)) (back : HaveLeft G 1 (pool.rings + length w.calls) lent ss vs) where
  abbrev squeues : ℕ
  squeues = pool.pace.homes.squeues

  abbrev spread : ℕ
  spread = pool.pace.homes.spread

  abbrev rings : ℕ
  rings = pool.rings

  some : 1 ≤ squeues
  some = pool.pace.homes.some

  abbrev es : List Ending
  es = ends_of vs

  abbrev Is : ℕ → Named R → Type 0
  Is = IsFor G pool w.residents w.quotas

  abbrev LeavesIt : ℕ → Named R → Left R → Type 0
  LeavesIt = Leaves G 1 (pool.rings + length w.calls) lent

  ends_count : length es ≡ length ss
  ends_count = length-map vs (λ (v : Left R). v.end) ∙ back.as_many

  -- a squeue and what is left of it
  record At (q : ℕ) : Type 0 where
    s : Named R
    v : Left R
    is : slice_get ss q ≡ Some s
    at : slice_get vs q ≡ Some v
    is_for : Is q s
    left : LeavesIt q s v

  at_squeue : (q : ℕ) → q < squeues → At q
  at_squeue q lt =
      let a = some_at ss q (omega (arith, lt, set.count)) in
      let b = some_at vs q (omega (arith, lt, set.count, back.as_many)) in
      record { s = a.0; v = b.0; is = a.1; at = b.1; is_for = set.each q a.0 a.1; left = back.each q a.0 b.0 a.1 b.1 }

  -- the same by an end
  record AtEnd (q : ℕ) (e : Ending) : Type 0 where
    s : Named R
    v : Left R
    is : slice_get ss q ≡ Some s
    at : slice_get vs q ≡ Some v
    is_for : Is q s
    left : LeavesIt q s v
    same : v.end ≡ e

  at_end : (q : ℕ) (e : Ending) → slice_get es q ≡ Some e → AtEnd q e
  at_end q e there =
      let a = at_squeue q (let n = slice_get_within es q e there in omega (arith, n, ends_count, set.count)) in
      let v : Left R = At.v a in
      let both : Some v.end ≡ Some e = sym (got_map (λ (v : Left R). v.end) vs q v (At.at a)) ∙ there in
      record { s = At.s a; v = v; is = At.is a; at = At.at a; is_for = At.is_for a; left = At.left a; same = cc both }

  module _ (q : ℕ) (s : Named R) (v : Left R) (left : LeavesIt q s v) where
    pub legal_of : Legal (setting_of G.limits s.given) v.end.history
    legal_of = subst (λ (S : Setting). Legal S v.end.history) left.its_setting left.ended.legal

  -- the list of a ring by its intake
  list_is : (r : ℕ) → lists_of intakes r ≡ slice_index_or w.lists r []
  list_is r = ap (λ ls. slice_index_or ls r []) (sym lists_are)

  -- what the ring of a connection knew of it
  module _ (c : ℕ) (lt : c < w.conns) where
    abbrev r : ℕ
    r = c % rings

    r_below : r < rings
    r_below = mod-lt c some_rings

    abbrev list : List Feed
    list = lists_of intakes r

    abbrev last : ℕ
    last = place squeues spread c list

    last_below : last < squeues
    last_below = home_below squeues spread c (brought c list - 1) some

    module _ (q : ℕ) (s : Named R) (v : Left R) (is : slice_get ss q ≡ Some s) (its : Is q s) (left : LeavesIt q s v) where
      legal : Legal (setting_of G.limits s.given) v.end.history
      legal = legal_of q s v left

      seer : (x : Pass Element) × (slice_get (lent (1 + r)) q ≡ Some (Some x)) × Knows v.end.history x
      seer = left.knows r (omega (arith, r_below))

      known : RingEnds G.limits squeues spread r list s seer.0
      known = at_got (λ s o. Holds (RingEnds G.limits squeues spread r list s) o) ss (lent (1 + r)) q s (Some seer.0) (ran.rings_end r r_below).each is seer.1

      ours : r ≡ c % s.given.rings
      ours = ap (λ (k : ℕ). c % k) (sym (its_rings G pool w suits ss set q s its))

      ring : number seer.0 ≡ c % s.given.rings
      ring = known.is_number ∙ ours

      there : c < length s.given.starts
      there = let n = its_conns G pool w suits ss set q s its in omega (arith, lt, n)

      here_if : is_here (run v.end.setting v.end.history) c ≡ (last == q)
      here_if =
          ap (λ (S : Setting). is_here (run S v.end.history) c) left.its_setting
          ∙ (end_here G.limits s seer.0 v.end.history known.pass legal seer.2 c ring ∙ (known.here c ours there ∙ ap (λ (k : ℕ). last == k) its.number))

      due_if : last ≡ q → due v.end.history c ≡ brought c list
      due_if it = end_due G.limits s seer.0 v.end.history known.pass legal seer.2 c ring ∙ known.next c ours there (it ∙ sym its.number)

      stays_same : AreSameStays (stays (setting_of G.limits s.given) (seen seer.0) c) (stays v.end.setting v.end.history c)
      stays_same =
          subst (λ (S : Setting). AreSameStays (stays (setting_of G.limits s.given) (seen seer.0) c) (stays S v.end.history c)) (sym left.its_setting)
          (end_stays G.limits s seer.0 v.end.history known.pass legal seer.2 c ring)

    at_last : At last
    at_last = at_squeue last last_below

    abbrev final : Ending
    final = (At.v at_last).end

    here_last : is_here (run final.setting final.history) c ≡ true
    here_last = here_if last (At.s at_last) (At.v at_last) (At.is at_last) (At.is_for at_last) (At.left at_last) ∙ (let t : (last == last) ≡ true = grind (arith, nat_tests) in t)

    fed_last : fed (acts final.setting final.history c) ≡ brought c list
    fed_last =
        all_fed final.setting final.history c (At.left at_last).ended.legal (At.left at_last).ended.over here_last
        ∙ due_if last (At.s at_last) (At.v at_last) (At.is at_last) (At.is_for at_last) (At.left at_last) refl

    once_in : IsHereOnce es c last (brought c list)
    once_in =
        record {
          end = final;
          is_end = got_map (λ (v : Left R). v.end) vs last (At.v at_last) (At.at at_last);
          here = here_last;
          feeds = fed_last;
          nowhere_else = λ q e apart there.
              let a = at_end q e there in
              let other : (last == q) ≡ false = (let d : last ≢ q = λ i. apart (sym i) in grind (arith, nat_tests)) in
              subst (λ (e : Ending). is_here (run e.setting e.history) c ≡ false) (AtEnd.same a) (here_if q (AtEnd.s a) (AtEnd.v a) (AtEnd.is a) (AtEnd.is_for a) (AtEnd.left a) ∙ other);
        }

    once : IsHereOnce es c (place squeues spread c (list_for w.lists rings c)) (brought c (list_for w.lists rings c))
    once = subst (λ (l : List Feed). IsHereOnce es c (place squeues spread c l) (brought c l)) (list_is r) once_in

    -- the ring has seen the connection's stays
    its_ring : Each (λ (s : Named R). (r ≡ c % s.given.rings) × (c < length s.given.starts)) ss
    its_ring = each_got (λ (s : Named R). (r ≡ c % s.given.rings) × (c < length s.given.starts)) ss
        (λ q s is. let i = set.each q s is in let n = its_conns G pool w suits ss set q s i in (ap (λ (k : ℕ). c % k) (sym (its_rings G pool w suits ss set q s i)), omega (arith, lt, n)))

    its_places : length (lent (1 + r)) ≡ length ss
    its_places = at_length (λ s o. Holds (RingEnds G.limits squeues spread r list s) o) ss (lent (1 + r)) (ran.rings_end r r_below).each

    as_many_ends : length es ≡ length (seen_ends G.limits ss (lent (1 + r)))
    as_many_ends = ends_count ∙ sym (seen_count G.limits ss (lent (1 + r)) its_places)

    same_stays_at : (q : ℕ) (h g : Ending) → slice_get (seen_ends G.limits ss (lent (1 + r))) q ≡ Some h → slice_get es q ≡ Some g → AreSameStays (stays h.setting h.history c) (stays g.setting g.history c)
    same_stays_at q h g at there =
        let a = at_end q g there in
        let x = seer q (AtEnd.s a) (AtEnd.v a) (AtEnd.is a) (AtEnd.is_for a) (AtEnd.left a) in
        let same = seen_got G.limits ss (lent (1 + r)) q (AtEnd.s a) (Some x.0) h (AtEnd.is a) x.1 at in
        subst (λ (h : Ending). AreSameStays (stays h.setting h.history c) (stays g.setting g.history c)) same
        (subst (λ (g : Ending). AreSameStays (stays (setting_of G.limits (AtEnd.s a).given) (seen x.0) c) (stays g.setting g.history c)) (AtEnd.same a)
        (stays_same q (AtEnd.s a) (AtEnd.v a) (AtEnd.is a) (AtEnd.is_for a) (AtEnd.left a)))

  quotas_count : (q : ℕ) (s : Named R) → Is q s → slice_get ss q ≡ Some s → worker (setting_of G.limits s.given) ≡ rings + length w.calls
  quotas_count q s is at =
      let a = some_at w.quotas q (let n = slice_get_within ss q s at in omega (arith, n, set.count, suits.squeues.quotas_are)) in
      let passes = (suits.squeues.each q s.given.first a.0 is.first a.1).passes in
      ap worker is.setting ∙ (ap length (got_or w.quotas q a.0 [] a.1) ∙ passes)

  -- how often a call was made in all histories
  module _ (c j k : ℕ) where
    seen_as_made : j < length w.calls → made_in_all c j k es ≡ made_in c j k (lent (1 + (rings + j)))
    seen_as_made lt = same_sums c j k es (lent (1 + (rings + j))) (at_length (λ s o. Holds (CallerEnds j s) o) ss (lent (1 + (rings + j))) (ran.callers_end j lt).each ∙ sym ends_count) by
      where
        by : (q : ℕ) (e : Ending) (o : Option (Pass Element)) → slice_get es q ≡ Some e → slice_get (lent (1 + (rings + j))) q ≡ Some o → times_made c j k e.history ≡ times_made c j k (seen_in o)
        by q e o at there =
            let a = at_end q e at in
            let x = (AtEnd.left a).knows (rings + j) (omega (arith, lt)) in
            let same : o ≡ Some x.0 = (let i : Some o ≡ Some (Some x.0) = sym there ∙ x.1 in cc i) in
            let ends = at_got (λ s o. Holds (CallerEnds j s) o) ss (lent (1 + (rings + j))) q (AtEnd.s a) (Some x.0) (ran.callers_end j lt).each (AtEnd.is a) x.1 in
            ap (λ (e : Ending). times_made c j k e.history) (sym (AtEnd.same a))
            ∙ (end_made G.limits (AtEnd.s a) x.0 (AtEnd.v a).end.history ends.pass (legal_of q (AtEnd.s a) (AtEnd.v a) (AtEnd.left a)) x.2 c j k ends.is_number ∙ ap (λ (o : Option (Pass Element)). times_made c j k (seen_in o)) (sym same))

    made_once : made_in_all c j k es ≡ once_on (called_by w.calls j) c k
    made_once = elim (cases_lt j (length w.calls)) [
      | inl lt ↦ seen_as_made lt ∙ (ran.callers_end j lt).made c k
      | inr le ↦
          none_in_all c j k es (λ q e at.
          let a = at_end q e at in
          let passes : worker (setting_of G.limits (AtEnd.s a).given) ≡ rings + length w.calls = quotas_count q (AtEnd.s a) (AtEnd.is_for a) (AtEnd.is a) in
          let ring = its_rings G pool w suits ss set q (AtEnd.s a) (AtEnd.is_for a) in
          ap (λ (e : Ending). times_made c j k e.history) (sym (AtEnd.same a))
          ∙ no_thread_beyond (setting_of G.limits (AtEnd.s a).given) (AtEnd.v a).end.history c j k (legal_of q (AtEnd.s a) (AtEnd.v a) (AtEnd.left a)) (omega (arith, passes, ring, le)))
          ∙ sym (ap (λ l. once_on l c k) (none_beyond w.calls j le))
    ]

  -- the connections went from stay to stay
  linked : AreLinked w.conns es
  linked =
      record {
        legal = λ q h at. let a = at_end q h at in subst (λ (h : Ending). Legal h.setting h.history) (AtEnd.same a) (AtEnd.left a).ended.legal;
        home = λ c lt q h at.
            let a = at_end q h at in
            let total : length es ≡ squeues = ends_count ∙ set.count in
            let starts : h.setting.starts ≡ (AtEnd.s a).given.starts = ap (λ (e : Ending). e.setting.starts) (sym (AtEnd.same a)) ∙ ap (λ (S : Setting). S.starts) (AtEnd.left a).its_setting in
            ap (λ (l : List Bool). slice_index_or l c false) starts
            ∙ (at_home G pool w suits ss set q (AtEnd.s a) (AtEnd.is_for a) c lt ∙ (same_test (c % squeues) q ∙ ap (λ (m : ℕ). q == c % m) (sym total)));
        linked = λ c lt. linked_same (seen_ends G.limits ss (lent (1 + r c lt))) es c (as_many_ends c lt) (same_stays_at c lt) ((ran.rings_end (r c lt) (r_below c lt)).linked c (its_ring c lt));
      }

  -- each with the feeds that were due
  noted : (c : ℕ) → c < w.conns → AreNoted spread es c
  noted c lt =
      noted_same (seen_ends G.limits ss (lent (1 + r c lt))) es c (as_many_ends c lt) (same_stays_at c lt) spread
      ((ran.rings_end (r c lt) (r_below c lt)).noted c (its_ring c lt))

  -- what is left of each squeue
  module _ (q : ℕ) (first : R) (v : Left R) (there : slice_get w.residents q ≡ Some first) (at : slice_get vs q ≡ Some v) where
    of_squeue : (s : Named R) × (slice_get ss q ≡ Some s)
    of_squeue = some_at ss q (let n = slice_get_within vs q v at in omega (arith, n, back.as_many))

    abbrev s : Named R
    s = of_squeue.0

    its : Is q s
    its = set.each q s of_squeue.1

    left : LeavesIt q s v
    left = back.each q s v of_squeue.1 at

    first_is : s.given.first ≡ first
    first_is = let both : Some s.given.first ≡ Some first = sym its.first ∙ there in cc both

    keeps : (r : ℕ) → r < rings → KeepsPace squeues spread pool.pace.mode pool.pace.budget q v.end.setting r v.end.history
    keeps r lt =
        let x = left.knows r (omega (arith, lt)) in
        let known = at_got (λ s o. Holds (RingEnds G.limits squeues spread r (lists_of intakes r) s) o) ss (lent (1 + r)) q s (Some x.0) (ran.rings_end r lt).each of_squeue.1 x.1 in
        let paced = at_got (λ s o. Holds (λ x. IsPaced squeues spread pool.pace.mode pool.pace.budget s.given.number (setting_of G.limits s.given) r (seen x)) o) ss (lent (1 + r)) q s (Some x.0) (ran.paced r lt) of_squeue.1 x.1 in
        subst (λ (k : ℕ). KeepsPace squeues spread pool.pace.mode pool.pace.budget k v.end.setting r v.end.history) its.number
        (subst (λ (S : Setting). KeepsPace squeues spread pool.pace.mode pool.pace.budget s.given.number S r v.end.history) (sym left.its_setting)
        (end_paced G.limits s x.0 v.end.history known.pass (legal_of q s v left) x.2 squeues spread pool.pace.mode pool.pace.budget s.given.number r known.is_number paced.keeps))

    is_left : IsLeft G pool w q first v
    is_left =
        let n = its_conns G pool w suits ss set q s its in
        record {
          number = left.its_number ∙ its.number;
          setting = left.its_setting ∙ (its.setting ∙ ap (λ (x : R). setting_at G pool q x (slice_index_or w.quotas q [])) first_is);
          ended = left.ended;
          keeps = keeps;
          stands = subst (λ (S : Setting). G.stands v.resident (peri S v.end.history)) (sym left.its_setting) left.resident.stands_for;
          limits = left.resident.same_limits ∙ ap G.limits first_is;
          size = left.resident.same_size ∙ n;
          origin = left.resident.same_origin ∙ ap G.origin first_is;
          trace = subst (λ (b : Bool). marks_of v.trace ≡ (if b then map (λ m. m.mark) v.end.history else [])) its.traced left.trace;
        }

  -- each mark of all passes is the one for what its turn found
  module _ (q : ℕ) (e : Ending) (there : slice_get es q ≡ Some e) where
    abbrev its_end : AtEnd q e
    its_end = at_end q e there

    abbrev its_squeue : Named R
    its_squeue = AtEnd.s its_end

    abbrev its_setting : Setting
    its_setting = setting_of G.limits its_squeue.given

    abbrev its_left : Left R
    its_left = AtEnd.v its_end

    legal_there : Legal its_setting its_left.end.history
    legal_there = legal_of q its_squeue its_left (AtEnd.left its_end)

    rings_there : its_setting.rings ≡ rings
    rings_there = its_rings G pool w suits ss set q its_squeue (AtEnd.is_for its_end)

    passes_there : worker its_setting ≡ rings + length w.calls
    passes_there = quotas_count q its_squeue (AtEnd.is_for its_end) (AtEnd.is its_end)

    ring_keeps : (r : ℕ) → r < rings → EachOwn (OfRing pool.pace.mode its_setting r) r [] its_left.end.history
    ring_keeps r lt =
        let x = (AtEnd.left its_end).knows r (omega (arith, lt)) in
        let known = at_got (λ s o. Holds (RingEnds G.limits squeues spread r (lists_of intakes r) s) o) ss (lent (1 + r)) q its_squeue (Some x.0) (ran.rings_end r lt).each (AtEnd.is its_end) x.1 in
        let paced = at_got (λ s o. Holds (λ x. IsPaced squeues spread pool.pace.mode pool.pace.budget s.given.number (setting_of G.limits s.given) r (seen x)) o) ss (lent (1 + r)) q its_squeue (Some x.0) (ran.paced r lt) (AtEnd.is its_end) x.1 in
        end_exact G.limits its_squeue x.0 its_left.end.history known.pass legal_there x.2 (OfRing pool.pace.mode its_setting r) r known.is_number paced.exact

    thread_keeps : (j : ℕ) → j < length w.calls → EachOwn (OfThread its_setting j) (its_setting.rings + j) [] its_left.end.history
    thread_keeps j lt =
        let x = (AtEnd.left its_end).knows (rings + j) (omega (arith, lt)) in
        let known = at_got (λ s o. Holds (CallerEnds j s) o) ss (lent (1 + (rings + j))) q its_squeue (Some x.0) (ran.callers_end j lt).each (AtEnd.is its_end) x.1 in
        let exact = at_got (λ s o. Holds (λ x. EachOwn (OfThread (setting_of G.limits s.given) j) (s.given.rings + j) [] (seen x)) o) ss (lent (1 + (rings + j))) q its_squeue (Some x.0) (ran.callers_keep j lt) (AtEnd.is its_end) x.1 in
        end_exact G.limits its_squeue x.0 its_left.end.history known.pass legal_there x.2 (OfThread its_setting j) (its_setting.rings + j) known.is_number exact

    worker_keeps : EachOwn (OfWorker its_setting) (worker its_setting) [] its_left.end.history
    worker_keeps =
        let known = ran.workers_end q its_squeue (AtEnd.is its_end) in
        let came = (AtEnd.left its_end).worker in
        let both : Some came.0 ∷ [] ≡ Some known.0 ∷ [] = sym came.1 ∙ known.1 in
        let same : came.0 ≡ known.0 = cc both in
        let exact = end_exact G.limits its_squeue known.0 its_left.end.history known.2.pass legal_there (subst (Knows its_left.end.history) same came.2) (OfWorker its_setting) (rings + length w.calls) known.2.is_number known.2.exact in
        subst (λ (n : ℕ). EachOwn (OfWorker its_setting) n [] its_left.end.history) (sym passes_there) exact

    keep_there : PassesKeep pool.pace.mode e
    keep_there =
        subst (PassesKeep pool.pace.mode) (AtEnd.same its_end)
        (record {
          rings = subst (λ (S : Setting). (r : ℕ) → r < S.rings → EachOwn (OfRing pool.pace.mode S r) r [] its_left.end.history) (sym (AtEnd.left its_end).its_setting)
              (λ r lt. ring_keeps r (let n = rings_there in omega (arith, lt, n)));
          threads = subst (λ (S : Setting). (j : ℕ) → S.rings + j < worker S → EachOwn (OfThread S j) (S.rings + j) [] its_left.end.history) (sym (AtEnd.left its_end).its_setting)
              (λ j lt. thread_keeps j (let n = rings_there in let m = passes_there in omega (arith, lt, n, m)));
          worker_leaves = subst (λ (S : Setting). EachOwn (OfWorker S) (worker S) [] its_left.end.history) (sym (AtEnd.left its_end).its_setting) worker_keeps;
        })

  pub has_run : HasRun G pool w vs
  has_run =
      record {
        count = back.as_many ∙ set.count;
        each = is_left;
        linked = linked;
        noted = noted;
        here = once;
        called = made_once;
        keep = keep_there;
      }
