-- What the marks of an application thread are, from try to try.
use Rattle.std.proofs.Common.{◌≡◌, ℕ, ◌+◌, ◌<◌, ◌≤◌, ◌==◌, ◌&&◌, ◌||◌, Bool, true, false, if◌then◌else◌, inl, inr, Contains, List, [], ◌∷◌, ◌++◌, slice_index_or, refl, ap, sym, ◌∙◌, subst, append_assoc, arith}
use Rattle.std.proofs.lemmas.Bool.{cases_eq, eq-eqb, ne_eqb}
use Rattle.std.proofs.lemmas.List.{append-nil, append_cancel_left}
use Rattle.turn_gate.specs.History.{Each, only}
use Rattle.turn_gate.specs.Passes.{IsPassOf, mine, number, seen}
use Rattle.turn_gate.specs.declared.pass.Pass.{Pass}
use Rattle.perimeter_core.specs.declared.marks.Own.TheVariants.{Out}
use Rattle.perimeter_core.specs.declared.marks.SynchAct.{SynchAct}
use Rattle.perimeter_core.specs.declared.marks.SynchAct.TheVariants as Done
use Rattle.perimeter_core.specs.declared.marks.Mark.{Mark}
use Rattle.perimeter_core.specs.declared.marks.Mark.TheVariants as On
use Rattle.perimeter_core.specs.Perimeter.{has_ask, is_free, is_here}
use Rattle.perimeter_core.specs.History.{Element, Limits, Setting, made_by, pass_of, run}
use Rattle.perimeter_core.specs.Deeds.{entries_of, times_left}
use Rattle.perimeter_core.specs.Legal.{Legal}
use Rattle.perimeter_core.proofs.Since.{known_since}
use Rattle.squeue_state.specs.Naming.{Named, setting_of}
use Rattle.histories.specs.Elements.{left_by_pass, number_of}
use Rattle.squeue_state.proofs.Makers.{made-append, only_made, others_made}
use Rattle.squeue_drain.proofs.Deciding.{begins_trans}
use Rattle.synch_enter.specs.Synch.{IsWay, NotFound}
use Rattle.conn_migrate.specs.Moving.{Moved}
use Rattle.histories.proofs.Counts.{left_append}
use Rattle.squeue_rings.specs.Calling.{WasGone}
use Rattle.squeue_rings.specs.OwnMarks.{EachOwn, OfThread, asks, behind_call, next_call, next_call_from, since_ask, since_ask_from}
use Rattle.squeue_rings.proofs.OwnMarks.{other_made, own_all, own_join, own_made, own_on}

-- it doesn't leave
abbrev IsQuiet : Mark → Type 0
IsQuiet (On.Leave p rest act) = ⊥
IsQuiet _ = Unit {0}

quiet_of : (S : Setting) (j : ℕ) (past : List Element) (m : Mark) → IsQuiet m → OfThread S j past m
quiet_of S j past (On.Leave p rest act) q = absurd q
quiet_of S j past (On.Fill p es) q = tt
quiet_of S j past (On.Fast p e) q = tt
quiet_of S j past (On.Claim p es) q = tt
quiet_of S j past (On.Take p) q = tt
quiet_of S j past (On.Ask p) q = tt
quiet_of S j past (On.Grant p i rest) q = tt
quiet_of S j past (On.Accept i) q = tt
quiet_of S j past (On.Work p) q = tt
quiet_of S j past (On.Close p) q = tt

no_call : (n : ℕ) (m : Mark) → IsQuiet m → behind_call n m ≡ n
no_call n (On.Leave p rest act) q = absurd q
no_call n (On.Fill p es) q = refl
no_call n (On.Fast p e) q = refl
no_call n (On.Claim p es) q = refl
no_call n (On.Take p) q = refl
no_call n (On.Ask p) q = refl
no_call n (On.Grant p i rest) q = refl
no_call n (On.Accept i) q = refl
no_call n (On.Work p) q = refl
no_call n (On.Close p) q = refl

module _ (p : ℕ) where
  next_join : (n : ℕ) (H K : List Element) → next_call_from p n (H ++ K) ≡ next_call_from p (next_call_from p n H) K
  next_join n [] K = refl
  next_join n (e ∷ H) K = next_join (if pass_of e.mark == p then behind_call n e.mark else n) H K

  next_own : (n : ℕ) (e : Element) → pass_of e.mark ≡ p → next_call_from p n (e ∷ []) ≡ behind_call n e.mark
  next_own n e own = ap (λ (b : Bool). if b then behind_call n e.mark else n) (eq-eqb (pass_of e.mark) p own)

  next_quiet : (n : ℕ) (K : List Element) → Each (λ e. IsQuiet e.mark) (made_by p K) → next_call_from p n K ≡ n
  next_quiet n [] each = refl
  next_quiet n (e ∷ K) each =
      elim (cases_eq (pass_of e.mark) p) [
        | inl own ↦
            let h : Each (λ (e : Element). IsQuiet e.mark) (e ∷ made_by p K) = subst (Each (λ (e : Element). IsQuiet e.mark)) (own_made p e K own) each in
            ap (λ (b : Bool). next_call_from p (if b then behind_call n e.mark else n) K) (eq-eqb (pass_of e.mark) p own)
            ∙ (ap (λ (m : ℕ). next_call_from p m K) (no_call n e.mark h.0) ∙ next_quiet n K h.1)
        | inr other ↦
            let h : Each (λ (e : Element). IsQuiet e.mark) (made_by p K) = subst (Each (λ (e : Element). IsQuiet e.mark)) (other_made p e K other) each in
            ap (λ (b : Bool). next_call_from p (if b then behind_call n e.mark else n) K) (ne_eqb (pass_of e.mark) p other) ∙ next_quiet n K h
      ]

  since_join : (A H K : List Element) → since_ask_from p A (H ++ K) ≡ since_ask_from p (since_ask_from p A H) K
  since_join A [] K = refl
  since_join A (e ∷ H) K = since_join (if asks p e.mark then [] else A ++ e ∷ []) H K

  none_either : (b c : Bool) → c ≡ false → (b && c) ≡ false
  none_either true c is = is
  none_either false c is = refl

  asks_not : (e : Element) (K : List Element) → Each (λ e. has_ask p (entries_of e.mark) ≡ false) (made_by p (e ∷ K)) → (asks p e.mark ≡ false) × Each (λ e. has_ask p (entries_of e.mark) ≡ false) (made_by p K)
  asks_not e K each =
      elim (cases_eq (pass_of e.mark) p) [
        | inl own ↦
            let h : Each (λ (e : Element). has_ask p (entries_of e.mark) ≡ false) (e ∷ made_by p K) = subst (Each (λ (e : Element). has_ask p (entries_of e.mark) ≡ false)) (own_made p e K own) each in
            (none_either (pass_of e.mark == p) (has_ask p (entries_of e.mark)) h.0, h.1)
        | inr other ↦ (
          ap (λ (b : Bool). b && has_ask p (entries_of e.mark)) (ne_eqb (pass_of e.mark) p other),
          subst (Each (λ (e : Element). has_ask p (entries_of e.mark) ≡ false)) (other_made p e K other) each,
        )
      ]

  since_none : (A K : List Element) → Each (λ e. has_ask p (entries_of e.mark) ≡ false) (made_by p K) → since_ask_from p A K ≡ A ++ K
  since_none A [] each = sym (append-nil A)
  since_none A (e ∷ K) each =
      let h = asks_not e K each in
      ap (λ (b : Bool). since_ask_from p (if b then [] else A ++ e ∷ []) K) h.0 ∙ (since_none (A ++ e ∷ []) K h.1 ∙ append_assoc A (e ∷ []) K)

  -- the last Ask stands behind H
  since_last : (H K : List Element) (e : Element) → asks p e.mark ≡ true → Each (λ e. has_ask p (entries_of e.mark) ≡ false) (made_by p K) → since_ask p ((H ++ e ∷ []) ++ K) ≡ K
  since_last H K e is each =
      since_join [] (H ++ e ∷ []) K
      ∙ (ap (λ (A : List Element). since_ask_from p A K) (since_join [] H (e ∷ []) ∙ ap (λ (b : Bool). if b then [] else since_ask_from p [] H ++ e ∷ []) is) ∙ since_none [] K each)

  asks_itself : ((p == p) && ((p == p) || false)) ≡ true
  asks_itself = let t : (p == p) ≡ true = eq-eqb p p refl in rw t refl

  -- to come the pass asks, and leaves nothing
  way_quiet : (free : Bool) (ask : Element) (marks : List Element) → IsWay free p ask marks → Each (λ e. IsQuiet e.mark) (ask ∷ marks)
  way_quiet false ask marks w = rw (w.0, w.1) (tt, (tt, tt))
  way_quiet true ask marks w =
      elim w.1 [
        | inl none ↦ rw (w.0, none) (tt, tt)
        | inr hands ↦ rw (w.0, hands.3) (tt, (tt, (tt, tt)))
      ]

  way_asks : (free : Bool) (ask : Element) (marks : List Element) → IsWay free p ask marks → asks p ask.mark ≡ true
  way_asks false ask marks w = rw w.0 asks_itself
  way_asks true ask marks w = rw w.0 asks_itself

  way_once : (free : Bool) (ask : Element) (marks : List Element) → IsWay free p ask marks → Each (λ e. has_ask p (entries_of e.mark) ≡ false) marks
  way_once false ask marks w = rw w.1 (refl, tt)
  way_once true ask marks w =
      elim w.1 [
        | inl none ↦ rw none tt
        | inr hands ↦ rw hands.3 (refl, (refl, tt))
      ]

module _ {R : Type 0} (limits : R → Limits) (s : Named R) (act : SynchAct) (x y : Pass Element) (v : Moved limits s act [] x y) where
  abbrev S : Setting
  S = setting_of limits s.given

  same_owner : number v.owner ≡ number x
  same_owner = v.came.goes_on.same_number

  -- where the block was elsewhere at the pass's turn, it is when the pass leaves
  pub away_kept : (c : ℕ) → (run S (seen v.owner)).own ≡ Out (number v.owner) → is_here (run S (seen v.owner)) c ≡ false → is_here (run S v.left.found) c ≡ false
  away_kept c own away =
      let since = v.left.goes_on.0 in
      let is = v.left.goes_on.1 in
      let others = others_made (number v.owner) (seen v.owner) since (mine v.owner) v.came.goes_on.is_pass.2 (subst (λ (G : List Element). only number_of (number v.owner) G ≡ mine v.owner) is v.left.own) in
      let kept = (known_since S (seen v.owner) since (number v.owner) (subst (Legal S) is v.left.legal) others).owner own in
      ap (λ (G : List Element). is_here (run S G) c) is ∙ (ap (λ (l : List Bool). slice_index_or l c false) kept.3 ∙ away)

  module _ (pass : IsPassOf number_of s.gate x) (j : ℕ) (thread : number x ≡ s.given.rings + j) where
    abbrev last : Element
    last = left_by_pass (number x) 0 act []

    found_made : made_by (number x) v.left.found ≡ mine x ++ (v.came.behind.ask ∷ v.came.behind.marks)
    found_made = ap (λ (p : ℕ). made_by p v.left.found) (sym same_owner) ∙ (sym (only_made (number v.owner) v.left.found) ∙ (v.left.own ∙ v.came.behind.now_mine))

    seen_made : made_by (number x) (seen x) ≡ mine x
    seen_made = sym (only_made (number x) (seen x)) ∙ pass.2

    grows : (K : List Element) × (v.left.found ≡ seen x ++ K)
    grows = begins_trans (seen x) (seen v.owner) v.left.found v.came.goes_on.grows v.left.goes_on

    grown : made_by (number x) grows.0 ≡ v.came.behind.ask ∷ v.came.behind.marks
    grown =
        append_cancel_left (mine x) (made_by (number x) grows.0) (v.came.behind.ask ∷ v.came.behind.marks)
        (ap (λ (xs : List Element). xs ++ made_by (number x) grows.0) (sym seen_made) ∙ (sym (made-append (number x) (seen x) grows.0) ∙ (ap (made_by (number x)) (sym grows.1) ∙ found_made)))

    quiet : Each (λ e. IsQuiet e.mark) (made_by (number x) grows.0)
    quiet = subst (Each (λ (e : Element). IsQuiet e.mark)) (sym grown) (way_quiet (number x) (is_free (run S v.came.found).own) v.came.behind.ask v.came.behind.marks v.came.behind.way)

    next_found : next_call (number x) v.left.found ≡ next_call (number x) (seen x)
    next_found = ap (next_call (number x)) grows.1 ∙ (next_join (number x) 0 (seen x) grows.0 ∙ next_quiet (number x) (next_call (number x) (seen x)) grows.0 quiet)

    -- since its Ask, which it made once
    abbrev behind : List Element
    behind = v.came.behind.since ++ v.left.goes_on.0

    found_is : v.left.found ≡ (v.came.found ++ v.came.behind.ask ∷ []) ++ behind
    found_is =
        v.left.goes_on.1
        ∙ (ap (λ (G : List Element). G ++ v.left.goes_on.0) v.came.behind.now_seen ∙ append_assoc (v.came.found ++ v.came.behind.ask ∷ []) v.came.behind.since v.left.goes_on.0)

    came_made : made_by (number x) v.came.found ≡ mine x
    came_made =
        ap (made_by (number x)) v.came.begins.1
        ∙ (made-append (number x) (seen x) v.came.begins.0 ∙ (ap (λ (xs : List Element). made_by (number x) (seen x) ++ xs) v.came.others ∙ (append-nil (made_by (number x) (seen x)) ∙ seen_made)))

    ask_own : pass_of v.came.behind.ask.mark ≡ number x
    ask_own = by (is_free (run S v.came.found).own) v.came.behind.way
      where
        by : (free : Bool) → IsWay free (number x) v.came.behind.ask v.came.behind.marks → pass_of v.came.behind.ask.mark ≡ number x
        by true w = ap (λ (e : Element). pass_of e.mark) w.0
        by false w = ap (λ (e : Element). pass_of e.mark) w.0

    asked_made : made_by (number x) (v.came.found ++ v.came.behind.ask ∷ []) ≡ mine x ++ v.came.behind.ask ∷ []
    asked_made =
        made-append (number x) v.came.found (v.came.behind.ask ∷ [])
        ∙ (ap (λ (xs : List Element). xs ++ made_by (number x) (v.came.behind.ask ∷ [])) came_made ∙ ap (λ (xs : List Element). mine x ++ xs) (own_made (number x) v.came.behind.ask [] ask_own))

    behind_made : made_by (number x) behind ≡ v.came.behind.marks
    behind_made =
        append_cancel_left (mine x ++ v.came.behind.ask ∷ []) (made_by (number x) behind) v.came.behind.marks
        (ap (λ (xs : List Element). xs ++ made_by (number x) behind) (sym asked_made)
        ∙ (sym (made-append (number x) (v.came.found ++ v.came.behind.ask ∷ []) behind)
        ∙ (ap (made_by (number x)) (sym found_is) ∙ (found_made ∙ sym (append_assoc (mine x) (v.came.behind.ask ∷ []) v.came.behind.marks)))))

    since_found : since_ask (number x) v.left.found ≡ behind
    since_found =
        ap (since_ask (number x)) found_is
        ∙ since_last (number x) v.came.found behind v.came.behind.ask
        (way_asks (number x) (is_free (run S v.came.found).own) v.came.behind.ask v.came.behind.marks v.came.behind.way)
        (subst (Each (λ (e : Element). has_ask (number x) (entries_of e.mark) ≡ false)) (sym behind_made)
        (way_once (number x) (is_free (run S v.came.found).own) v.came.behind.ask v.came.behind.marks v.came.behind.way))

    -- the pass's marks, where its last one is as it should be
    module _ (exact : EachOwn (OfThread S j) (s.given.rings + j) [] (seen x)) (so : OfThread S j v.left.found (On.Leave (number x) 0 act)) where
      before : EachOwn (OfThread S j) (number x) [] v.left.found
      before =
          subst (λ (G : List Element). EachOwn (OfThread S j) (number x) [] G) (sym grows.1)
          (own_join (OfThread S j) (number x) [] (seen x) grows.0 (subst (λ (p : ℕ). EachOwn (OfThread S j) p [] (seen x)) (sym thread) exact)
          (own_all (OfThread S j) (number x) (λ e. IsQuiet e.mark) (λ past e q. quiet_of S j past e.mark q) (seen x) grows.0 quiet))

      moved_exact : EachOwn (OfThread S j) (s.given.rings + j) [] (seen y)
      moved_exact =
          subst (λ (p : ℕ). EachOwn (OfThread S j) p [] (seen y)) thread
          (subst (λ (G : List Element). EachOwn (OfThread S j) (number x) [] G) (sym v.left.now_seen)
          (own_join (OfThread S j) (number x) [] v.left.found (last ∷ []) before (λ _. so, tt)))

    moved_next : next_call (s.given.rings + j) (seen y) ≡ behind_call (next_call (s.given.rings + j) (seen x)) (On.Leave (number x) 0 act)
    moved_next =
        subst (λ (p : ℕ). next_call p (seen y) ≡ behind_call (next_call p (seen x)) (On.Leave (number x) 0 act)) thread
        (ap (next_call (number x)) v.left.now_seen
        ∙ (next_join (number x) 0 v.left.found (last ∷ []) ∙ (next_own (number x) (next_call (number x) v.left.found) last refl ∙ ap (λ (m : ℕ). behind_call m (On.Leave (number x) 0 act)) next_found)))

module _ {R : Type 0} (limits : R → Limits) (s : Named R) (j : ℕ) (x y : Pass Element) (pass : IsPassOf number_of s.gate x) (thread : number x ≡ s.given.rings + j)
    (exact : EachOwn (OfThread (setting_of limits s.given) j) (s.given.rings + j) [] (seen x)) where
  -- it made call k, behind those that it made
  pub call_exact : (c k : ℕ) → Moved limits s (Done.Call c j k) [] x y → next_call (s.given.rings + j) (seen x) ≤ k
      → EachOwn (OfThread (setting_of limits s.given) j) (s.given.rings + j) [] (seen y) × (next_call (s.given.rings + j) (seen y) ≡ k + 1)
  call_exact c k v le =
      let same : next_call (s.given.rings + j) v.left.found ≡ next_call (s.given.rings + j) (seen x) =
      subst (λ (p : ℕ). next_call p v.left.found ≡ next_call p (seen x)) thread (next_found limits s (Done.Call c j k) x y v pass j thread) in
      let so : next_call (s.given.rings + j) v.left.found ≤ k = omega (arith, same, le) in
      (moved_exact limits s (Done.Call c j k) x y v pass j thread exact so, moved_next limits s (Done.Call c j k) x y v pass j thread)

  -- its block was gone
  pub gone_exact : (c k : ℕ) → WasGone limits s c x y → next_call (s.given.rings + j) (seen x) ≤ k → Contains (limits s.given.first).calls (c, j, k)
      → EachOwn (OfThread (setting_of limits s.given) j) (s.given.rings + j) [] (seen y) × (next_call (s.given.rings + j) (seen y) ≡ next_call (s.given.rings + j) (seen x))
  gone_exact c k g le exists =
      let v = g.moved in
      let same : next_call (s.given.rings + j) v.left.found ≡ next_call (s.given.rings + j) (seen x) =
      subst (λ (p : ℕ). next_call p v.left.found ≡ next_call p (seen x)) thread (next_found limits s Done.Away x y v pass j thread) in
      let since : since_ask (s.given.rings + j) v.left.found ≡ v.came.behind.since ++ v.left.goes_on.0 =
      subst (λ (p : ℕ). since_ask p v.left.found ≡ v.came.behind.since ++ v.left.goes_on.0) thread (since_found limits s Done.Away x y v pass j thread) in
      let times : times_left c (since_ask (s.given.rings + j) v.left.found) ≡ times_left c v.came.behind.since + times_left c v.left.goes_on.0 =
      ap (times_left c) since ∙ left_append c v.came.behind.since v.left.goes_on.0 in
      let out : 0 < times_left c v.came.behind.since = g.gone in
      let before : next_call (s.given.rings + j) v.left.found ≤ k = omega (arith, same, le) in
      let left : 0 < times_left c (since_ask (s.given.rings + j) v.left.found) = omega (arith, times, out) in (
        moved_exact limits s Done.Away x y v pass j thread exact (record { c = c; k = k; exists = exists; next = before; away = g.away; left = left }),
        moved_next limits s Done.Away x y v pass j thread,
      )

  -- it made no mark
  pub none_exact : (c : ℕ) → NotFound limits s c x y
      → EachOwn (OfThread (setting_of limits s.given) j) (s.given.rings + j) [] (seen y) × (next_call (s.given.rings + j) (seen y) ≡ next_call (s.given.rings + j) (seen x))
  none_exact c away =
      let more = away.goes_on.grows.0 in
      let is = away.goes_on.grows.1 in
      let p = s.given.rings + j in
      let now : only number_of (number x) (seen y) ≡ mine x = subst (λ (n : ℕ). only number_of n (seen y) ≡ mine y) away.goes_on.same_number away.goes_on.is_pass.2 ∙ away.same_mine in
      let others : made_by p more ≡ [] =
      subst (λ (p : ℕ). made_by p more ≡ []) thread (others_made (number x) (seen x) more (mine x) pass.2 (subst (λ (G : List Element). only number_of (number x) G ≡ mine x) is now)) in (
        subst (λ (G : List Element). EachOwn (OfThread (setting_of limits s.given) j) p [] G) (sym is) (own_on (OfThread (setting_of limits s.given) j) p (seen x) more exact others),
        ap (next_call p) is ∙ (next_join p 0 (seen x) more ∙ next_quiet p (next_call p (seen x)) more (subst (Each (λ (e : Element). IsQuiet e.mark)) (sym others) tt)),
      )
