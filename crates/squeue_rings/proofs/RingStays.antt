-- The stays of a ring's connections stay linked, by what its passes have seen.
use Rattle.std.proofs.Common.{◌≡◌, ◌≢◌, ℕ, zero, suc, ◌+◌, ◌/◌, ◌%◌, ◌<◌, ◌==◌, inl, inr, Bool, true, false, if◌then◌else◌, Option, Some, None, List, [], ◌∷◌, ◌++◌, length, slice_get, refl, ap, sym, ◌∙◌, subst, append_assoc, arith}
use Rattle.std.proofs.lemmas.Bool.{cases_eq, eqb-true}
use Rattle.turn_gate.specs.Passes.{number, seen}
use Rattle.turn_gate.specs.declared.pass.Pass.{Pass}
use Rattle.perimeter_core.specs.declared.entries.Act.{Act}
use Rattle.perimeter_core.specs.declared.entries.Feed.{Feed as FeedOf}
use Rattle.perimeter_core.specs.declared.marks.SynchAct.{SynchAct}
use Rattle.perimeter_core.specs.declared.marks.SynchAct.TheVariants as Done
use Rattle.perimeter_core.specs.Perimeter.{is_here}
use Rattle.perimeter_core.specs.History.{Element, Limits, run, start}
use Rattle.perimeter_core.specs.Deeds.{acts, times_left}
use Rattle.perimeter_core.specs.Legal.{Legal}
use Rattle.perimeter_core.proofs.OneMore.{legal_front}
use Rattle.squeue_state.specs.Naming.{Named, setting_of}
use Rattle.histories.specs.Endings.{Ending}
use Rattle.histories.specs.Elements.{left_by_pass}
use Rattle.squeue_drain.specs.Draining.{GoesOn}
use Rattle.conn_migrate.specs.Moving.{IsKept, Moved}
use Rattle.histories.specs.Stays.{IsLinked, Stay, Stays, all_in, begun, stays, stays_at, stays_in}
use Rattle.histories.specs.Runs.{home_before, home_of, moves}
use Rattle.squeue_rings.specs.Bringing.{HasMoved}
use Rattle.squeue_rings.specs.Seen.{seen_ends, seen_in}
use Rattle.squeue_rings.proofs.Leaving.{next_home}
use Rattle.squeue_rings.proofs.Linking.{Joins, joins_first, joins_kept, joins_more}
use Rattle.squeue_rings.proofs.Slots.{within}
use Rattle.histories.proofs.ListPlaces.{got_map, from_map}
use Rattle.squeue_rings.proofs.Standing.{other_home}
use Rattle.histories.proofs.StaysSeen.{AreAlike, HasBegun, HasEnded, fewer_ended, goes_on_here, hads, notes, one_in, one_out, stays_kept}

-- the stays are linked where each note is what the stay before it had
module _ (hs : List Ending) (c : ℕ) where
  abbrev pub notes_at : ℕ → List (List Act)
  notes_at k = notes (stays_in (slice_get hs k) c)

  abbrev hads_at : ℕ → List (List Act)
  hads_at k = hads (stays_in (slice_get hs k) c)

  from_linked : IsLinked hs c → Joins (length hs) c notes_at hads_at
  from_linked linked s m at =
      let v = from_map (λ (u : Stay). u.note) (all_in (stays_at hs c (s + 1))) ((s + 1) / length hs) m at in
      let u = linked s v.0 v.1 in
      got_map (λ (u : Stay). u.had) (stays_at hs c s).ended (s / length hs) u.0 u.1 ∙ ap Some (sym u.2 ∙ v.2)

  to_linked : Joins (length hs) c notes_at hads_at → IsLinked hs c
  to_linked joins s v at =
      let d = joins s v.note (got_map (λ (u : Stay). u.note) (all_in (stays_at hs c (s + 1))) ((s + 1) / length hs) v at) in
      let u = from_map (λ (u : Stay). u.had) (stays_at hs c s).ended (s / length hs) v.note d in
      (u.0, u.1, sym u.2)

-- what a place tells of its squeue
abbrev ending_of : {R : Type 0} → (R → Limits) → Option (Named R) → Option (Option (Pass Element)) → Option Ending
ending_of limits None o = None
ending_of limits (Some s) None = None
ending_of limits (Some s) (Some o) = Some (record { number = s.given.number; setting = setting_of limits s.given; history = seen_in o })

module _ {R : Type 0} (limits : R → Limits) where
  none_told : (o : Option (Named R)) → None ≡ ending_of limits o None
  none_told None = refl
  none_told (Some s) = refl

  told : (ss : List (Named R)) (os : List (Option (Pass Element))) (k : ℕ)
      → slice_get (seen_ends limits ss os) k ≡ ending_of limits (slice_get ss k) (slice_get os k)
  told [] os k = refl
  told (s ∷ ss) [] k = none_told (slice_get (s ∷ ss) k)
  told (s ∷ ss) (o ∷ os) zero = refl
  told (s ∷ ss) (o ∷ os) (suc k) = told ss os k

  pub ends_length : (ss : List (Named R)) (os : List (Option (Pass Element))) → length os ≡ length ss → length (seen_ends limits ss os) ≡ length ss
  ends_length [] os e = refl
  ends_length (s ∷ ss) [] e = absurd (omega (arith, e))
  ends_length (s ∷ ss) (o ∷ os) e = ap suc (ends_length ss os (omega (arith, e)))

  module _ (ss : List (Named R)) (c : ℕ) where
    -- the stays of the connection at squeue k
    abbrev pub at_place : List (Option (Pass Element)) → ℕ → Stays
    at_place os k = stays_in (slice_get (seen_ends limits ss os) k) c

    abbrev pub N : List (Option (Pass Element)) → ℕ → List (List Act)
    N os k = notes (at_place os k)

    abbrev pub D : List (Option (Pass Element)) → ℕ → List (List Act)
    D os k = hads (at_place os k)

    -- the stays by what a pass has seen
    abbrev pub by_pass : Named R → Pass Element → Stays
    by_pass s x = stays (setting_of limits s.given) (seen x) c

    its_stays : (os : List (Option (Pass Element))) (k : ℕ) (s : Named R) (x : Pass Element)
        → slice_get ss k ≡ Some s → slice_get os k ≡ Some (Some x) → at_place os k ≡ by_pass s x
    its_stays os k s x is it =
        ap (λ (o : Option Ending). stays_in o c)
        (told ss os k ∙ (ap (λ (t : Option (Named R)). ending_of limits t (slice_get os k)) is ∙ ap (ending_of limits (Some s)) it))

    same_stays : (old new : List (Option (Pass Element))) (k : ℕ) → slice_get new k ≡ slice_get old k → at_place new k ≡ at_place old k
    same_stays old new k e = ap (λ (o : Option Ending). stays_in o c) (told ss new k ∙ (ap (ending_of limits (slice_get ss k)) e ∙ sym (told ss old k)))

    joined : (os : List (Option (Pass Element))) → length os ≡ length ss → IsLinked (seen_ends limits ss os) c → Joins (length ss) c (N os) (D os)
    joined os long linked = subst (λ (n : ℕ). Joins n c (N os) (D os)) (ends_length ss os long) (from_linked (seen_ends limits ss os) c linked)

    linked_by : (os : List (Option (Pass Element))) → length os ≡ length ss → Joins (length ss) c (N os) (D os) → IsLinked (seen_ends limits ss os) c
    linked_by os long joins = to_linked (seen_ends limits ss os) c (subst (λ (n : ℕ). Joins n c (N os) (D os)) (sym (ends_length ss os long)) joins)

    -- the connection neither came nor left at any squeue
    pub linked_kept : (old new : List (Option (Pass Element))) → length old ≡ length ss → length new ≡ length ss
        → ((k : ℕ) → AreAlike (at_place old k) (at_place new k)) → IsLinked (seen_ends limits ss old) c → IsLinked (seen_ends limits ss new) c
    linked_kept old new lo ln alike linked =
        linked_by new ln (joins_kept (length ss) c (N old) (D old) (N new) (D new) (λ k. (alike k).0) (λ k. (alike k).1) (joined old lo linked))

    -- where one pass goes on
    alike_at : (old new : List (Option (Pass Element))) (k : ℕ) (s : Named R) (x y : Pass Element) → slice_get ss k ≡ Some s
        → slice_get old k ≡ Some (Some x) → slice_get new k ≡ Some (Some y)
        → AreAlike (by_pass s x) (by_pass s y) → AreAlike (at_place old k) (at_place new k)
    alike_at old new k s x y is was now a =
        let e = its_stays old k s x is was in
        let f = its_stays new k s y is now in
        (ap notes f ∙ (a.0 ∙ sym (ap notes e)), ap hads f ∙ (a.1 ∙ sym (ap hads e)))

    alike_same : (old new : List (Option (Pass Element))) (k : ℕ) → slice_get new k ≡ slice_get old k → AreAlike (at_place old k) (at_place new k)
    alike_same old new k e = let i = same_stays old new k e in (ap notes i, ap hads i)

    pub alike_kept : (s : Named R) (x y : Pass Element) → GoesOn limits s x y
        → is_here (run (setting_of limits s.given) (seen y)) c ≡ is_here (run (setting_of limits s.given) (seen x)) c
        → times_left c (seen y) ≡ times_left c (seen x) → AreAlike (by_pass s x) (by_pass s y)
    alike_kept s x y on here left = stays_kept (setting_of limits s.given) (seen x) on.grows.0 (seen y) c on.grows.1 on.legal left here

    -- a pass entered its feeds
    pub alike_entered : (old new : List (Option (Pass Element))) (q : ℕ) (s : Named R) (x y : Pass Element)
        → slice_get ss q ≡ Some s → slice_get old q ≡ Some (Some x) → slice_get new q ≡ Some (Some y)
        → ((k : ℕ) → k ≢ q → slice_get new k ≡ slice_get old k) → AreAlike (by_pass s x) (by_pass s y)
        → (k : ℕ) → AreAlike (at_place old k) (at_place new k)
    alike_entered old new q s x y is was now others alike k =
        elim (cases_eq k q) [
          | inl e ↦ alike_at old new k s x y (ap (slice_get ss) e ∙ is) (ap (slice_get old) e ∙ was) (ap (slice_get new) e ∙ now) alike
          | inr other ↦ alike_same old new k (others k other)
        ]

-- the pass of a move ends with the mark of its act
grown : {R : Type 0} (limits : R → Limits) (s : Named R) (act : SynchAct) (note : List Act) (x y : Pass Element) → Moved limits s act note x y
    → (K : List Element) × (seen y ≡ (seen x ++ K) ++ left_by_pass (number x) 0 act note ∷ [])
grown limits s act note x y m =
    let a = m.came.goes_on.grows in
    let b = m.left.goes_on in
    let found = b.1 ∙ (ap (λ (l : List Element). l ++ b.0) a.1 ∙ append_assoc (seen x) a.0 b.0) in
    (a.0 ++ b.0, m.left.now_seen ∙ ap (λ (l : List Element). l ++ left_by_pass (number x) 0 act note ∷ []) found)

pub legal_before : {R : Type 0} (limits : R → Limits) (s : Named R) (x y : Pass Element) → GoesOn limits s x y → Legal (setting_of limits s.given) (seen x)
legal_before limits s x y on = legal_front (setting_of limits s.given) (seen x) on.grows.0 (subst (Legal (setting_of limits s.given)) on.grows.1 on.legal)

module _ {R : Type 0} (limits : R → Limits) (squeues spread : ℕ) (f : FeedOf) (ss : List (Named R)) (old new : List (Option (Pass Element)))
    (h : HasMoved limits squeues spread f ss old new) (long : length old ≡ length ss) where
  abbrev hb : ℕ
  hb = home_before squeues spread f

  abbrev pub ho : ℕ
  ho = home_of squeues spread f

  pub long_new : length new ≡ length ss
  long_new = h.count ∙ long

  -- the move leaves the ring's other connections where they are
  pub alike_others : (d : ℕ) → IsKept (setting_of limits h.a.given) d (seen h.pa) (seen h.qa) → IsKept (setting_of limits h.b.given) d (seen h.pb) (seen h.qb)
      → (k : ℕ) → AreAlike (at_place limits ss d old k) (at_place limits ss d new k)
  alike_others d ka kb k =
      elim (cases_eq k hb) [
        | inl e ↦
            alike_at limits ss d old new k h.a h.pa h.qa (ap (slice_get ss) e ∙ h.from) (ap (slice_get old) e ∙ h.was_from) (ap (slice_get new) e ∙ h.now_from)
            (alike_kept limits ss d h.a h.pa h.qa h.out.goes_on ka.here ka.left)
        | inr u ↦ elim (cases_eq k ho) [
          | inl e ↦
              alike_at limits ss d old new k h.b h.pb h.qb (ap (slice_get ss) e ∙ h.to) (ap (slice_get old) e ∙ h.was_to) (ap (slice_get new) e ∙ h.now_to)
              (alike_kept limits ss d h.b h.pb h.qb h.put.goes_on kb.here kb.left)
          | inr v ↦ alike_same limits ss d old new k (h.others k u v)
        ]
      ]

  -- the connection itself ends a stay at the one squeue and begins one at the next one, with what it had
  module _ (count : length ss ≡ squeues) (moved : moves squeues spread f ≡ true)
      (here : is_here (run (setting_of limits h.a.given) (seen h.pa)) f.c ≡ true)
      (away : is_here (run (setting_of limits h.b.given) (seen h.pb)) f.c ≡ false) where
    apart : hb ≢ ho
    apart = other_home squeues spread f moved

    abbrev pub had : List Act
    had = acts (setting_of limits h.a.given) (seen h.qa) f.c

    out : HasEnded (by_pass limits ss f.c h.a h.pa) (by_pass limits ss f.c h.a h.qa) had
    out =
        let g = grown limits h.a (Done.Out f.c) [] h.pa h.qa h.out in
        one_out (setting_of limits h.a.given) (seen h.pa) g.0 (seen h.qa) (number h.pa) 0 f.c g.1 h.out.goes_on.legal h.left.left here

    put : HasBegun (by_pass limits ss f.c h.b h.pb) (by_pass limits ss f.c h.b h.qb) had
    put =
        let g = grown limits h.b (Done.In f.c) had h.pb h.qb h.put in
        let left : times_left f.c (seen h.qb) ≡ times_left f.c (seen h.pb) = (let l = h.come.left in omega (arith, l)) in
        one_in (setting_of limits h.b.given) (seen h.pb) g.0 (seen h.qb) (number h.pb) 0 f.c had g.1 h.put.goes_on.legal left away

    was_a : at_place limits ss f.c old hb ≡ by_pass limits ss f.c h.a h.pa
    was_a = its_stays limits ss f.c old hb h.a h.pa h.from h.was_from

    now_a : at_place limits ss f.c new hb ≡ by_pass limits ss f.c h.a h.qa
    now_a = its_stays limits ss f.c new hb h.a h.qa h.from h.now_from

    pub was_b : at_place limits ss f.c old ho ≡ by_pass limits ss f.c h.b h.pb
    was_b = its_stays limits ss f.c old ho h.b h.pb h.to h.was_to

    now_b : at_place limits ss f.c new ho ≡ by_pass limits ss f.c h.b h.qb
    now_b = its_stays limits ss f.c new ho h.b h.qb h.to h.now_to

    pub notes_kept : (k : ℕ) → k ≢ ho → N limits ss f.c new k ≡ N limits ss f.c old k
    notes_kept k v =
        elim (cases_eq k hb) [
          | inl e ↦ subst (λ (j : ℕ). N limits ss f.c new j ≡ N limits ss f.c old j) (sym e) (ap notes now_a ∙ (out.0 ∙ sym (ap notes was_a)))
          | inr u ↦ ap notes (same_stays limits ss f.c old new k (h.others k u v))
        ]

    pub note_more : N limits ss f.c new ho ≡ N limits ss f.c old ho ++ had ∷ []
    note_more = ap notes now_b ∙ (put.0 ∙ ap (λ (l : List (List Act)). l ++ had ∷ []) (sym (ap notes was_b)))

    pub linked_own : IsLinked (seen_ends limits ss old) f.c → IsLinked (seen_ends limits ss new) f.c
    linked_own linked =
        let lt = within ss hb h.a h.from in
        let legal = legal_before limits h.a h.pa h.qa h.out.goes_on in
        let one : length (N limits ss f.c old hb) ≡ length (D limits ss f.c old hb) + 1 =
        subst (λ (v : Stays). length (notes v) ≡ length (hads v) + 1) (sym was_a) (goes_on_here (setting_of limits h.a.given) (seen h.pa) f.c legal here) in
        let next : ho ≡ (hb + 1) % length ss = next_home squeues spread f.c f.n apart ∙ ap (λ (n : ℕ). (hb + 1) % n) (sym count) in
        linked_by limits ss f.c new long_new
        (joins_more (length ss) f.c (omega (arith, lt)) (N limits ss f.c old) (D limits ss f.c old) (joined limits ss f.c old long linked)
        (λ k. fewer_ended (at_place limits ss f.c old k)) hb lt one (N limits ss f.c new) (D limits ss f.c new) had ho next
        (λ k u. elim (cases_eq k ho) [
          | inl e ↦ subst (λ (j : ℕ). D limits ss f.c new j ≡ D limits ss f.c old j) (sym e) (ap hads now_b ∙ (put.1 ∙ sym (ap hads was_b)))
          | inr v ↦ ap hads (same_stays limits ss f.c old new k (h.others k u v))
        ])
        (ap hads now_a ∙ (out.1 ∙ ap (λ (l : List (List Act)). l ++ had ∷ []) (sym (ap hads was_a))))
        notes_kept note_more)

abbrev first : Bool → Stays
first b = record { ended = []; now = if b then Some (begun []) else None }

-- before anything happened each connection of the ring has one stay at most, at its first home, without a note
module _ {R : Type 0} (limits : R → Limits) (ss : List (Named R)) (os : List (Option (Pass Element))) (c : ℕ) (new : (k : ℕ) (s : Named R) → slice_get ss k ≡ Some s
    → (x : Pass Element) × (slice_get os k ≡ Some (Some x)) × (seen x ≡ []) × (is_here (start (setting_of limits s.given)) c ≡ (c % length ss == k))) where
  one : (b : Bool) (i : ℕ) (m : List Act) → slice_get (notes (first b)) i ≡ Some m → (b ≡ true) × (i ≡ 0) × (m ≡ [])
  one true zero m at = (refl, refl, cc at)
  one true (suc i) m at = cc at
  one false i m at = cc at

  only : (k i : ℕ) (m : List Act) (o : Option (Named R)) → slice_get ss k ≡ o → slice_get (N limits ss c os k) i ≡ Some m → (k ≡ c % length ss) × (i ≡ 0) × (m ≡ [])
  only k i m None is at =
      let e : at_place limits ss c os k ≡ first false =
      ap (λ (o : Option Ending). stays_in o c) (told limits ss os k ∙ ap (λ (t : Option (Named R)). ending_of limits t (slice_get os k)) is) in
      let n : slice_get (notes (first false)) i ≡ Some m = ap (λ (v : Stays). slice_get (notes v) i) (sym e) ∙ at in
      cc n
  only k i m (Some s) is at =
      let x = new k s is in
      let e : at_place limits ss c os k ≡ first (c % length ss == k) =
      its_stays limits ss c os k s x.0 is x.1 ∙ (ap (λ (H : List Element). stays (setting_of limits s.given) H c) x.2 ∙ ap first x.3) in
      let o = one (c % length ss == k) i m (ap (λ (v : Stays). slice_get (notes v) i) (sym e) ∙ at) in
      (sym (eqb-true (c % length ss) k o.0), o.1, o.2)

  pub first_stays : (k i : ℕ) (m : List Act) → slice_get (N limits ss c os k) i ≡ Some m → (k ≡ c % length ss) × (i ≡ 0) × (m ≡ [])
  first_stays k i m at = only k i m (slice_get ss k) refl at

  pub linked_first : 0 < length ss → length os ≡ length ss → IsLinked (seen_ends limits ss os) c
  linked_first some long =
      linked_by limits ss c os long
      (joins_first (length ss) c some (N limits ss c os) (D limits ss c os) (λ k i m at. let o = first_stays k i m at in (o.0, o.1)))
