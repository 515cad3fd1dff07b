-- Closing its passes leaves what a job knows.
use Rattle.std.proofs.Common.{◌≡◌, ℕ, ◌+◌, ◌%◌, ◌<◌, zero, suc, if◌then◌else◌, Option, Some, None, List, [], ◌∷◌, ◌++◌, length, slice_get, refl, ap, sym, ◌∙◌, subst, arith}
use Rattle.std.proofs.lemmas.Option.{slice_get_within}
use Rattle.turn_gate.specs.History.{Each}
use Rattle.turn_gate.specs.Passes.{IsPassOf, number, seen}
use Rattle.turn_gate.specs.declared.pass.Pass.{Pass}
use Rattle.perimeter_core.specs.declared.entries.Feed.{Feed}
use Rattle.perimeter_core.specs.Perimeter.{State, is_here}
use Rattle.perimeter_core.specs.History.{Element, Limits, Setting, run, start}
use Rattle.perimeter_core.specs.Deeds.{acts, acts_after, due, reported}
use Rattle.perimeter_core.proofs.OneMore.{due_push, run_push}
use Rattle.squeue_state.specs.Naming.{Named, setting_of}
use Rattle.histories.specs.Endings.{Ending}
use Rattle.histories.specs.Elements.{closed_by, number_of}
use Rattle.squeue_state.specs.Clauses.{Knows}
use Rattle.histories.specs.Stays.{AreSameStays, Stays, begun, longer_by, note_of, stays}
use Rattle.histories.proofs.OneSqueue.{stays_push}
use Rattle.histories.proofs.StaysKept.{note_longer}
use Rattle.histories.proofs.ListPlaces.{some_at}
use Rattle.squeue_serve.specs.Places.{AtEach, AtEachTwo, Became, HasClosed, Holds}
use Rattle.squeue_serve.proofs.Unused.{each_at}
use Rattle.squeue_rings.specs.Bringing.{AreAt}
use Rattle.squeue_rings.specs.Calling.{CallerAt, CallersAt}
use Rattle.squeue_rings.specs.Made.{made_in, times_made}
use Rattle.squeue_rings.specs.Rings.{RingAt}
use Rattle.squeue_rings.specs.Seen.{seen_ends, seen_in}
use Rattle.squeue_rings.specs.OwnMarks.{EachOwn, OfThread}
use Rattle.squeue_rings.proofs.CallMarks.{made_more}
use Rattle.squeue_rings.proofs.OwnMarks.{own_join}
use Rattle.squeue_rings.proofs.Slots.{at_got, at_length}
use Rattle.squeue_rings.specs.Ends.{CallerEnds, CallersEnd, CallersKeep, RingEnds, RingsEnd}
use Rattle.squeue_rings.proofs.AtTheEnd.{end_due, end_exact, end_here, end_made, end_stays, linked_same, noted_same, seen_count, seen_got}

module _ {R : Type 0} (limits : R → Limits) (s : Named R) (y x : Pass Element) (is : IsPassOf number_of s.gate y) (closes : HasClosed limits s y x) where
  abbrev S : Setting
  S = setting_of limits s.given

  knows : Knows closes.found y
  knows = (closes.goes_on, closes.own)

  pub closed_due : (c : ℕ) → number y ≡ c % s.given.rings → due (seen x) c ≡ due (seen y) c
  closed_due c ring =
      let e = end_due limits s y closes.found is closes.legal knows c ring in
      ap (λ (K : List Element). due K c) closes.now_seen ∙ (due_push c 0 closes.found (closed_by (number y)) ∙ omega (arith, e))

  pub closed_here : (c : ℕ) → number y ≡ c % s.given.rings → is_here (run S (seen x)) c ≡ is_here (run S (seen y)) c
  closed_here c ring =
      ap (λ (K : List Element). is_here (run S K) c) closes.now_seen
      ∙ (ap (λ (st : State). is_here st c) (run_push (start S) closes.found (closed_by (number y))) ∙ end_here limits s y closes.found is closes.legal knows c ring)

  pub closed_stays : (c : ℕ) → number y ≡ c % s.given.rings → AreSameStays (stays S (seen y) c) (stays S (seen x) c)
  closed_stays c ring =
      let e = closed_by (number y) in
      let v : Stays = stays S closes.found c in
      let kept = end_stays limits s y closes.found is closes.legal knows c ring in
      let step : stays S (closes.found ++ e ∷ []) c ≡ record { ended = v.ended; now = longer_by (reported c (run S closes.found) e.mark) (acts_after c (run S closes.found) (acts S closes.found c) e) v.now }
      = stays_push c (start S) [] record { ended = []; now = if is_here (start S) c then Some (begun []) else None } closes.found e in
      subst (λ (K : List Element). AreSameStays (stays S (seen y) c) (stays S K c)) (sym closes.now_seen)
      record {
        ended = ap (λ (w : Stays). w.ended) step ∙ kept.ended;
        note = ap (λ (w : Stays). note_of w.now) step ∙ (note_longer (reported c (run S closes.found) e.mark) (acts_after c (run S closes.found) (acts S closes.found c) e) v.now ∙ kept.note);
      }

  pub closed_made : (c j k : ℕ) → number y ≡ s.given.rings + j → times_made c j k (seen x) ≡ times_made c j k (seen y)
  closed_made c j k thread =
      let e = end_made limits s y closes.found is closes.legal knows c j k thread in
      ap (times_made c j k) closes.now_seen ∙ (made_more c j k closes.found (closed_by (number y) ∷ []) ∙ omega (arith, e))

  pub closed_exact : (j : ℕ) → number y ≡ s.given.rings + j → EachOwn (OfThread S j) (s.given.rings + j) [] (seen y) → EachOwn (OfThread S j) (s.given.rings + j) [] (seen x)
  closed_exact j thread exact =
      subst (λ (K : List Element). EachOwn (OfThread S j) (s.given.rings + j) [] K) (sym closes.now_seen)
      (own_join (OfThread S j) (s.given.rings + j) [] closes.found (closed_by (number y) ∷ []) (end_exact limits s y closes.found is closes.legal knows (OfThread S j) (s.given.rings + j) thread exact) (λ _. tt, tt))

at_became : {R A : Type 0} (P Q : Named R → A → Type 0) (C : Named R → A → A → Type 0) → ((s : Named R) (o n : A) → P s o → C s o n → Q s n) → (ss : List (Named R)) (os ns : List A) → AtEach P ss os → AtEachTwo C ss os ns → AtEach Q ss ns
at_became P Q C f [] [] [] h k = tt
at_became P Q C f [] [] (n ∷ ns) h k = absurd k
at_became P Q C f [] (o ∷ os) ns h k = absurd h
at_became P Q C f (s ∷ ss) [] ns h k = absurd h
at_became P Q C f (s ∷ ss) (o ∷ os) [] h k = absurd k
at_became P Q C f (s ∷ ss) (o ∷ os) (n ∷ ns) h k = (f s o n h.0 k.0, at_became P Q C f ss os ns h.1 k.1)

at_two : {R A : Type 0} (C : Named R → A → A → Type 0) (ss : List (Named R)) (os ns : List A) (q : ℕ) (s : Named R) (n : A) → AtEachTwo C ss os ns → slice_get ss q ≡ Some s → slice_get ns q ≡ Some n → (o : A) × (slice_get os q ≡ Some o) × C s o n
at_two C [] os ns q s n h is at = cc is
at_two C (t ∷ ss) [] ns q s n h is at = absurd h
at_two C (t ∷ ss) (o ∷ os) [] q s n h is at = cc at
at_two {R = R} C (t ∷ ss) (o ∷ os) (m ∷ ns) zero s n h is at =
    let a : t ≡ s = cc is in
    let b : m ≡ n = cc at in
    (o, refl, subst (λ (s : Named R). C s o n) a (subst (C t o) b h.0))
at_two C (t ∷ ss) (o ∷ os) (m ∷ ns) (suc q) s n h is at = at_two C ss os ns q s n h.1 is at

module _ {R : Type 0} (limits : R → Limits) (ss : List (Named R)) (ys xs : List (Option (Pass Element))) (closed : AtEachTwo (λ s o n. Became (HasClosed limits s) o n) ss ys xs) where
  -- a ring has closed its passes
  module _ (squeues spread r : ℕ) (list : List Feed) (at : AreAt limits squeues spread r ss list list ys) where
    one : (s : Named R) (o n : Option (Pass Element)) → Holds (RingAt limits squeues spread r list list s) o → Became (HasClosed limits s) o n → Holds (RingEnds limits squeues spread r list s) n
    one s None n h k = absurd h
    one s (Some y) None h k = absurd k
    one s (Some y) (Some x) h k =
        record {
          pass = k.is_pass;
          is_number = k.same_number ∙ h.is_number;
          here = λ c ring lt. closed_here limits s y x h.pass k c (h.is_number ∙ ring) ∙ h.here c ring lt;
          next = λ c ring lt is. closed_due limits s y x h.pass k c (h.is_number ∙ ring) ∙ h.next c ring lt is;
        }

    ys_count : length ys ≡ length ss
    ys_count = at_length (λ s o. Holds (RingAt limits squeues spread r list list s) o) ss ys at.each

    ends : AtEach (λ s o. Holds (RingEnds limits squeues spread r list s) o) ss xs
    ends = at_became (λ s o. Holds (RingAt limits squeues spread r list list s) o) (λ s o. Holds (RingEnds limits squeues spread r list s) o) (λ s o n. Became (HasClosed limits s) o n) one ss ys xs at.each closed

    xs_count : length xs ≡ length ss
    xs_count = at_length (λ s o. Holds (RingEnds limits squeues spread r list s) o) ss xs ends

    kept : (c : ℕ) → Each (λ (s : Named R). (r ≡ c % s.given.rings) × (c < length s.given.starts)) ss → (q : ℕ) (h g : Ending) → slice_get (seen_ends limits ss ys) q ≡ Some h → slice_get (seen_ends limits ss xs) q ≡ Some g
        → AreSameStays (stays h.setting h.history c) (stays g.setting g.history c)
    kept c own q h g a b =
        let s = some_at ss q (omega (arith, slice_get_within (seen_ends limits ss xs) q g b, seen_count limits ss xs xs_count)) in
        let n = some_at xs q (omega (arith, slice_get_within (seen_ends limits ss xs) q g b, seen_count limits ss xs xs_count, xs_count)) in
        let t = at_two (λ s o n. Became (HasClosed limits s) o n) ss ys xs q s.0 n.0 closed s.1 n.1 in
        let k = at_got (λ s o. Holds (RingAt limits squeues spread r list list s) o) ss ys q s.0 t.0 at.each s.1 t.1 in
        let ring = (each_at (λ (s : Named R). (r ≡ c % s.given.rings) × (c < length s.given.starts)) ss q s.0 own s.1).0 in
        subst (λ (h : Ending). AreSameStays (stays h.setting h.history c) (stays g.setting g.history c)) (seen_got limits ss ys q s.0 t.0 h s.1 t.1 a)
        (subst (λ (g : Ending). AreSameStays (stays (setting_of limits s.0.given) (seen_in t.0) c) (stays g.setting g.history c)) (seen_got limits ss xs q s.0 n.0 g s.1 n.1 b) (by s.0 t.0 n.0 k t.2 ring))
      where
        by : (s : Named R) (o n : Option (Pass Element)) → Holds (RingAt limits squeues spread r list list s) o → Became (HasClosed limits s) o n → r ≡ c % s.given.rings → AreSameStays (stays (setting_of limits s.given) (seen_in o) c) (stays (setting_of limits s.given) (seen_in n) c)
        by s None n h k ring = absurd h
        by s (Some y) None h k ring = absurd k
        by s (Some y) (Some x) h k ring = closed_stays limits s y x h.pass k c (h.is_number ∙ ring)

    as_many : length (seen_ends limits ss xs) ≡ length (seen_ends limits ss ys)
    as_many = seen_count limits ss xs xs_count ∙ sym (seen_count limits ss ys ys_count)

    pub rings_end : RingsEnd limits squeues spread r list ss xs
    rings_end =
        record {
          each = ends;
          linked = λ c own. linked_same (seen_ends limits ss ys) (seen_ends limits ss xs) c as_many (kept c own) (at.linked c own);
          noted = λ c own. noted_same (seen_ends limits ss ys) (seen_ends limits ss xs) c as_many (kept c own) spread (at.noted c own);
        }

  -- an application thread has closed its passes
  module _ (j : ℕ) (conns : List ℕ) (at : CallersAt limits j conns ss ys) where
    caller : (s : Named R) (o n : Option (Pass Element)) → Holds (CallerAt limits s j conns) o → Became (HasClosed limits s) o n → Holds (CallerEnds j s) n
    caller s None n h k = absurd h
    caller s (Some y) None h k = absurd k
    caller s (Some y) (Some x) h k = record { pass = k.is_pass; is_number = k.same_number ∙ h.is_number }

    same_made : (c k : ℕ) (ss : List (Named R)) (os ns : List (Option (Pass Element))) → AtEach (λ s o. Holds (CallerAt limits s j conns) o) ss os → AtEachTwo (λ s o n. Became (HasClosed limits s) o n) ss os ns → made_in c j k ns ≡ made_in c j k os
    same_made c k [] [] [] h i = refl
    same_made c k [] [] (n ∷ ns) h i = absurd i
    same_made c k [] (o ∷ os) ns h i = absurd h
    same_made c k (s ∷ ss) [] ns h i = absurd h
    same_made c k (s ∷ ss) (o ∷ os) [] h i = absurd i
    same_made c k (s ∷ ss) (o ∷ os) (n ∷ ns) h i =
        let here : times_made c j k (seen_in n) ≡ times_made c j k (seen_in o) = by s o n h.0 i.0 in
        let rest = same_made c k ss os ns h.1 i.1 in
        omega (arith, here, rest)
      where
        by : (s : Named R) (o n : Option (Pass Element)) → Holds (CallerAt limits s j conns) o → Became (HasClosed limits s) o n → times_made c j k (seen_in n) ≡ times_made c j k (seen_in o)
        by s None n h i = absurd h
        by s (Some y) None h i = absurd i
        by s (Some y) (Some x) h i = closed_made limits s y x h.pass i c j k h.is_number

    pub callers_end : CallersEnd j conns ss xs
    callers_end =
        record {
          each = at_became (λ s o. Holds (CallerAt limits s j conns) o) (λ s o. Holds (CallerEnds j s) o) (λ s o n. Became (HasClosed limits s) o n) caller ss ys xs at.each closed;
          made = λ c k. same_made c k ss ys xs at.each closed ∙ at.made c k;
        }

    keeps : (s : Named R) (o n : Option (Pass Element)) → Holds (CallerAt limits s j conns) o → Became (HasClosed limits s) o n → Holds (λ x. EachOwn (OfThread (setting_of limits s.given) j) (s.given.rings + j) [] (seen x)) n
    keeps s None n h k = absurd h
    keeps s (Some y) None h k = absurd k
    keeps s (Some y) (Some x) h k = closed_exact limits s y x h.pass k j h.is_number h.exact

    pub callers_keep : CallersKeep limits j ss xs
    callers_keep =
        at_became (λ s o. Holds (CallerAt limits s j conns) o) (λ s o. Holds (λ x. EachOwn (OfThread (setting_of limits s.given) j) (s.given.rings + j) [] (seen x)) o) (λ s o n. Became (HasClosed limits s) o n) keeps ss ys xs
        at.each closed
