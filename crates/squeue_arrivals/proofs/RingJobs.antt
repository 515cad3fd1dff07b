-- The jobs are ready with new passes, and hold passes that may end when they are done.
use Rattle.std.proofs.Common.{◌≡◌, ℕ, suc, ◌+◌, ◌<◌, ◌≤◌, zero, inl, inr, Option, Some, None, List, [], ◌∷◌, ◌++◌, length, slice_get, slice_index_or, refl, ap, sym, ◌∙◌, arith, subst}
use Rattle.std.proofs.lemmas.Option.{get_or_from_slice_get, slice_get_within}
use Rattle.std.proofs.lemmas.Bool.{cases_eq}
use Rattle.std.proofs.lemmas.List.{length-map}
use Rattle.turn_gate.specs.Passes.{AreFresh, IsPassOf, number, seen}
use Rattle.turn_gate.specs.declared.pass.Pass.{Pass}
use Rattle.perimeter_core.specs.History.{Element, Limits}
use Rattle.squeue_state.specs.Naming.{Named}
use Rattle.histories.specs.Elements.{number_of}
use Rattle.squeue_serve.specs.declared.jobs.Job.{Job}
use Rattle.squeue_serve.specs.Places.{AtEach, Holds, MayEnd}
use Rattle.squeue_serve.specs.Lending.{AreHanded, AreLent, holder, lent_to, tasks_in}
use Rattle.squeue_serve.proofs.Lent.{lent_got, past_jobs}
use Rattle.histories.proofs.ListPlaces.{some_at}
use Rattle.squeue_serve.proofs.Coming.{holds_last, holds_other}
use Rattle.placed_parts.specs.declared.parts.Parts.{Ghosts}
use Rattle.placed_parts.specs.declared.places.Places.{Places}
use Rattle.placed_parts.specs.Placing.{limits_of, origin_of}
use Rattle.squeue_streams.specs.declared.streams.Stream.{Stream}
use Rattle.squeue_arrivals.specs.declared.steps.Keyed.{Keyed}
use Rattle.squeue_arrivals.specs.Keyed.{first_of}
use Rattle.squeue_arrivals.specs.declared.served.ServedSource.{ServedSource}
use Rattle.squeue_arrivals.specs.Seating.{ServesPlaces, room_of}
use Rattle.squeue_arrivals.proofs.FirstKnown.{fresh_at}
use Rattle.squeue_arrivals.proofs.FirstServed.{may_serve}
use Rattle.squeue_arrivals.proofs.Looking.{may_look}
use Rattle.squeue_arrivals.specs.declared.watching.Watched.{Watched}
use Rattle.squeue_arrivals.specs.declared.ring.RingTask.{RingTask}
use Rattle.squeue_arrivals.specs.declared.ring.RingTask.TheVariants as Task'
use Rattle.squeue_arrivals.specs.Tasks.{AreNewTasks, EndedFrom, HasDone, IsNewTask, IsReady, KnowsPass, MayRun, Ran, ReadyFor, pass_in}

pub task_got : {T S A Z : Type 0} (jobs : List (Job (RingTask T S A Z))) (k : ℕ) (j : Job (RingTask T S A Z)) → slice_get jobs k ≡ Some j → slice_get (tasks_in jobs) k ≡ Some j.task
task_got [] k j is = cc is
task_got {T = T} {S = S} {A = A} {Z = Z} (o ∷ jobs) zero j is = let same : o ≡ j = cc is in ap (λ (j : Job (RingTask T S A Z)). Some j.task) same
task_got (o ∷ jobs) (suc k) j is = task_got jobs k j is

one_place : (os : List (Option (Pass Element))) (q : Pass Element) → pass_in os ≡ Some q → os ≡ Some q ∷ []
one_place [] q is = cc is
one_place (o ∷ []) q is = ap (λ (o : Option (Pass Element)). o ∷ []) is
one_place (o ∷ n ∷ os) q is = cc is

module _ {R : Type 0} (limits : R → Limits) (s : Named R) where
  ended_at : (p : Pass Element) (n : Option (Pass Element)) → EndedFrom limits s (Some p) n → (q : Pass Element) × (n ≡ Some q) × MayEnd limits (number p) s q
  ended_at p None h = absurd h
  ended_at p (Some q) h = (q, refl, h)

-- the parts with which the squeue began
abbrev pub parts_of : {X P W T S : Type 0} {G : Ghosts X P (Keyed W T S)} → Named (Places X P (Keyed W T S) G) → List (Stream T S)
parts_of s = first_of (origin_of s.given.first)

module _ {X P W T S A Z : Type 0} {G : Ghosts X P (Keyed W T S)} (step : Keyed W T S → S → T → S → Type 0) (s : Named (Places X P (Keyed W T S) G)) (most : ℕ) where
  -- a pass that has seen nothing may do its task
  may_new : (rings : ℕ) → ServesPlaces limits_of s.given rings (length (parts_of s)) → (task : RingTask T S A Z) (p : Pass Element) (k : ℕ) → IsNewTask rings (length s.given.quotas) most (room_of s.given) (parts_of s) k task → IsPassOf number_of s.gate p → number p ≡ k → seen p ≡ [] → MayRun step s most task p
  may_new rings serves (Task'.Serve ring) p k t is number_is none = may_serve step s rings most k serves p is number_is t.0 none ring t.1
  may_new rings serves (Task'.Served ended) p k t is number_is none = absurd t
  may_new rings serves Task'.Watch p k t is number_is none = may_look limits_of s rings (length (parts_of s)) serves p is (let e = t.0 in omega (arith, number_is, e)) (let e = t.1 in omega (arith, number_is, e)) none
  may_new rings serves (Task'.Watched w) p k t is number_is none = absurd t
  may_new rings serves Task'.Work p k t is number_is none = (is, omega (arith, number_is, t))

  -- the job holds the pass of this number, which may do the job's task
  abbrev pub ReadyAt : ℕ → Job (RingTask T S A Z) → Type 0
  ReadyAt k j = (x : Pass Element) × (j.places.items ≡ Some x ∷ []) × MayRun step s most j.task x × (number x ≡ k)

  pub all_new : (rings : ℕ) → ServesPlaces limits_of s.given rings (length (parts_of s)) → (count : ℕ) (jobs : List (Job (RingTask T S A Z))) (passes : List (Pass Element)) (old : ℕ → List (Option (Pass Element)))
      → AreNewTasks rings (length s.given.quotas) most (room_of s.given) (parts_of s) (tasks_in jobs) → AreHanded 0 count 0 passes old (lent_to jobs) → ((i : ℕ) → old i ≡ []) → AreFresh number_of s.gate 0 passes
      → (k : ℕ) (j : Job (RingTask T S A Z)) → k ≤ count → slice_get jobs k ≡ Some j → ReadyAt k j
  all_new rings serves count jobs passes old tasks handed none fresh k j le is =
      let r = handed.each k le in
      let at : holder 0 count 0 k ≡ k = elim (cases_eq k count) [
        | inl e ↦ ap (holder 0 count 0) e ∙ (holds_last 0 count 0 ∙ (let e : 0 + count + 0 ≡ k = omega (arith, e) in e))
        | inr n ↦ holds_other 0 count 0 k (omega (arith, le, n)) ∙ (let e : 0 + k ≡ k = omega arith in e)
      ] in
      let f = fresh_at number_of s.gate 0 passes k r.0 fresh r.1 in
      let n : number r.0 ≡ k = omega (arith, f.1) in
      let places : j.places.items ≡ Some r.0 ∷ [] = sym (lent_got jobs k j is) ∙ (ap (lent_to jobs) (sym at) ∙ (r.2 ∙ ap (λ l. l ++ Some r.0 ∷ []) (none (holder 0 count 0 k)))) in
      (r.0, places, may_new rings serves j.task r.0 k (tasks.each k j.task (task_got jobs k j is)) f.0 n f.2, n)

  pub all_ready : (jobs : List (Job (RingTask T S A Z))) → ((k : ℕ) (j : Job (RingTask T S A Z)) → slice_get jobs k ≡ Some j → ReadyAt k j) → (k : ℕ) (d : Job (RingTask T S A Z)) → k < length jobs → IsReady step s most (slice_index_or jobs k d)
  all_ready jobs new k d lt =
      let o = some_at jobs k lt in
      let n = new k o.0 o.1 in
      subst (IsReady step s most) (sym (get_or_from_slice_get jobs k o.0 d o.1)) (subst (ReadyFor step s most o.0.task) (ap pass_in (sym n.1)) n.2)

  module _ (Q : A → ServedSource A T S → Type 0) (L : Watched Z → Type 0) (old new : List (Job (RingTask T S A Z))) (n : length old ≡ length new)
      (ran : (k : ℕ) (d : Job (RingTask T S A Z)) → k < length old → Ran limits_of s Q L (slice_index_or old k d) (slice_index_or new k d)) where
    -- what each job did
    did_at : (k : ℕ) (o j : Job (RingTask T S A Z)) → slice_get old k ≡ Some o → slice_get new k ≡ Some j → Ran limits_of s Q L o j
    did_at k o j was is =
        let r = subst (λ (a : Job (RingTask T S A Z)). Ran limits_of s Q L a (slice_index_or new k j)) (get_or_from_slice_get old k o j was) (ran k j (slice_get_within old k o was)) in
        subst (λ (b : Job (RingTask T S A Z)). Ran limits_of s Q L o b) (get_or_from_slice_get new k j j is) r

    pub tasks_done : (k : ℕ) (t u : RingTask T S A Z) → slice_get (tasks_in old) k ≡ Some t → slice_get (tasks_in new) k ≡ Some u → HasDone Q L t u
    tasks_done k t u was is =
        let o = some_at old k (omega (arith, slice_get_within (tasks_in old) k t was, length-map old (λ (j : Job (RingTask T S A Z)). j.task))) in
        let j = some_at new k (omega (arith, slice_get_within (tasks_in new) k u is, length-map new (λ (j : Job (RingTask T S A Z)). j.task))) in
        let first : o.0.task ≡ t = cc (sym (task_got old k o.0 o.1) ∙ was) in
        let then : j.0.task ≡ u = cc (sym (task_got new k j.0 j.1) ∙ is) in
        subst (HasDone Q L t) then (subst (λ (a : RingTask T S A Z). HasDone Q L a j.0.task) first (did_at k o.0 j.0 o.1 j.1).1)

    module _ (are : (k : ℕ) (j : Job (RingTask T S A Z)) → slice_get old k ≡ Some j → ReadyAt k j) where
      all_done : (k : ℕ) (j : Job (RingTask T S A Z)) → slice_get new k ≡ Some j → (q : Pass Element) × (j.places.items ≡ Some q ∷ []) × MayEnd limits_of k s q
      all_done k j is =
          let o = some_at old k (omega (arith, slice_get_within new k j is, n)) in
          let w = are k o.0 o.1 in
          let t = did_at k o.0 j o.1 is in
          let d = ended_at limits_of s w.0 (pass_in j.places.items) (subst (λ (a : Option (Pass Element)). EndedFrom limits_of s a (pass_in j.places.items)) (ap pass_in w.1) t.0) in
          (d.0, one_place j.places.items d.0 d.1, subst (λ (m : ℕ). MayEnd limits_of m s d.0) w.3 d.2)

      -- what a task knows as the pass that is left is that pass
      known_as : (k : ℕ) (u : RingTask T S A Z) (v : Pass Element) → ((o : Option (Pass Element)) → KnowsPass u o → o ≡ Some v) → slice_get (tasks_in new) k ≡ Some u → (lent_to new k ≡ Some v ∷ []) × MayEnd limits_of k s v
      known_as k u v says is =
          let j = some_at new k (omega (arith, slice_get_within (tasks_in new) k u is, length-map new (λ (j : Job (RingTask T S A Z)). j.task))) in
          let o = some_at old k (omega (arith, slice_get_within new k j.0 j.1, n)) in
          let task : j.0.task ≡ u = cc (sym (task_got new k j.0 j.1) ∙ is) in
          let knows : pass_in j.0.places.items ≡ Some v = says (pass_in j.0.places.items) (subst (λ (t : RingTask T S A Z). KnowsPass t (pass_in j.0.places.items)) task (did_at k o.0 j.0 o.1 j.1).2) in
          let all = all_done k j.0 j.1 in
          let same : all.0 ≡ v = one (sym (ap pass_in all.1) ∙ knows) in
          (lent_got new k j.0 j.1 ∙ one_place j.0.places.items v knows, subst (λ (q : Pass Element). MayEnd limits_of k s q) same all.2)
        where
          one : {x y : Pass Element} → Some x ≡ Some y → x ≡ y
          one e = cc e

      -- so it is of what is left of a source, and of who looked
      pub known_pass : (k : ℕ) (d : ServedSource A T S) → slice_get (tasks_in new) k ≡ Some (Task'.Served d) → (lent_to new k ≡ Some d.pass.value ∷ []) × MayEnd limits_of k s d.pass.value
      known_pass k d is = known_as k (Task'.Served d) d.pass.value (λ o e. e) is

      pub known_watch : (k : ℕ) (w : Watched Z) → slice_get (tasks_in new) k ≡ Some (Task'.Watched w) → (lent_to new k ≡ Some w.pass.value ∷ []) × MayEnd limits_of k s w.pass.value
      known_watch k w is = known_as k (Task'.Watched w) w.pass.value (λ o e. e) is

      -- so the passes are lent when all jobs are done
      pub done_lent : (count : ℕ) → length s.given.quotas ≡ count → length new ≡ count + 1 → AreLent (MayEnd limits_of) 0 count (s ∷ []) (lent_to new)
      done_lent count c m =
          record {
            counts = (c, tt);
            others = λ p lt.
                let z : 0 + p ≡ p = omega arith in
                let j = some_at new p (omega (arith, lt, m)) in
                let d = all_done p j.0 j.1 in
                subst (AtEach (λ t o. Holds (MayEnd limits_of p t) o) (s ∷ [])) (sym (ap (lent_to new) z ∙ (lent_got new p j.0 j.1 ∙ d.1))) (d.2, tt);
            workers = last;
            first_none = λ i lt. absurd (omega (arith, lt));
            last_none = λ i le. past_jobs new i (omega (arith, le, m));
          }
        where
          last : (q : ℕ) (t : Named (Places X P (Keyed W T S) G)) → slice_get (s ∷ []) q ≡ Some t → (x : Pass Element) × (lent_to new (0 + count + q) ≡ Some x ∷ []) × MayEnd limits_of count t x
          last zero t is =
              let z : 0 + count + 0 ≡ count = omega arith in
              let j = some_at new count (omega (arith, m)) in
              let d = all_done count j.0 j.1 in
              (d.0, ap (lent_to new) z ∙ (lent_got new count j.0 j.1 ∙ d.1), (let same : s ≡ t = cc is in subst (λ (t : Named (Places X P (Keyed W T S) G)). MayEnd limits_of count t d.0) same d.2))
          last (suc q) t is = cc is
