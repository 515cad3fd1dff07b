-- The jobs are ready with new passes, and hold passes that may end when they are done.
use Rattle.std.proofs.Common.{◌≡◌, ℕ, suc, ◌+◌, ◌<◌, ◌≤◌, zero, inl, inr, Option, Some, None, List, [], ◌∷◌, ◌++◌, length, slice_get, slice_index_or, refl, ap, sym, ◌∙◌, arith, subst}
use Rattle.std.proofs.lemmas.Option.{get_or_from_slice_get, slice_get_within}
use Rattle.std.proofs.lemmas.Bool.{cases_eq}
use Rattle.std.proofs.lemmas.List.{length-map}
use Rattle.turn_gate.specs.Passes.{AreFresh, IsPassOf, number, seen}
use Rattle.turn_gate.specs.declared.pass.Pass.{Pass}
use Rattle.perimeter_core.specs.History.{Element, Limits}
use Rattle.squeue_state.specs.Naming.{Named}
use Rattle.histories.specs.Elements.{number_of}
use Rattle.squeue_serve.specs.declared.jobs.Job.{Job}
use Rattle.squeue_serve.specs.Places.{AtEach, Holds, MayEnd}
use Rattle.squeue_serve.specs.Lending.{AreHanded, AreLent, holder, lent_to, tasks_in}
use Rattle.squeue_serve.proofs.Lent.{lent_got, past_jobs}
use Rattle.histories.proofs.ListPlaces.{some_at}
use Rattle.squeue_serve.proofs.Coming.{holds_last, holds_other}
use Rattle.placed_parts.specs.declared.parts.Parts.{Ghosts}
use Rattle.placed_parts.specs.declared.places.Places.{Places}
use Rattle.placed_parts.specs.Placing.{limits_of, origin_of}
use Rattle.squeue_streams.specs.declared.streams.Stream.{Stream}
use Rattle.live_chats.specs.declared.chats.Chats.{Chats}
use Rattle.live_chats.specs.declared.item.ChatItem.{ChatItem}
use Rattle.live_chats.specs.Hearing.{ChatOf}
use Rattle.live_chats.specs.Telling.{first_of}
use Rattle.live_rings.specs.declared.ending.EndedRing.{EndedRing}
use Rattle.live_rings.specs.declared.ending.Ends.{Ends}
use Rattle.live_rings.specs.Seating.{ServesPlaces}
use Rattle.live_rings.proofs.FirstKnown.{fresh_at, knows_first}
use Rattle.live_rings.specs.declared.ring.ServerTask.{ServerTask}
use Rattle.live_rings.specs.declared.ring.ServerTask.TheVariants as Task'
use Rattle.live_rings.specs.Tasks.{AreNewTasks, EndedFrom, HasDone, IsNewTask, IsReady, KnowsPass, MayRun, Ran, ReadyFor, pass_in}

pub task_got : {S K : Type 0} (jobs : List (Job (ServerTask S K))) (k : ℕ) (j : Job (ServerTask S K)) → slice_get jobs k ≡ Some j → slice_get (tasks_in jobs) k ≡ Some j.task
task_got [] k j is = cc is
task_got {S = S} {K = K} (o ∷ jobs) zero j is = let same : o ≡ j = cc is in ap (λ (j : Job (ServerTask S K)). Some j.task) same
task_got (o ∷ jobs) (suc k) j is = task_got jobs k j is

one_place : (os : List (Option (Pass Element))) (q : Pass Element) → pass_in os ≡ Some q → os ≡ Some q ∷ []
one_place [] q is = cc is
one_place (o ∷ []) q is = ap (λ (o : Option (Pass Element)). o ∷ []) is
one_place (o ∷ n ∷ os) q is = cc is

module _ {R : Type 0} (limits : R → Limits) (s : Named R) where
  ended_at : (p : Pass Element) (n : Option (Pass Element)) → EndedFrom limits s (Some p) n → (q : Pass Element) × (n ≡ Some q) × MayEnd limits (number p) s q
  ended_at p None h = absurd h
  ended_at p (Some q) h = (q, refl, h)

-- the parts with which the squeue began
abbrev pub parts_of : {X P : Type 0} {G : Ghosts X P Chats} → Named (Places X P Chats G) → List (Stream ChatItem ChatOf)
parts_of s = first_of (origin_of s.given.first)

module _ {X P S K : Type 0} {G : Ghosts X P Chats} (s : Named (Places X P Chats G)) where
  -- a pass that has seen nothing may do its task
  may_new : (rings places : ℕ) → ServesPlaces limits_of s.given rings (length (parts_of s)) → length s.given.quotas ≡ rings → (task : ServerTask S K) (p : Pass Element) (k : ℕ) → IsNewTask rings places (parts_of s) k task → IsPassOf number_of s.gate p → number p ≡ k → seen p ≡ [] → MayRun s task p
  may_new rings places serves many (Task'.Serve ring) p k t is number_is none =
      let own = t.1.0 in
      (knows_first limits_of s (origin_of s.given.first) rings k serves p is number_is t.0 none ring.stays own, own.idle.none.0, own.idle.none.1)
  may_new rings places serves many (Task'.Served ended) p k t is number_is none = absurd t
  may_new rings places serves many Task'.Work p k t is number_is none = (is, omega (arith, number_is, t, many))

  -- the job holds the pass of this number, which may do the job's task
  abbrev pub ReadyAt : ℕ → Job (ServerTask S K) → Type 0
  ReadyAt k j = (x : Pass Element) × (j.places.items ≡ Some x ∷ []) × MayRun s j.task x × (number x ≡ k)

  pub all_new : (rings places : ℕ) → ServesPlaces limits_of s.given rings (length (parts_of s)) → length s.given.quotas ≡ rings → (count : ℕ) (jobs : List (Job (ServerTask S K))) (passes : List (Pass Element)) (old : ℕ → List (Option (Pass Element)))
      → AreNewTasks rings places (parts_of s) (tasks_in jobs) → AreHanded 0 count 0 passes old (lent_to jobs) → ((i : ℕ) → old i ≡ []) → AreFresh number_of s.gate 0 passes
      → (k : ℕ) (j : Job (ServerTask S K)) → k ≤ count → slice_get jobs k ≡ Some j → ReadyAt k j
  all_new rings places serves many count jobs passes old tasks handed none fresh k j le is =
      let r = handed.each k le in
      let at : holder 0 count 0 k ≡ k = elim (cases_eq k count) [
        | inl e ↦ ap (holder 0 count 0) e ∙ (holds_last 0 count 0 ∙ (let e : 0 + count + 0 ≡ k = omega (arith, e) in e))
        | inr n ↦ holds_other 0 count 0 k (omega (arith, le, n)) ∙ (let e : 0 + k ≡ k = omega arith in e)
      ] in
      let f = fresh_at number_of s.gate 0 passes k r.0 fresh r.1 in
      let n : number r.0 ≡ k = omega (arith, f.1) in
      let lies : j.places.items ≡ Some r.0 ∷ [] = sym (lent_got jobs k j is) ∙ (ap (lent_to jobs) (sym at) ∙ (r.2 ∙ ap (λ l. l ++ Some r.0 ∷ []) (none (holder 0 count 0 k)))) in
      (r.0, lies, may_new rings places serves many j.task r.0 k (tasks.each k j.task (task_got jobs k j is)) f.0 n f.2, n)

  pub all_ready : (jobs : List (Job (ServerTask S K))) → ((k : ℕ) (j : Job (ServerTask S K)) → slice_get jobs k ≡ Some j → ReadyAt k j) → (k : ℕ) (d : Job (ServerTask S K)) → k < length jobs → IsReady s (slice_index_or jobs k d)
  all_ready jobs new k d lt =
      let o = some_at jobs k lt in
      let n = new k o.0 o.1 in
      subst (IsReady s) (sym (get_or_from_slice_get jobs k o.0 d o.1)) (subst (ReadyFor s o.0.task) (ap pass_in (sym n.1)) n.2)

  module _ (Q : Ends S K → EndedRing S K → Type 0) (old new : List (Job (ServerTask S K))) (n : length old ≡ length new)
      (ran : (k : ℕ) (d : Job (ServerTask S K)) → k < length old → Ran limits_of s Q (slice_index_or old k d) (slice_index_or new k d)) where
    -- what each job did
    did_at : (k : ℕ) (o j : Job (ServerTask S K)) → slice_get old k ≡ Some o → slice_get new k ≡ Some j → Ran limits_of s Q o j
    did_at k o j was is =
        let r = subst (λ (a : Job (ServerTask S K)). Ran limits_of s Q a (slice_index_or new k j)) (get_or_from_slice_get old k o j was) (ran k j (slice_get_within old k o was)) in
        subst (λ (b : Job (ServerTask S K)). Ran limits_of s Q o b) (get_or_from_slice_get new k j j is) r

    pub tasks_done : (k : ℕ) (t u : ServerTask S K) → slice_get (tasks_in old) k ≡ Some t → slice_get (tasks_in new) k ≡ Some u → HasDone Q t u
    tasks_done k t u was is =
        let o = some_at old k (omega (arith, slice_get_within (tasks_in old) k t was, length-map old (λ (j : Job (ServerTask S K)). j.task))) in
        let j = some_at new k (omega (arith, slice_get_within (tasks_in new) k u is, length-map new (λ (j : Job (ServerTask S K)). j.task))) in
        let first : o.0.task ≡ t = cc (sym (task_got old k o.0 o.1) ∙ was) in
        let then : j.0.task ≡ u = cc (sym (task_got new k j.0 j.1) ∙ is) in
        subst (HasDone Q t) then (subst (λ (a : ServerTask S K). HasDone Q a j.0.task) first (did_at k o.0 j.0 o.1 j.1).1)

    module _ (are : (k : ℕ) (j : Job (ServerTask S K)) → slice_get old k ≡ Some j → ReadyAt k j) where
      all_done : (k : ℕ) (j : Job (ServerTask S K)) → slice_get new k ≡ Some j → (q : Pass Element) × (j.places.items ≡ Some q ∷ []) × MayEnd limits_of k s q
      all_done k j is =
          let o = some_at old k (omega (arith, slice_get_within new k j is, n)) in
          let w = are k o.0 o.1 in
          let t = did_at k o.0 j o.1 is in
          let d = ended_at limits_of s w.0 (pass_in j.places.items) (subst (λ (a : Option (Pass Element)). EndedFrom limits_of s a (pass_in j.places.items)) (ap pass_in w.1) t.0) in
          (d.0, one_place j.places.items d.0 d.1, subst (λ (m : ℕ). MayEnd limits_of m s d.0) w.3 d.2)

      -- what is left of a stream knows the pass that is left, which has its number
      pub known_pass : (k : ℕ) (d : EndedRing S K) → slice_get (tasks_in new) k ≡ Some (Task'.Served d) → (lent_to new k ≡ Some d.pass.value ∷ []) × (number d.pass.value ≡ k)
      known_pass k d is =
          let j = some_at new k (omega (arith, slice_get_within (tasks_in new) k (Task'.Served d) is, length-map new (λ (j : Job (ServerTask S K)). j.task))) in
          let o = some_at old k (omega (arith, slice_get_within new k j.0 j.1, n)) in
          let task : j.0.task ≡ Task'.Served d = cc (sym (task_got new k j.0 j.1) ∙ is) in
          let knows : pass_in j.0.places.items ≡ Some d.pass.value = subst (λ (u : ServerTask S K). KnowsPass u (pass_in j.0.places.items)) task (did_at k o.0 j.0 o.1 j.1).2 in
          let all = all_done k j.0 j.1 in
          let same : all.0 ≡ d.pass.value = one (sym (ap pass_in all.1) ∙ knows) in
          (lent_got new k j.0 j.1 ∙ one_place j.0.places.items d.pass.value knows, ap number (sym same) ∙ all.2.is_number)
        where
          one : {x y : Pass Element} → Some x ≡ Some y → x ≡ y
          one e = cc e

      -- so the passes are lent when all jobs are done
      pub done_lent : (count : ℕ) → length s.given.quotas ≡ count → length new ≡ count + 1 → AreLent (MayEnd limits_of) 0 count (s ∷ []) (lent_to new)
      done_lent count c m =
          record {
            counts = (c, tt);
            others = λ p lt.
                let z : 0 + p ≡ p = omega arith in
                let j = some_at new p (omega (arith, lt, m)) in
                let d = all_done p j.0 j.1 in
                subst (AtEach (λ t o. Holds (MayEnd limits_of p t) o) (s ∷ [])) (sym (ap (lent_to new) z ∙ (lent_got new p j.0 j.1 ∙ d.1))) (d.2, tt);
            workers = last;
            first_none = λ i lt. absurd (omega (arith, lt));
            last_none = λ i le. past_jobs new i (omega (arith, le, m));
          }
        where
          last : (q : ℕ) (t : Named (Places X P Chats G)) → slice_get (s ∷ []) q ≡ Some t → (x : Pass Element) × (lent_to new (0 + count + q) ≡ Some x ∷ []) × MayEnd limits_of count t x
          last zero t is =
              let z : 0 + count + 0 ≡ count = omega arith in
              let j = some_at new count (omega (arith, m)) in
              let d = all_done count j.0 j.1 in
              (d.0, ap (lent_to new) z ∙ (lent_got new count j.0 j.1 ∙ d.1), (let same : s ≡ t = cc is in subst (λ (t : Named (Places X P Chats G)). MayEnd limits_of count t d.0) same d.2))
          last (suc q) t is = cc is
