-- What is known when all jobs are done.
use Rattle.std.proofs.Common.{◌≡◌, ℕ, ◌+◌, ◌-◌, ◌<◌, Option, Some, None, List, [], ◌∷◌, ◌++◌, inl, inr, length, slice_get, slice_index_or, ap, sym, ◌∙◌, subst, arith}
use Rattle.std.proofs.lemmas.Bool.{cases_lt}
use Rattle.std.proofs.lemmas.Option.{slice_get_within}
use Rattle.turn_gate.specs.History.{Each}
use Rattle.turn_gate.specs.Passes.{IsPassOf, number, seen}
use Rattle.turn_gate.specs.declared.pass.Pass.{Pass}
use Rattle.perimeter_core.specs.History.{Element, Limits, run}
use Rattle.perimeter_core.specs.Ending.{IsOver}
use Rattle.squeue_state.specs.Naming.{Named, setting_of}
use Rattle.histories.specs.Elements.{number_of}
use Rattle.squeue_serve.specs.declared.jobs.Job.{Job}
use Rattle.squeue_serve.specs.Lending.{AreLent, lent_to, tasks_in}
use Rattle.squeue_serve.specs.Places.{AtEach, Holds, IsNew, MayEnd}
use Rattle.squeue_serve.proofs.Lent.{lent_got, past_jobs}
use Rattle.histories.proofs.ListPlaces.{some_at, got_map}
use Rattle.histories.specs.declared.mode.Mode.{Mode}
use Rattle.squeue_rings.specs.Paced.{ArePaced}
use Rattle.squeue_rings.specs.OwnMarks.{EachOwn, OfWorker}
use Rattle.squeue_rings.proofs.OwnMarks.{worker_own}
use Rattle.squeue_rings.proofs.PacedAll.{closed_paced}
use Rattle.squeue_rings.specs.declared.intake.Intake.{Intake}
use Rattle.squeue_rings.specs.declared.task.Task.{Task}
use Rattle.squeue_rings.specs.declared.task.Task.TheVariants as Task'
use Rattle.squeue_rings.specs.Ends.{CallerEnds, CallersEnd, CallersKeep, RingEnds, RingsEnd, WorkerEnds}
use Rattle.squeue_rings.specs.Doing.{HasBroughtIntake, HasDone, HaveDone, ThenClosed, called_by}
use Rattle.squeue_rings.specs.Tasks.{AreTasks, lists_of}
use Rattle.squeue_rings.proofs.Closes.{both}
use Rattle.squeue_rings.proofs.Closing.{callers_end, callers_keep, rings_end}
use Rattle.squeue_rings.proofs.Ready.{how_many, ring_task, worker_task}
use Rattle.squeue_rings.proofs.Works.{got_or}

each_two : {R : Type 0} (P Q : Named R → Type 0) (ss : List (Named R)) → Each P ss → Each Q ss → Each (λ s. P s × Q s) ss
each_two P Q [] a b = tt
each_two P Q (s ∷ ss) a b = ((a.0, b.0), each_two P Q ss a.1 b.1)

module _ {R : Type 0} (limits : R → Limits) where
  -- a pass whose number isn't the worker's
  may_end : (s : Named R) (n : ℕ) (o : Option (Pass Element)) (P : Pass Element → Type 0) → n < length s.given.quotas → ((x : Pass Element) → P x → IsPassOf number_of s.gate x × (number x ≡ n)) → Holds P o → Holds (MayEnd limits n s) o
  may_end s n None P lt f h = absurd h
  may_end s n (Some x) P lt f h = let i = f x h in record { pass = i.0; is_number = i.1; over = λ w. absurd (let e = i.1 in omega (arith, w, e, lt)) }

  abbrev HasEnd : Named R → Pass Element → Type 0
  HasEnd s x = IsOver (setting_of limits s.given) (run (setting_of limits s.given) (seen x))

  module _ (squeues spread : ℕ) (mode : Mode) (budget : ℕ) (calls : List (List ℕ)) (intakes : List Intake) (ss : List (Named R)) (jobs new : List (Job Task)) where
    abbrev Done : Task → List (Option (Pass Element)) → List (Option (Pass Element)) → Type 0
    Done t old now = HasDone limits squeues spread mode budget calls intakes ss t old now

    module _ (rings callers count : ℕ) (all : rings + callers ≡ count) (many : length ss ≡ squeues) (tasks : AreTasks rings callers squeues intakes (tasks_in jobs)) (lent : AreLent IsNew 1 count ss (lent_to jobs)) (same : length new ≡ length jobs) (ran : HaveDone limits squeues spread mode budget calls intakes ss jobs new) where
      -- what the job of a task has done
      done : (k : ℕ) (t : Task) → k < length jobs → slice_get (tasks_in jobs) k ≡ Some t → Done t (lent_to jobs k) (lent_to new k)
      done k t lt at =
          let j = some_at jobs k lt in
          let n = some_at new k (omega (arith, lt, same)) in
          let h = ran k j.0 lt in
          let i : Some j.0.task ≡ Some t = sym (got_map (λ (j : Job Task). j.task) jobs k j.0 j.1) ∙ at in
          let its : j.0.task ≡ t = cc i in
          let old = got_or jobs k j.0 j.0 j.1 in
          let now = got_or new k n.0 j.0 n.1 in
          let a : Done j.0.task j.0.places.items (slice_index_or new k j.0).places.items = subst (λ (i : Job Task). Done i.task i.places.items (slice_index_or new k j.0).places.items) old h in
          let b : Done j.0.task j.0.places.items n.0.places.items = subst (λ (i : Job Task). Done j.0.task j.0.places.items i.places.items) now a in
          let c : Done t j.0.places.items n.0.places.items = subst (λ (u : Task). Done u j.0.places.items n.0.places.items) its b in
          subst (λ (os : List (Option (Pass Element))). Done t os (lent_to new k)) (sym (lent_got jobs k j.0 j.1))
          (subst (λ (os : List (Option (Pass Element))). Done t j.0.places.items os) (sym (lent_got new k n.0 n.1)) c)

      number_of_jobs : length jobs ≡ 1 + count + squeues
      number_of_jobs = how_many rings callers count squeues all intakes jobs tasks

      intake_done : (r : ℕ) → r < rings → ThenClosed limits ss (HasBroughtIntake limits squeues spread mode budget intakes ss r) (lent_to new (1 + r))
      intake_done r lt =
          let t = ring_task rings callers count squeues all intakes jobs tasks r lt in
          let n = number_of_jobs in
          subst (λ (k : ℕ). ThenClosed limits ss (HasBroughtIntake limits squeues spread mode budget intakes ss k) (lent_to new (1 + r))) t.4.number (done (1 + r) (Task'.Bring t.1) (omega (arith, lt, n, all)) t.3)

      -- by its passes each ring has brought its intake
      pub ring_done : (r : ℕ) → r < rings → RingsEnd limits squeues spread r (lists_of intakes r) ss (lent_to new (1 + r))
      ring_done r lt = let h = intake_done r lt in rings_end limits ss h.0 (lent_to new (1 + r)) h.2 squeues spread r (lists_of intakes r) h.1.at

      -- and kept the homes, the mode and the budget
      pub ring_paced : (r : ℕ) → r < rings → ArePaced limits squeues spread mode budget r ss (lent_to new (1 + r))
      ring_paced r lt = let h = intake_done r lt in closed_paced limits squeues spread mode budget r ss (lists_of intakes r) (lists_of intakes r) h.0 (lent_to new (1 + r)) h.1.at h.2 h.1.paced

      -- each application thread has made its calls
      pub caller_done : (j : ℕ) → j < callers → CallersEnd j (called_by calls j) ss (lent_to new (1 + (rings + j)))
      caller_done j lt =
          let n = number_of_jobs in
          let h = done (1 + (rings + j)) (Task'.Call j) (omega (arith, lt, n, all)) (tasks.callers_are j lt) in
          callers_end limits ss h.0 (lent_to new (1 + (rings + j))) h.2 j (called_by calls j) h.1

      -- and left only with these, or where a block was gone
      pub caller_kept : (j : ℕ) → j < callers → CallersKeep limits j ss (lent_to new (1 + (rings + j)))
      caller_kept j lt =
          let n = number_of_jobs in
          let h = done (1 + (rings + j)) (Task'.Call j) (omega (arith, lt, n, all)) (tasks.callers_are j lt) in
          callers_keep limits ss h.0 (lent_to new (1 + (rings + j))) h.2 j (called_by calls j) h.1

      worker_done : (q : ℕ) (s : Named R) → slice_get ss q ≡ Some s → (x : Pass Element) × (lent_to new (1 + count + q) ≡ Some x ∷ []) × MayEnd limits count s x
      worker_done q s at =
          let n = number_of_jobs in
          let lt : q < squeues = (let w = slice_get_within ss q s at in omega (arith, w, many)) in
          let h = done (1 + count + q) (Task'.Drain q) (omega (arith, lt, n)) (worker_task rings callers count squeues all intakes jobs tasks q lt) in
          let first = lent.workers q s at in
          let i : Some h.0 ≡ Some s = sym h.3 ∙ at in
          let it : h.0 ≡ s = cc i in
          let j : Some h.1 ∷ [] ≡ Some first.0 ∷ [] = sym h.4 ∙ first.1 in
          let from : h.1 ≡ first.0 = cc j in (
            h.2,
            h.5,
            record {
              pass = subst (λ (s : Named R). IsPassOf number_of s.gate h.2) it h.6.0.goes_on.is_pass;
              is_number = h.6.0.goes_on.same_number ∙ (ap number from ∙ first.2.is_number);
              over = λ w. subst (λ (s : Named R). HasEnd s h.2) it h.6.1;
            },
          )

      -- and left nothing wherever it left
      pub worker_left : (q : ℕ) (s : Named R) → slice_get ss q ≡ Some s → (x : Pass Element) × (lent_to new (1 + count + q) ≡ Some x ∷ []) × WorkerEnds limits count s x
      worker_left q s at =
          let n = number_of_jobs in
          let lt : q < squeues = (let w = slice_get_within ss q s at in omega (arith, w, many)) in
          let h = done (1 + count + q) (Task'.Drain q) (omega (arith, lt, n)) (worker_task rings callers count squeues all intakes jobs tasks q lt) in
          let first = lent.workers q s at in
          let i : Some h.0 ≡ Some s = sym h.3 ∙ at in
          let it : h.0 ≡ s = cc i in
          let j : Some h.1 ∷ [] ≡ Some first.0 ∷ [] = sym h.4 ∙ first.1 in
          let from : h.1 ≡ first.0 = cc j in
          let its_number : number h.1 ≡ count = ap number from ∙ first.2.is_number in
          let none_seen : seen h.1 ≡ [] = ap seen from ∙ first.2.none_seen in
          let all_seen : seen h.2 ≡ h.6.0.since = h.6.0.now_seen ∙ ap (λ l. l ++ h.6.0.since) none_seen in
          let own : EachOwn (OfWorker (setting_of limits h.0.given)) (number h.1) (seen h.1) h.6.0.since = worker_own (setting_of limits h.0.given) (number h.1) (seen h.1) h.6.0.since h.6.0.leaves in (
            h.2,
            h.5,
            record {
              pass = subst (λ (s : Named R). IsPassOf number_of s.gate h.2) it h.6.0.goes_on.is_pass;
              is_number = h.6.0.goes_on.same_number ∙ its_number;
              exact = subst (λ (s : Named R). EachOwn (OfWorker (setting_of limits s.given)) count [] (seen h.2)) it
                  (subst (λ (K : List Element). EachOwn (OfWorker (setting_of limits h.0.given)) count [] K) (sym all_seen)
                  (subst (λ (past : List Element). EachOwn (OfWorker (setting_of limits h.0.given)) count past h.6.0.since) none_seen
                  (subst (λ (p : ℕ). EachOwn (OfWorker (setting_of limits h.0.given)) p (seen h.1) h.6.0.since) its_number own)));
            },
          )

      -- so all passes may come back
      pub lent_back : Each (λ (s : Named R). s.given.rings ≡ rings) ss → AreLent (MayEnd limits) 1 count ss (lent_to new)
      lent_back their_rings =
          record {
            counts = lent.counts;
            others = λ k lt. elim (cases_lt k rings) [
              | inl ring ↦
                  both (λ (s : Named R). length s.given.quotas ≡ count) (λ s o. Holds (RingEnds limits squeues spread k (lists_of intakes k) s) o) (λ s o. Holds (MayEnd limits k s) o)
                  (λ s o e h. may_end s k o (RingEnds limits squeues spread k (lists_of intakes k) s) (omega (arith, ring, e, all)) (λ x i. (i.pass, i.is_number)) h)
                  ss (lent_to new (1 + k)) lent.counts (ring_done k ring).each
              | inr past ↦
                  let j : ℕ = k - rings in
                  let less : j < callers = omega (arith, past, lt, all) in
                  let z : rings + j ≡ k = omega (arith, past) in
                  subst (λ (k : ℕ). AtEach (λ s o. Holds (MayEnd limits k s) o) ss (lent_to new (1 + k))) z (caller_ends j less)
            ];
            workers = worker_done;
            first_none = λ i lt.
                let z : 0 ≡ i = omega (arith, lt) in
                let n = number_of_jobs in
                subst (λ (k : ℕ). lent_to new k ≡ []) z (done 0 (Task'.Feed tasks.feeder.0) (omega (arith, n)) tasks.feeder.1 ∙ lent.first_none 0 (omega arith));
            last_none = λ i le. let n = number_of_jobs in past_jobs new i (omega (arith, le, n, many, same));
          }
        where
          caller_ends : (j : ℕ) → j < callers → AtEach (λ s o. Holds (MayEnd limits (rings + j) s) o) ss (lent_to new (1 + (rings + j)))
          caller_ends j lt =
              both (λ (s : Named R). (s.given.rings ≡ rings) × (length s.given.quotas ≡ count)) (λ s o. Holds (CallerEnds j s) o) (λ s o. Holds (MayEnd limits (rings + j) s) o)
              (λ s o e h. may_end s (rings + j) o (CallerEnds j s) (let n = e.1 in omega (arith, lt, n, all)) (λ x i. (i.pass, i.is_number ∙ ap (λ (k : ℕ). k + j) e.0)) h)
              ss (lent_to new (1 + (rings + j))) (each_two (λ (s : Named R). s.given.rings ≡ rings) (λ (s : Named R). length s.given.quotas ≡ count) ss their_rings lent.counts) (caller_done j lt).each

  -- the same at equal numbers
  pub at_pace : (calls : List (List ℕ)) (intakes : List Intake) (ss : List (Named R)) (jobs new : List (Job Task)) (m n : ℕ) (o : Mode) (k squeues spread : ℕ) (mode : Mode) (budget : ℕ) → m ≡ squeues → n ≡ spread → o ≡ mode → k ≡ budget
      → HaveDone limits m n o k calls intakes ss jobs new → HaveDone limits squeues spread mode budget calls intakes ss jobs new
  at_pace calls intakes ss jobs new m n o k squeues spread mode budget a b u v h =
      let Of : ℕ → ℕ → Mode → ℕ → Type 0 = λ m n o k. HaveDone limits m n o k calls intakes ss jobs new in
      subst (Of squeues spread mode) v (subst (λ (o : Mode). Of squeues spread o k) u (subst (λ (n : ℕ). Of squeues n o k) b (subst (λ (m : ℕ). Of m n o k) a h)))
